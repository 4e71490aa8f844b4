-- The rows of how two register files differ in the modes' rights to bytes, or in how bytes are locked.
use Rattle.std.specs.Prelude.{ℕ, ◌/◌, ◌%◌, ◌==◌, Bool, true, false, ◌&&◌, ◌||◌, not, List, [], ◌∷◌, ◌++◌}
use Rattle.std.specs.Prelude.{Option, Some, None, codes, if◌then◌else◌}
use Rattle.std.specs.List.{count_by, flat_map}
use Rattle.std.specs.Option.{is_some}
use Rattle.pmp_core.specs.declared.access.Kind.{Kind}
use Rattle.pmp_core.specs.declared.access.Kind.TheVariants.{Fetch, Load, Store}
use Rattle.pmp_core.specs.declared.perms.Perms.{Perms}
use Rattle.pmp_core.specs.Perms.{right_of}
use Rattle.pmp_map.specs.declared.mode_rights.ModeRights.{ModeRights}
use Rattle.pmp_map.specs.declared.byte_lock.ByteLock.{ByteLock}
use Rattle.pmp_map.specs.declared.byte_lock.ByteLock.TheVariants.{Open, Bypassed, Frozen, Held}
use Rattle.pmp_map.specs.declared.compared.Compared.{Compared}
use Rattle.pmp_map.specs.declared.compared.Compared.TheVariants.{Rights, Locks}
use Rattle.pmp_map.specs.declared.compared_run.ComparedRun.{ComparedRun}
use Rattle.pmp_text.specs.declared.lines.changes.Change.{Change}
use Rattle.pmp_text.specs.declared.lines.changes.Change.TheVariants.{More, Less, Both}
use Rattle.pmp_text.specs.declared.lines.changes.Only.{Only}
use Rattle.pmp_text.specs.declared.lines.changes.Only.TheVariants as only
use Rattle.pmp_text.specs.declared.lines.row_kind.RowKind.TheVariants as kind
use Rattle.pmp_text.specs.Cells.{CellValue, Address, Word, RowValue}
use Rattle.pmp_text.specs.RightsTexts.{perms_text}

-- the set has the right that an access of this kind needs
abbrev pub has_right : Perms → Kind → Bool
has_right perms kind = perms.0 / (right_of kind).0 % 2 == 1

-- the first set has a right that the second lacks
abbrev pub has_beyond : Perms → Perms → Bool
has_beyond one other =
    has_right one Load && not (has_right other Load)
    || (has_right one Store && not (has_right other Store)
    || has_right one Fetch && not (has_right other Fetch))

-- in some mode
abbrev pub goes_beyond : ModeRights → ModeRights → Bool
goes_beyond one other = has_beyond one.machine other.machine || has_beyond one.others other.others

-- `more` if nothing is lost, `less` if nothing is gained
abbrev pub change_by : (is_lost is_gained : Bool) → Option Change
change_by false false = None
change_by false true = Some More
change_by true false = Some Less
change_by true true = Some Both

-- how the new rights differ from the old ones, if they do
abbrev pub change_of : (old new : ModeRights) → Option Change
change_of old new = change_by (goes_beyond old new) (goes_beyond new old)

-- `--only more` leaves out `less`, and `--only less` leaves out `more`
abbrev pub is_asked : Option Only → Change → Bool
is_asked (Some only.More) Less = false
is_asked (Some only.Less) More = false
is_asked _ _ = true

-- how it differs, if that is asked for
abbrev pub asked_of : Option Only → Option Change → Option Change
asked_of only None = None
asked_of only (Some change) = if is_asked only change then Some change else None

abbrev pub asked_change : Option Only → (old new : ModeRights) → Option Change
asked_change only old new = asked_of only (change_of old new)

abbrev pub change_text : Change → List ℕ
change_text More = codes "more"
change_text Less = codes "less"
change_text Both = codes "both"

-- the first and the last byte, and the cells after them
abbrev pub run_cells : ComparedRun → List CellValue → List CellValue
run_cells run cells = Address run.first ∷ Address run.last ∷ cells

-- the rights of M-mode and of S-mode and U-mode in the old file, the same in the new, and how they differ
abbrev pub rights_row : ComparedRun → (old new : ModeRights) → Change → RowValue
rights_row run old new change = record {
  kind = kind.Rights;
  cells = run_cells run (Word (perms_text old.machine) ∷ Word (perms_text old.others)
      ∷ Word (perms_text new.machine) ∷ Word (perms_text new.others) ∷ Word (change_text change) ∷ []);
}

-- how bytes are locked: as in their entry's row, or `held`
abbrev pub byte_lock_text : ByteLock → List ℕ
byte_lock_text Open = codes "-"
byte_lock_text Bypassed = codes "bypassed"
byte_lock_text Frozen = codes "frozen"
byte_lock_text Held = codes "held"

abbrev pub is_same_lock : (one other : ByteLock) → Bool
is_same_lock Open Open = true
is_same_lock Bypassed Bypassed = true
is_same_lock Frozen Frozen = true
is_same_lock Held Held = true
is_same_lock _ _ = false

-- how they are locked in the old file, and in the new
abbrev pub locks_row : ComparedRun → (old new : ByteLock) → RowValue
locks_row run old new = record {
  kind = kind.Locks;
  cells = run_cells run (Word (byte_lock_text old) ∷ Word (byte_lock_text new) ∷ []);
}

abbrev pub rights_rows : ComparedRun → (old new : ModeRights) → Option Change → List RowValue
rights_rows run old new None = []
rights_rows run old new (Some change) = rights_row run old new change ∷ []

abbrev pub locks_rows : ComparedRun → (old new : ByteLock) → (is_same : Bool) → List RowValue
locks_rows run old new true = []
locks_rows run old new false = locks_row run old new ∷ []

abbrev pub rows_by : Option Only → ComparedRun → Compared → List RowValue
rows_by only run (Rights old new) = rights_rows run old new (asked_change only old new)
rows_by only run (Locks old new) = locks_rows run old new (is_same_lock old new)

abbrev pub has_by : Option Only → Compared → Bool
has_by only (Rights old new) = is_some (asked_change only old new)
has_by only (Locks old new) = not (is_same_lock old new)

-- a run's row, if it has one: of rights that differ as asked for, or of locks that differ
unfoldable pub asked_rows : Option Only → ComparedRun → List RowValue
asked_rows only run = rows_by only run run.both

unfoldable pub has_row : Option Only → ComparedRun → Bool
has_row only run = has_by only run.both

-- a row for each run where the files differ as asked for
abbrev pub change_rows : Option Only → List ComparedRun → List RowValue
change_rows only runs = flat_map (asked_rows only) runs

-- the number of these rows
abbrev pub change_count : Option Only → List ComparedRun → ℕ
change_count only runs = count_by (has_row only) runs
