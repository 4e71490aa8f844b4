-- What numbers name.
use Rattle.std.specs.Prelude.{◌≡◌, ◌==◌, ◌⊎◌, ℕ, Option, Some, None, option_map, if◌then◌else◌}
use Rattle.pmp_core.specs.declared.access.Kind.{Kind}
use Rattle.pmp_core.specs.declared.access.Mode.{Mode}
use Rattle.pmp_core.specs.Access.{access_fault}
use Rattle.pmp_map.specs.Request.{kind_number, mode_number}
use Rattle.pmp_text.specs.Refusals.{refusal_of_access}
use Rattle.pmp_text.specs.declared.refusal.Refusal.{Refusal}
use Rattle.pmp_text.specs.declared.refusal.Refusal.TheVariants.{BadWord}
use Rattle.pmp_import.specs.declared.format.Format.{Format}
use Rattle.pmp_import.specs.declared.format.Format.TheVariants.{Qemu, Gdb, OpenOcd, Spike, Dump}
use Rattle.pmp_audit.specs.declared.view.Listing.TheVariants.{Runs, Entries}
use Rattle.pmp_audit.specs.declared.view.View.TheVariants.{Picture, Registers}
use Rattle.pmp_text.specs.declared.lines.row_kind.RowKind.{RowKind}
use Rattle.pmp_text.specs.declared.lines.row_kind.RowKind.TheVariants.{Run, Entry, Effect, Verdict, Finding, Rights}
use Rattle.pmp_text.specs.declared.lines.row_kind.RowKind.TheVariants.{Reason, Answer}
use Rattle.pmp_web.specs.declared.request.Shown.{Shown}
use Rattle.pmp_web.specs.declared.request.Shown.TheVariants.{Rows, Text}

-- some mode and some kind have these numbers
abbrev pub AreNamed : (mode kind : ℕ) → Type 0
AreNamed mode kind = (m : Mode) × (k : Kind) × (mode_number m ≡ mode) × (kind_number k ≡ kind)

-- the refusal of numbers that name no access: for the mode or the kind, else for the bytes
abbrev pub NamesNone : (mode kind start length : ℕ) → Refusal → Type 0
NamesNone mode kind start length refusal =
    ((refusal ≡ BadWord) × ¬ (AreNamed mode kind))
    ⊎ (AreNamed mode kind × (option_map refusal_of_access (access_fault start length) ≡ Some refusal))

abbrev pub shown_by : ℕ → Option Shown
shown_by number =
    if number == 0 then Some (Rows Runs) else (if number == 1 then Some (Text Picture)
    else (if number == 2 then Some (Rows Entries) else (if number == 3 then Some (Text Registers) else None)))

abbrev pub row_kind_of : ℕ → Option RowKind
row_kind_of number =
    if number == 0 then Some Run else (if number == 1 then Some Entry else (if number == 2 then Some Effect
    else (if number == 3 then Some Verdict else (if number == 4 then Some Finding
    else (if number == 5 then Some Rights else (if number == 6 then Some Reason
    else (if number == 7 then Some Answer else None)))))))

abbrev pub format_of : ℕ → Option Format
format_of number =
    if number == 0 then Some Qemu else (if number == 1 then Some Gdb
    else (if number == 2 then Some OpenOcd else (if number == 3 then Some Spike
    else (if number == 4 then Some Dump else None))))
