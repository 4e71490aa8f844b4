-- The rows of what an event of a script does to a register.
use Rattle.std.specs.Prelude.{ℕ, ◌==◌, List, [], ◌∷◌, ◌++◌, map, if◌then◌else◌, codes, decimal}
use Rattle.std.specs.List.{join_with_byte}
use Rattle.pmp_core.specs.declared.csr.Csr.{Csr}
use Rattle.pmp_core.specs.declared.event.Event.{Event}
use Rattle.pmp_core.specs.declared.event.Event.TheVariants.{Write, Reset}
use Rattle.pmp_core.specs.declared.write_reasons.WriteReason.{WriteReason}
use Rattle.pmp_core.specs.declared.write_reasons.WriteReason.TheVariants.{Absent, Bits, Frozen, Tor, Reserved, Lockdown}
use Rattle.pmp_core.specs.declared.write_reasons.WriteReason.TheVariants.{Sticky, Bypass, Grain}
use Rattle.pmp_text.specs.declared.lines.row_kind.RowKind.TheVariants as kind
use Rattle.pmp_core.specs.RegisterFile.{RegisterFile}
use Rattle.pmp_core.specs.RegisterValue.{register_value}
use Rattle.pmp_core.specs.RegisterWrite.{written}
use Rattle.pmp_core.specs.WriteReasons.{write_reasons, entries_with_reasons}
use Rattle.pmp_text.specs.declared.lines.effects.EventPlace.{EventPlace}
use Rattle.pmp_text.specs.Cells.{CellValue, Number, Word, RowValue, nothing}
use Rattle.pmp_text.specs.Hexadecimal.{value_text}
use Rattle.pmp_text.specs.Names.{register_name}

-- what the write did, by the value written and what the register reads before and after
abbrev pub effect_text : (value before after : ℕ) → List ℕ
effect_text value before after =
    if after == value then codes "stored" else (if after == before then codes "ignored" else codes "altered")

abbrev pub reason_text : WriteReason → List ℕ
reason_text Absent = codes "absent"
reason_text Bits = codes "bits"
reason_text Frozen = codes "frozen"
reason_text Tor = codes "tor"
reason_text Reserved = codes "reserved"
reason_text Lockdown = codes "lockdown"
reason_text Sticky = codes "sticky"
reason_text Bypass = codes "bypass"
reason_text Grain = codes "grain"

-- the reasons why the register doesn't read the value, separated by one space
abbrev pub reasons_text : RegisterFile → Csr → (value : ℕ) → List ℕ
reasons_text file csr value = join_with_byte 32 (map reason_text (write_reasons file csr value))

-- the entries with reasons, ascending, separated by one space
abbrev pub entries_text : RegisterFile → Csr → (value : ℕ) → List ℕ
entries_text file csr value = join_with_byte 32 (map decimal (entries_with_reasons file csr value))

-- the register's name, the value, what the register reads before and after, the effect, the reasons, the entries
abbrev pub event_cells : RegisterFile → Event → List CellValue
event_cells file (Write csr value) =
    let before = register_value file csr in
    let after = register_value (written file csr value) csr in
    Word (register_name csr) ∷ Word (value_text value) ∷ Word (value_text before) ∷ Word (value_text after)
    ∷ Word (effect_text value before after) ∷ Word (reasons_text file csr value)
    ∷ Word (entries_text file csr value) ∷ []
event_cells file Reset =
    Word (codes "reset") ∷ nothing ∷ nothing ∷ nothing ∷ Word (codes "reset") ∷ nothing ∷ nothing ∷ []

-- the row of an event at this place, with this file before it
abbrev pub effect_row : EventPlace → RegisterFile → Event → RowValue
effect_row place file event = record {
  kind = kind.Effect;
  cells = Number place.number ∷ Number place.publication ∷ Number place.line ∷ event_cells file event;
}
