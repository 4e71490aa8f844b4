-- The rows of what a script expects of registers.
use Rattle.std.specs.Prelude.{ℕ, ◌==◌, List, [], ◌∷◌, if◌then◌else◌, codes}
use Rattle.pmp_text.specs.declared.expectation.Expectation.{Expectation}
use Rattle.pmp_text.specs.declared.lines.row_kind.RowKind.TheVariants as kind
use Rattle.pmp_text.specs.Cells.{Number, Word, RowValue, nothing}
use Rattle.pmp_text.specs.Hexadecimal.{value_text}
use Rattle.pmp_text.specs.Names.{register_name}

-- whether the register reads what is expected
abbrev pub expected_text : (expected value : ℕ) → List ℕ
expected_text expected value = if value == expected then codes "expected" else codes "differs"

-- under the columns of an event: the line, the register's name, the expected value, what the register reads, and
-- whether they agree
abbrev pub expected_row : Expectation → (value : ℕ) → RowValue
expected_row expectation value = record {
  kind = kind.Effect;
  cells = nothing ∷ nothing ∷ Number expectation.line ∷ Word (register_name expectation.register)
      ∷ Word (value_text expectation.value) ∷ nothing ∷ Word (value_text value)
      ∷ Word (expected_text expectation.value value) ∷ nothing ∷ nothing ∷ [];
}
