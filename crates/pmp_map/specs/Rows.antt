-- The answers if all bytes of an access have one owner, as a row by mode and kind.
use Rattle.std.specs.Prelude.{◌≡◌, ℕ, ◌<◌, Option, IfSome, List, [], slice_index}
use Rattle.std.specs.List.{slice_index_or}
use Rattle.pmp_core.specs.declared.access.Mode.{Mode}
use Rattle.pmp_core.specs.declared.access.Kind.{Kind}
use Rattle.pmp_core.specs.RegisterFile.{RegisterFile}
use Rattle.pmp_core.specs.Rights.{allows}
use Rattle.pmp_map.specs.Answers.{owned_rights, whole_cause}
use Rattle.pmp_map.specs.Answer.{number_by}
use Rattle.pmp_map.specs.Columns.{column_of}

-- the answer to an access of this mode and kind, whose bytes all have this owner
abbrev pub owned_answer : RegisterFile → Option ℕ → Mode → Kind → ℕ
owned_answer file owner mode kind = number_by kind (whole_cause owner) (allows (owned_rights file owner mode) kind)

-- the row has the owner's answers
pub record IsRow (file : RegisterFile) (owner : Option ℕ) (row : List ℕ) : Type 0 where
  pub number : IfSome owner (λ i. i < 256)
  pub answers : (mode : Mode) (kind : Kind) → slice_index row (column_of mode kind) ≡ owned_answer file owner mode kind

-- row k, or past the last, an empty one
abbrev pub row_at : List (List ℕ) → ℕ → List ℕ
row_at rows k = slice_index_or rows k []
