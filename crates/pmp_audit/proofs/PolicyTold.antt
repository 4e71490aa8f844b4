-- What is told of a policy's row, once it is added.
use Rattle.std.proofs.Common.{ℕ, List, [], ◌∷◌, OnOk, Option, Result, Ok, Err}
use Rattle.pmp_text.specs.declared.lines.verdict.Verdict.{Verdict}
use Rattle.pmp_text.specs.Cells.{RowValue}
use Rattle.pmp_text.specs.Labels.{LabelText}
use Rattle.pmp_text.specs.Verdicts.{verdict_row}
use Rattle.pmp_audit.specs.PolicyTexts.{told_rows}

module _ {A : Type 0} (Adds : List RowValue → A → A → Type 0) (Is : List Verdict → Type 0) (number : ℕ)
    (label : Option LabelText) (old new : A) where
  pub some_told : {T E : Type 0} (told : List Verdict) (result : Result T E) → Is told
      → OnOk result (Adds (told_rows number label told) old new)
      → OnOk result ((told : List Verdict) × Is told × Adds (told_rows number label told) old new)
  some_told told (Ok value) is added = (told, is, added)
  some_told told (Err error) is added = tt

  pub one_told : {T E : Type 0} (verdict : Verdict) (result : Result T E) → Is (verdict ∷ [])
      → OnOk result (Adds (verdict_row number verdict label ∷ []) old new)
      → OnOk result ((told : List Verdict) × Is told × Adds (told_rows number label told) old new)
  one_told verdict result is added = some_told (verdict ∷ []) result is added
