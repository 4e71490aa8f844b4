-- What is told of findings, one after the other.
use Rattle.std.specs.Prelude.{◌≡◌, ◌+◌, ℕ, List}
use Rattle.pmp_text.specs.Cells.{RowValue}
use Rattle.pmp_lint.specs.declared.finding.Finding.{Finding}
use Rattle.pmp_lint.specs.declared.told.Told.{Told}
use Rattle.pmp_lint.specs.Findings.{told_count, told_rows}

-- which findings aren't told, where the rows of the others went so far, and how many these are
pub record Telling (A : Type 0) : Type 0 where
  pub accepted : List ℕ
  pub rows : A
  pub count : ℕ

abbrev pub so_far : {A : Type 0} → List ℕ → (rows : A) → (count : ℕ) → Telling A
so_far accepted rows count = record { accepted = accepted; rows = rows; count = count }

abbrev pub telling : {A : Type 0} → (rows : A) → Told → Telling A
telling rows told = so_far told.accepted.now rows told.count

module _ {A : Type 0} (Adds : List RowValue → A → A → Type 0) where
  -- these findings were told
  pub record HasTold (findings : List Finding) (before after : Telling A) : Type 0 where
    pub same : after.accepted ≡ before.accepted
    pub added : Adds (told_rows before.accepted findings) before.rows after.rows
    pub counted : after.count ≡ before.count + told_count before.accepted findings

  -- such findings were told
  pub record HasToldSome (Are : List Finding → Type 0) (before after : Telling A) : Type 0 where
    pub findings : List Finding
    pub findings_are : Are findings
    pub has_told : HasTold findings before after
