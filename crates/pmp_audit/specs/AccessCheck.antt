-- The result of checking an access.
use Rattle.std.specs.Prelude.{◌≡◌, ℕ, ◌≤◌, List, [], ◌∷◌, length, Option, Ok}
use Rattle.pmp_core.specs.declared.access.Access.{Access}
use Rattle.pmp_core.specs.declared.decision.Decision.{Decision}
use Rattle.pmp_core.specs.Decision.{IsDecision}
use Rattle.pmp_text.specs.declared.moments.When.{When}
use Rattle.pmp_text.specs.AnswerRows.{answer_row}
use Rattle.pmp_text.specs.Cells.{RowValue}
use Rattle.pmp_text.specs.Contents.{ScriptContents}
use Rattle.pmp_text.specs.Reports.{file_of_script}
use Rattle.pmp_text.specs.Scripts.{script_meaning}
use Rattle.pmp_audit.specs.AskedFile.{IsAsked}

-- the script has these contents, and at least as many publications as are asked for; the decision is the manual's after
-- those (3.7.1.3), and its row has the number 1
pub record CheckSays (script : List ℕ) (access : Access) (after : Option When) (decision : Decision)
    (rows : List RowValue) : Type 0 where
  pub contents : ScriptContents
  pub script_means : script_meaning script ≡ Ok contents
  pub done : ℕ
  pub asked : IsAsked after contents done
  pub within : done ≤ length contents.batches
  pub by_bytes : IsDecision (file_of_script contents done) access decision
  pub rows_are : rows ≡ answer_row 1 access decision ∷ []
