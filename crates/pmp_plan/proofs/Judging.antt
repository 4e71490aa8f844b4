-- The verdicts on a plan's rows.
use Rattle.std.proofs.Common.{◌≡◌, ◌∙◌, sym, ap, arith, subst, ℕ, ◌+◌, ◌<◌, List, [], ◌∷◌, ◌++◌, get_or, length, take}
use Rattle.std.proofs.Common.{Option, Some, None}
use Rattle.std.proofs.lemmas.List.{length-take-le, take_more}
use Rattle.std.specs.Prelude.{MatchOption}
use Rattle.pmp_core.specs.RegisterFile.{RegisterFile}
use Rattle.pmp_plan.specs.declared.plan_row.PlanRow.{PlanRow}
use Rattle.pmp_plan.specs.declared.unmet.Unmet.{Unmet}
use Rattle.pmp_plan.specs.Verdicts.{AreJudged, IsFirst, IsVerdict, one_more, verdict_line}
use Rattle.pmp_plan.specs.Walks.{GivesFrom}
use Rattle.pmp_plan.proofs.Giving.{row_has}

-- that on a row is that on its bytes
pub row_verdict : (file : RegisterFile) (row : PlanRow) (unmet : Option Unmet)
    → MatchOption unmet (GivesFrom file row.demand row.first row.last) (IsFirst file row.demand row.first row.last)
    → IsVerdict file row unmet
row_verdict file row None all = λ byte is. let has = row_has row byte is in all byte has.0 has.1
row_verdict file row (Some it) first = first

-- one more of the rows is judged
pub judged_more : (file : RegisterFile) (rows : List PlanRow) (i : ℕ) (row : PlanRow) (unmet : Option Unmet)
    (text : List ℕ) → i < length rows → row ≡ get_or rows i row → AreJudged file (take i rows) text
    → IsVerdict file row unmet → AreJudged file (take (i + 1) rows) (text ++ verdict_line (i + 1) unmet)
judged_more file rows i row unmet text lt is judged verdict =
    let front : take (i + 1) rows ≡ take i rows ++ row ∷ [] = take_more rows i row lt
    ∙ ap (λ (it : PlanRow). take i rows ++ it ∷ []) (sym is) in
    let count = length-take-le i rows (omega (arith, lt)) in
    subst (λ (all : List PlanRow). AreJudged file all (text ++ verdict_line (i + 1) unmet)) (sym front)
    (subst (λ (n : ℕ). AreJudged file (take i rows ++ row ∷ []) (text ++ verdict_line (n + 1) unmet)) count
    (one_more (take i rows) text row unmet judged verdict))
