use Rattle.std.proofs.Common.{◌∙◌, ◌++◌, ap, append_assoc}
use Rattle.pmp_forms.specs.Cases.{case_said}
use Rattle.pmp_forms.specs.Junit.{ending, opening}
use Rattle.pmp_forms.proofs.Joining.{appended, item_here}
use Rattle.pmp_forms.proofs.junit.append_cases.Goals as goal

pub loop-case-preserved : goal.loop-case-preserved
loop-case-preserved c =
    let case = case_said c.case-item.result in
    let here = item_here _ _ c.case-item.result c.loop-case-test.true c.case-item.is in
    appended _ _ (opening case ++ ending case) _ _
    (c.in_ok-append_ending.ensures ∙ ap (λ items. items ++ ending case) c.in_ok-append_opening.ensures
    ∙ append_assoc c.loop-case.out.items (opening case) (ending case)) (rw here at c.loop-case.invariant)
