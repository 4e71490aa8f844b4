use Rattle.pmp_forms.proofs.Joining.{appended, item_here}
use Rattle.pmp_forms.proofs.sarif.results_of.Goals as goal

pub loop-case-preserved : goal.loop-case-preserved
loop-case-preserved c =
    let here = item_here _ _ c.case-item.result c.loop-case-test.true c.case-item.is in
    appended _ _ _ _ _ c.in_ok-add_result.ensures (rw here at c.loop-case.invariant)
