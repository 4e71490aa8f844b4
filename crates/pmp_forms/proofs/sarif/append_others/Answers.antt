use Rattle.pmp_forms.proofs.Joining.{appended, item_here}
use Rattle.pmp_forms.proofs.sarif.append_others.Goals as goal

pub loop-text-preserved : goal.loop-text-preserved
loop-text-preserved c =
    let here = item_here _ _ c.text-item.result c.loop-text-test.true c.text-item.is in
    let step = rw c.deref.ensures.value at c.in_ok-append_after_comma.ensures in
    appended _ _ _ _ _ step (rw here at c.loop-text.invariant)
