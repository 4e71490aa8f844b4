use Rattle.std.proofs.Common.{inr}
use Rattle.pmp_web.proofs.tilvenka_page_diff.Goals as goal

pub returns-in-Err : goal.returns-in-Err
returns-in-Err c = inr record {
  fault = c.in-Err.fault;
  why = rw (c.text.ensures, c.text-2.ensures) at c.in-Err.ensures.err;
  told = rw c.side_number.ensures.is at c.refuse.ensures;
}
