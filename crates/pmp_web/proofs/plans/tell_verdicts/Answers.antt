use Rattle.std.proofs.Common.{inr}
use Rattle.pmp_web.proofs.plans.tell_verdicts.Goals as goal

pub returns-in-Err : goal.returns-in-Err
returns-in-Err c = inr (record { fault = c.in-Err.fault; why = c.in-Err.ensures.err; told = c.refuse.ensures })
