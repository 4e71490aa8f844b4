use Rattle.std.proofs.Common.{inl, rules}
use Rattle.pmp_web.proofs.tilvenka_page_why.Goals as goal

pub returns-in-Ok-add_reasons : goal.returns-in-Ok-add_reasons
returns-in-Ok-add_reasons c =
    inl (c.in-Ok.access, rw c.in-Ok.is at c.access_of.ensures.ok, search rules)

pub returns-in-Err-add_reasons : goal.returns-in-Err-add_reasons
returns-in-Err-add_reasons c =
    inl (c.in-Ok.access, rw c.in-Ok.is at c.access_of.ensures.ok, search rules)
