use Rattle.std.proofs.Common.{refl}
use Rattle.pmp_core.specs.declared.access.Kind.TheVariants.{Fetch, Load, Store}
use Rattle.pmp_plan.proofs.Answering.{kinds_stay}
use Rattle.pmp_plan.proofs.passing.perms_stay.Goals as goal

pub returns-then-not-kind_stays-clause-no : goal.returns-then-not-kind_stays-clause-no
returns-then-not-kind_stays-clause-no c stays = c.if-not-kind_stays.ensures.no (stays Load)

pub returns-then-not-kind_stays-2-clause-no : goal.returns-then-not-kind_stays-2-clause-no
returns-then-not-kind_stays-2-clause-no c stays = c.if-not-kind_stays-2.ensures.no (stays Store)

pub returns-clause-yes : goal.returns-clause-yes
returns-clause-yes c is =
    kinds_stay c.args.watch c.args.perms (c.if-not-kind_stays.ensures.yes refl) (c.if-not-kind_stays-2.ensures.yes refl)
    (c.kind_stays-3.ensures.yes is)

pub returns-clause-no : goal.returns-clause-no
returns-clause-no c stays = c.kind_stays-3.ensures.no (stays Fetch)
