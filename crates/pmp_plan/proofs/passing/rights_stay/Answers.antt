use Rattle.std.proofs.Common.{refl}
use Rattle.std.proofs.lemmas.Bool.{not_from_false}
use Rattle.pmp_core.specs.declared.access.Mode.TheVariants.{M, U}
use Rattle.pmp_plan.proofs.passing.rights_stay.Goals as goal

pub returns-then-not-perms_stay-clause-no : goal.returns-then-not-perms_stay-clause-no
returns-then-not-perms_stay-clause-no c stays = c.if-not-perms_stay.ensures.no (stays M refl)

pub returns-else-watch-clause-no : goal.returns-else-watch-clause-no
returns-else-watch-clause-no c stays =
    c.perms_stay-else-watch.ensures.no (stays U (not_from_false c.args.watch.is_machine_alone c.if-watch.false))
