use Rattle.std.proofs.Common.{◌≡◌, Some, sym, ap, ◌∙◌, arith}
use Rattle.pmp_core.specs.declared.decision.Cause.{Cause}
use Rattle.pmp_core.specs.Rights.{perms_of}
use Rattle.pmp_map.specs.Answer.{cause_number}
use Rattle.pmp_map.specs.Answers.{owned_rights}
use Rattle.pmp_map.proofs.Naming.{mode_once}
use Rattle.pmp_c.specs.RangeRights.{rights_number}
use Rattle.pmp_c.specs.Unit.{file_of_unit}
use Rattle.pmp_c.proofs.tilvenka_pmp_run.Goals as goal

pub returns-in-Some-clause-run : goal.returns-in-Some-clause-run
returns-in-Some-clause-run c = λ named mode_is small is_unit.
    let file = file_of_unit c.args.unit.now in
    let run = c.run-rights.result.0 in
    let same : c.in-Some.mode ≡ named = mode_once c.in-Some.mode named (c.in-Some.ensures.some ∙ sym mode_is) in
    let rights : c.run-rights.result.1 ≡ Some (perms_of (owned_rights file run.owner named)) = rw (← same) (c.run-rights.ensures.rights is_unit) in
    let number = ap rights_number rights in
    record {
      owner = run.owner;
      around = c.run-rights.ensures.run is_unit;
      number_is = omega (
        arith,
        c.from.ensures,
        c.cause_number.ensures.number,
        ap (λ (cause : Cause). cause_number cause) c.whole_cause.ensures,
        c.rights_number-rights.ensures,
        number,
      );
    }
