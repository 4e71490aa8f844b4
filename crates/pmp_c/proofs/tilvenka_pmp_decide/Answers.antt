use Rattle.std.proofs.Common.{◌∙◌, ap}
use Rattle.pmp_core.specs.declared.access.Access.{Access}
use Rattle.pmp_core.specs.Ranges.{decision_of}
use Rattle.pmp_map.specs.Answer.{answer_number}
use Rattle.pmp_map.proofs.Naming.{named_once}
use Rattle.pmp_c.specs.Unit.{file_of_unit}
use Rattle.pmp_c.proofs.tilvenka_pmp_decide.Goals as goal

pub returns-in-Some-clause-answer : goal.returns-in-Some-clause-answer
returns-in-Some-clause-answer c = λ access named is_unit.
    let file = file_of_unit c.args.unit.now in
    let same = named_once c.in-Some.access access c.args.mode c.args.kind c.args.start c.args.length
    c.in-Some.ensures.named named in
    c.from.ensures ∙ c.answer.ensures is_unit ∙ ap (λ (a : Access). answer_number a (decision_of file a)) same
