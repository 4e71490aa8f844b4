use Rattle.std.proofs.Common.{◌<◌, arith, length}
use Rattle.pmp_c.specs.Questions.{IsAnswered}
use Rattle.pmp_c.proofs.Questions.{one_left, one_more}
use Rattle.pmp_c.proofs.tilvenka_pmp_decide_many.Goals as goal

pub loop-question-preserved : goal.loop-question-preserved
loop-question-preserved c =
    let olds = c.args.questions.now in
    let at = c.loop-question in
    let one = c.decide.new.self in
    let in_news : at.question-index < length at.questions =
    omega (arith, c.loop-question-test.true, at.auto.questions) in
    let in_olds : at.question-index < length olds = omega (arith, c.loop-question-test.true, at.auto.questions) in
    record {
      answered = one_more (IsAnswered c.args.unit.now) olds at.questions at.question-index one _ in_olds in_news
          at.invariant.left at.invariant.answered c.decide.ensures;
      left = one_left (IsAnswered c.args.unit.now) olds at.questions at.question-index one one in_olds in_news
          at.invariant.left;
    }
