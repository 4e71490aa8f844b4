use Rattle.std.proofs.Common.{◌≡◌, take, drop}
use Rattle.std.specs.List.{AllZip}
use Rattle.pmp_c.specs.Questions.{IsAnswered}
use Rattle.pmp_c.proofs.tilvenka_pmp_decide_many.Given as goal

-- those so far are answered, and the others are as they were
abbrev pub invariant-loop-question : goal.invariant-loop-question
invariant-loop-question l = record {
  answered : AllZip (IsAnswered l.unit) (take l.question-index l.fn.questions) (take l.question-index l.questions);
  left : drop l.question-index l.questions ≡ drop l.question-index l.fn.questions;
}
