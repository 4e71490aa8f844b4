use Rattle.std.proofs.Common.{refl}
use Rattle.pmp_c.proofs.question.Question.decide.Goals as goal

pub returns : goal.returns
returns c = record {
  asked = refl;
  decided = rw c.from-length.ensures at c.tilvenka_pmp_decide-self.ensures.answer;
  unnamed = rw c.from-length.ensures at c.tilvenka_pmp_decide-self.ensures.none;
}
