use Rattle.std.proofs.Common.{arith, inl, inr}
use Rattle.std.proofs.lemmas.Bool.{cases_lt, false≢true}
use Rattle.pmp_plan.proofs.unmet.first_unmet_rest.Goals as goal

pub returns-in-Some-first_unmet : goal.returns-in-Some-first_unmet
returns-in-Some-first_unmet c =
    let last = c.unnamed_to-last.ensures in
    let unmet = c.in-Some-first_unmet.unmet in
    let first = c.in-Some-first_unmet.ensures in record {
      inside = omega (arith, first.to, last.inside);
      unnamed = last.unnamed unmet.byte first.from first.to;
      before = λ byte below unnamed. elim (cases_lt byte c.loop-at.at) [
        | inl before ↦ c.loop-at.invariant.rest byte before unnamed
        | inr here ↦ (first.before byte here below).rights
      ];
      differs = λ has. first.differs (record { rights = has; held = λ locked. absurd (false≢true locked) });
      seen = first.seen;
    }

pub loop-at-preserved : goal.loop-at-preserved
loop-at-preserved c = record {
  inside = omega (arith, c.unnamed_to-last.ensures.inside);
  rest = λ byte below unnamed. elim (cases_lt byte c.loop-at.at) [
    | inl before ↦ c.loop-at.invariant.rest byte before unnamed
    | inr here ↦ (c.in_default-first_unmet.ensures byte here (omega (arith, below))).rights
  ];
}
