use Rattle.std.proofs.Common.{arith, inl, inr, refl}
use Rattle.std.proofs.lemmas.Bool.{cases_lt}
use Rattle.pmp_plan.proofs.Answering.{rights_stay_here, stays_here}
use Rattle.pmp_plan.proofs.passing.Passage.stays.Goals as goal

pub loop-at-init : goal.loop-at-init
loop-at-init c byte none = absurd (omega (arith, none))

pub returns-then-not-rights_stay-clause-no : goal.returns-then-not-rights_stay-clause-no
returns-then-not-rights_stay-clause-no c all =
    let self = c.args.self.now in
    let at = c.loop-at.at in
    let found = c.rights_from-last in
    c.if-not-rights_stay.ensures.no
    (rights_stay_here c.args.watch self.before.now self.during.now self.after.now at c.loop-at-test.true
    found.result.0 (found.ensures.alike at (omega arith) found.ensures.proper)
    (λ mode kind allowed may kept earlier later. all at mode kind allowed c.loop-at-test.true may kept earlier later))

pub loop-at-preserved : goal.loop-at-preserved
loop-at-preserved c byte below =
    let self = c.args.self.now in
    let found = c.rights_from-last in
    elim (cases_lt byte c.loop-at.at) [
      | inl before ↦ c.loop-at.invariant byte before
      | inr here ↦
          stays_here c.args.watch self.before.now self.during.now self.after.now byte
          (omega (arith, below, found.ensures.below)) found.result.0
          (found.ensures.alike byte here (omega (arith, below))) (c.if-not-rights_stay.ensures.yes refl)
    ]

pub returns-clause-yes : goal.returns-clause-yes
returns-clause-yes c _ byte mode kind allowed inside may kept earlier later =
    c.loop-at.invariant byte (omega (arith, inside, c.loop-at-test.false)) mode kind allowed may kept earlier later
