use Rattle.pmp_plan.proofs.judge.gives.Goals as goal

pub returns-in-Some-clause-no : goal.returns-in-Some-clause-no
returns-in-Some-clause-no c all =
    let first = c.in-Some.ensures in
    absurd (first.differs (all c.in-Some.field-0.byte first.from first.to))
