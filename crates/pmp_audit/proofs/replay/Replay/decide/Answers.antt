use Rattle.pmp_audit.proofs.replay.Replay.decide.Goals as goal

pub returns-in-Some-clause-by_bytes : goal.returns-in-Some-clause-by_bytes
returns-in-Some-clause-by_bytes c = rw (← c.self.view_is, ← c.self.invariant.1) c.decide.ensures.by_bytes
