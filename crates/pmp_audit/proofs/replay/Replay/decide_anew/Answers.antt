use Rattle.pmp_audit.proofs.replay.Replay.decide_anew.Goals as goal

pub returns-clause-by_bytes : goal.returns-clause-by_bytes
returns-clause-by_bytes c = rw (← c.self.view_is, ← c.self.invariant.1) c.decide-decision.ensures.by_bytes
