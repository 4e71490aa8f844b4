use Rattle.std.proofs.Common.{subst}
use Rattle.pmp_core.specs.Decision.{IsDecision}
use Rattle.pmp_share.proofs.version.VersionDecider.decide.Goals as goal

pub returns-clause-by_bytes : goal.returns-clause-by_bytes
returns-clause-by_bytes c = subst (λ file. IsDecision file c.args.access.now c.decide.result) c.args.self.now.replayed
    c.decide.ensures.by_bytes
