use Rattle.std.proofs.Common.{subst, ap, ◌∙◌}
use Rattle.pmp_core.specs.Decision.{IsDecision}
use Rattle.pmp_share.specs.Known.{file_of}
use Rattle.pmp_share.proofs.digest.DigestDecider.decide.Goals as goal

pub returns-clause-by_bytes : goal.returns-clause-by_bytes
returns-clause-by_bytes c = subst (λ file. IsDecision file c.args.access.now c.decide.result)
    (c.self.invariant.replayed ∙ ap file_of c.self.view_is) c.decide.ensures.by_bytes
