use Rattle.std.proofs.Common.{◌≡◌, Bool, subst, sym, ap, ◌∙◌}
use Rattle.pmp_core.specs.declared.decision.Cause.{Cause}
use Rattle.pmp_core.specs.declared.decision.Decision.{Decision}
use Rattle.pmp_core.specs.Decision.{IsDecision}
use Rattle.pmp_core.specs.Ranges.{decision_of, rights_by}
use Rattle.pmp_core.specs.Rights.{allows}
use Rattle.pmp_core.proofs.Decisions.{decided_by_ranges}
use Rattle.pmp_core.proofs.Legal.{legal_addresses}
use Rattle.pmp_core.proofs.registers.Registers.decide.Goals as goal
use Rattle.pmp_core.proofs.registers.Registers.decide.Goals.{After-allows}

computed : (c : After-allows) → (let decision : Decision = record {
  allowed = c.allows.result;
  cause = c.cause-cause.result;
} in decision ≡ decision_of c.args.self.now c.args.access.now)
unfolding decision_of
computed c =
    let access = c.args.access.now in
    let decision : Bool → Cause → Decision = λ allowed cause. record { allowed = allowed; cause = cause } in
    ap (λ (b : Bool). decision b c.cause-cause.result) (c.allows.ensures.by_rights _ c.rights_by.ensures)
    ∙ ap (λ (k : Cause). decision (allows (rights_by c.args.self.now access.mode k) access.kind) k)
    c.cause-cause.ensures.cause

pub returns-clause-by_bytes : goal.returns-clause-by_bytes
returns-clause-by_bytes c =
    subst (λ (decision : Decision). IsDecision c.args.self.now c.args.access.now decision)
    (sym (computed (goal.at.returns-clause-by_bytes c).After-allows))
    (decided_by_ranges c.args.self.now c.args.access.now (legal_addresses c.args.self.now c.cause-cause.ensures.legal))

pub returns-clause-computed : goal.returns-clause-computed
returns-clause-computed c = computed (goal.at.returns-clause-computed c).After-allows
