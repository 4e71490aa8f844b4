use Rattle.std.proofs.Common.{◌≡◌, ◌+◌, ◌-◌, ◌<◌, arith, inl, inr, subst, ℕ}
use Rattle.std.proofs.lemmas.Bool.{cases_lt}
use Rattle.pmp_core.specs.declared.access.TheConstants.{ADDRESS_LIMIT}
use Rattle.pmp_map.specs.OpenBytes.{IsClosed, IsOpen}
use Rattle.pmp_audit.proofs.policy_draft.closed_range.closed_range_from.Goals as goal

pub returns : goal.returns
returns c =
    let file = c.args.registers.now in
    let begin = c.first_answered-first.ensures in
    let end = c.first_answered-end.ensures in
    let first = c.first_answered-first.result in
    let below : first < ADDRESS_LIMIT = omega (arith, begin.before.inside, c.if-first-eq-ADDRESS_LIMIT.false) in (
      begin.before.forward,
      begin.before.before,
      record {
        proper = omega (arith, end.before.forward);
        inside = omega (arith, end.before.forward, end.before.inside);
        closed = λ byte here. elim (cases_lt first byte) [
          | inl later ↦ end.before.before byte (omega (arith, later)) (omega (arith, here.1, end.before.forward))
          | inr now ↦
              let at : first ≡ byte = omega (arith, now, here.0) in
              subst (λ (b : ℕ). IsClosed file c.args.mode c.args.kind b) at (begin.here below)
        ];
        longest = λ inside.
            let next : c.first_answered-end.result ≡ c.first_answered-end.result - 1 + 1 =
            omega (arith, end.before.forward) in
            subst (λ (b : ℕ). IsOpen file c.args.mode c.args.kind b) next
            (end.here (omega (arith, inside, end.before.forward)));
      },
    )
