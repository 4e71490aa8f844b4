use denote.Enum.Bare.{same_true}
use Rattle.std.proofs.Common.{◌≡◌, ◌∙◌, [], ap, append-nil, arith, length, refl, rules, subst, sym}
use Rattle.std.specs.Vec.{vec_len}
use Rattle.std.proofs.lemmas.Bool.{false≢true}
use Rattle.std.proofs.lemmas.List.{nil_from_length}
use Rattle.pmp_core.specs.RegisterFile.{RegisterFile}
use Rattle.pmp_text.specs.contracts.policy.Demand.{the_type}
use Rattle.pmp_text.specs.declared.policy.Demand.TheVariants.{Held}
use Rattle.pmp_audit.specs.declared.policy_check.question.Question.TheVariants.{IsNotHeld}
use Rattle.pmp_audit.specs.PolicyBreaches.{AreHits, begun}
use Rattle.pmp_audit.specs.PolicyCheck.{state_after, step_count}
use Rattle.pmp_audit.proofs.PolicyBegun.{loose_here, none_loose}
use Rattle.pmp_audit.proofs.PolicySteps.{steps_within}
use Rattle.pmp_audit.proofs.policy_check.breach_list.breaches_of.Goals as goal
use Rattle.pmp_audit.proofs.policy_check.breach_list.breaches_of.Goals.{then-eq+then-is_empty+in_ok-loose+in_ok-add_begun}
use Rattle.pmp_audit.proofs.policy_check.breach_list.breaches_of.Goals.{else-eq, else-eq-via-then-eq+else-is_empty}
use Rattle.pmp_audit.proofs.policy_check.breach_list.breaches_of.Goals.{else-eq-via-else-eq}

pub state_at-last-requires : goal.state_at-last-requires
state_at-last-requires c =
    let steps = c.args.steps.now in
    let within = steps_within steps.pace steps.script.now.batches c.args.row.now.to c.requires in
    omega (arith, c.count-to.ensures, within)

pub returns : goal.returns
returns c =
    let steps = c.args.steps.now in
    let row = c.args.row.now in
    let to = step_count steps.pace steps.script.now.batches row.to in
    let states = state_after steps.pace steps.script.now in
    let found = c.in_ok-all.all.items in
    elim c.if-eq.branch [
      | then-eq+then-is_empty+in_ok-loose+in_ok-add_begun w ↦
          let held : row.demand ≡ Held = same_true the_type (search rules) _ _ (sym w.if-eq.ensures) in
          let count : length found ≡ 0 =
          grind (arith, w.is_empty.ensures, w.if-is_empty.true, c.in_ok-all.all.ok.0) in
          let none : found ≡ [] = nil_from_length found count in
          let loose = w.in_ok-loose.loose.items in
          let file : w.state_at-last.result.file ≡ states to =
          w.state_at-last.ensures.is.file ∙ ap states (w.state_at-last.ensures.done ∙ w.count-to.ensures) in
          record {
            found = found;
            found_are = c.in_ok-all.ensures;
            loose = begun to [] loose;
            loose_are = loose_here row.demand found (states to) row to loose held none
                (subst (λ (f : RegisterFile). AreHits IsNotHeld f row loose) file w.in_ok-loose.ensures);
            all_is = rw (w.all-is) (rw (w.deref.ensures.value, w.count-to.ensures) at w.in_ok-add_begun.ensures);
          }
      | else-eq w ↦
          let other : row.demand ≡ Held → found ≡ [] → ⊥ = elim w.else-eq.branch [
            | else-eq-via-then-eq+else-is_empty v ↦ λ held none.
                let zero : vec_len c.in_ok-all.all ≡ 0 = omega (arith, c.in_ok-all.all.ok.0, ap length none) in
                false≢true (sym v.if-is_empty.false ∙ v.is_empty.ensures ∙ rw zero refl)
            | else-eq-via-else-eq v ↦ λ held none. false≢true (sym v.if-eq.false ∙ (rw held at c.eq.ensures))
          ] in
          record {
            found = found;
            found_are = c.in_ok-all.ensures;
            loose = [];
            loose_are = none_loose row.demand found (states to) row to other;
            all_is = rw (w.all-is) (sym (append-nil found));
          }
    ]
