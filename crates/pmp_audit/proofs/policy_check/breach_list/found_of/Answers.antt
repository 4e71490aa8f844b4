use Rattle.std.proofs.Common.{◌≡◌, ◌∙◌, ◌+◌, suc, ap, arith, subst, sym}
use Rattle.pmp_core.specs.RegisterFile.{RegisterFile}
use Rattle.pmp_audit.specs.declared.policy_check.question.Question.TheVariants.{IsBroken}
use Rattle.pmp_audit.specs.PolicyBreaches.{AreHits}
use Rattle.pmp_audit.specs.PolicyCheck.{state_after, step_count}
use Rattle.pmp_audit.proofs.PolicyBegun.{begun_first, begun_next}
use Rattle.pmp_audit.proofs.PolicySteps.{no_fewer, steps_within}
use Rattle.pmp_audit.proofs.policy_check.breach_list.found_of.Goals as goal

pub state_at-state-requires : goal.state_at-state-requires
state_at-state-requires c =
    let steps = c.args.steps.now in
    let row = c.args.row.now in
    let forward = no_fewer steps.pace steps.script.now.batches row.from row.to row.forward in
    let within = steps_within steps.pace steps.script.now.batches row.to c.requires in
    omega (arith, c.count.ensures, forward, within)

pub advance-requires-clause-inside : goal.advance-requires-clause-inside
advance-requires-clause-inside c =
    let steps = c.args.steps.now in
    let within = steps_within steps.pace steps.script.now.batches c.args.row.now.to c.requires in
    omega (arith, c.count-to.ensures, c.loop-state-test.true, within)

pub loop-state-init : goal.loop-state-init
loop-state-init c =
    let steps = c.args.steps.now in
    let row = c.args.row.now in
    let from = step_count steps.pace steps.script.now.batches row.from in
    let states = state_after steps.pace steps.script.now in
    let is = c.state_at-state.ensures.is in
    let forward = no_fewer steps.pace steps.script.now.batches row.from row.to row.forward in
    let done : c.state_at-state.result.done ≡ from = c.state_at-state.ensures.done ∙ c.count.ensures in
    let file : c.state_at-state.result.file ≡ states from = is.file ∙ ap states done in
    record {
      state = is;
      within = omega (arith, done, c.count-to.ensures, forward);
      more = 0;
      count = omega (arith, done);
      begun = begun_first states row from c.add_begun.new.all.items c.in_ok-before.before.items
          (subst (λ (f : RegisterFile). AreHits IsBroken f row c.in_ok-before.before.items) file c.in_ok-before.ensures)
          (rw (c.new-all.ensures.items, c.deref.ensures.value, done) at c.in_ok-add_begun.ensures);
      hits = c.in_ok-before.ensures;
    }

pub loop-state-preserved : goal.loop-state-preserved
loop-state-preserved c =
    let steps = c.args.steps.now in
    let row = c.args.row.now in
    let from = step_count steps.pace steps.script.now.batches row.from in
    let states = state_after steps.pace steps.script.now in
    let at = c.loop-state.invariant in
    let is = c.advance.ensures.after in
    let old : c.loop-state.state.file ≡ states (from + at.more) = at.state.file ∙ ap states (sym at.count) in
    let done : c.advance.new.state.done ≡ from + suc at.more = omega (arith, c.advance.ensures.done, at.count) in
    let new : c.advance.new.state.file ≡ states (from + suc at.more) = is.file ∙ ap states done in
    record {
      state = is;
      within = omega (arith, c.advance.ensures.done, c.loop-state-test.true);
      more = suc at.more;
      count = sym done;
      begun = begun_next states row from at.more c.loop-state.all.items c.add_begun-in-loop-state.new.all.items
          c.loop-state.before.items c.in_ok-now.now.items at.begun
          (subst (λ (f : RegisterFile). AreHits IsBroken f row c.loop-state.before.items) old at.hits)
          (subst (λ (f : RegisterFile). AreHits IsBroken f row c.in_ok-now.now.items) new c.in_ok-now.ensures)
          (rw (c.deref-in-loop-state.ensures.value, c.deref-in-loop-state-2.ensures.value, done) at
          c.in_ok-add_begun-2.ensures);
      hits = c.in_ok-now.ensures;
    }

pub returns : goal.returns
returns c =
    let at = c.loop-state.invariant in
    record {
      more = at.more;
      until = omega (arith, at.count, at.within, c.loop-state-test.false, c.count-to.ensures);
      begun = at.begun;
    }
