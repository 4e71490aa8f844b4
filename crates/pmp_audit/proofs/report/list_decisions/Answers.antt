use Rattle.std.proofs.Common.{◌+◌, ◌++◌, ◌≤◌, ◌∙◌, false, cond, List, ℕ, sym}
use Rattle.std.proofs.Common.{get_or, take, ap, append_assoc, append-nil, arith, refl, rules}
use Rattle.std.proofs.lemmas.List.{take_more}
use Rattle.pmp_core.specs.declared.decision.Decision.{Decision}
use Rattle.pmp_core.specs.declared.decision.Cause.TheVariants.{Rule}
use Rattle.pmp_text.specs.LongTraces.{report_text_from}
use Rattle.pmp_text.specs.Reports.{report_row}
use Rattle.pmp_audit.specs.Report.{refused_count}
use Rattle.pmp_audit.proofs.LongReports.{one_listed}
use Rattle.pmp_audit.proofs.Reports.{refused-push}
use Rattle.pmp_audit.proofs.report.list_decisions.Goals as goal

pub loop-place-init : goal.loop-place-init
unfolding report_text_from
loop-place-init c =
    record { few = omega arith; text = sym (append-nil c.args.report.now.items); counted = refl }

pub loop-place-preserved : goal.loop-place-preserved
loop-place-preserved c =
    let rows = c.args.rows.now in
    let decisions = c.args.decisions.now in
    let place = c.loop-place.place in
    let other : Decision = record { allowed = false; cause = Rule 0 } in
    let decision = get_or decisions place other in
    let line = report_row (place + 1) c.index-rows-place.result.access decision in
    let so_far = report_text_from 1 (take place rows) (take place decisions) in
    let one_at_most : c.in_ok-faults.field-0 ≤ 1 = search rules in
    let few = c.loop-place.invariant.few in
    record {
      few = omega arith;
      text = c.in_ok-faults.ensures.row
          ∙ ap (λ (l : List ℕ). l ++ line) c.loop-place.invariant.text
          ∙ append_assoc c.args.report.now.items so_far line
          ∙ ap (λ (l : List ℕ). c.args.report.now.items ++ l)
          (sym (one_listed rows decisions place c.index-rows-place.result other c.requires c.loop-place-test.true
          c.index-rows-place.is));
      counted = ap (λ (n : ℕ). c.loop-place.faults + n) c.in_ok-faults.ensures.refused
          ∙ ap (λ (n : ℕ). n + cond decision.allowed 0 1) c.loop-place.invariant.counted
          ∙ sym (refused-push (take place decisions) decision)
          ∙ sym (ap refused_count (take_more decisions place other (omega (arith, c.requires))));
    }
