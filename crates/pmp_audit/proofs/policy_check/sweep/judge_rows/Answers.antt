use Rattle.std.proofs.Common.{◌∙◌, ◌++◌, List, [], ◌∷◌, take, ap, sym}
use Rattle.std.proofs.lemmas.List.{map_push, take_more}
use Rattle.std.proofs.lemmas.List.Elements.{All-push}
use Rattle.pmp_text.specs.declared.policy.PolicyRow.{PolicyRow}
use Rattle.pmp_audit.specs.declared.policy_check.sweep.Judged.{Judged}
use Rattle.pmp_audit.specs.PolicySweep.{IsJudged}
use Rattle.pmp_audit.proofs.policy_check.sweep.judge_rows.Goals as goal

pub loop-row-preserved : goal.loop-row-preserved
loop-row-preserved c =
    let rows = c.args.rows.now in
    let place = c.loop-row.row-index in
    let steps = c.args.steps.now in
    record {
      judged = rw c.in_ok-push.ensures.items (All-push (IsJudged steps.pace steps.script.now 0) c.loop-row.all.items
          c.new.result c.loop-row.invariant.judged c.new.ensures.judged);
      rows = rw c.in_ok-push.ensures.items (map_push (λ (one : Judged). one.row) c.loop-row.all.items c.new.result
          ∙ ap (λ (l : List PolicyRow). l ++ c.new.result.row ∷ []) c.loop-row.invariant.rows
          ∙ ap (λ (row : PolicyRow). take place rows ++ row ∷ []) (c.new.ensures.row ∙ c.row-item.is)
          ∙ sym (take_more rows place c.row-item.result c.loop-row-test.true));
    }
