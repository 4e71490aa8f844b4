use Rattle.std.proofs.Common.{◌≡◌, ◌∙◌, ap, arith, refl}
use Rattle.pmp_core.specs.Decision.{IsDecision}
use Rattle.pmp_text.specs.Contents.{ScriptContents}
use Rattle.pmp_text.specs.Reports.{file_of_script}
use Rattle.pmp_text.proofs.AddedRows.{left_some}
use Rattle.pmp_audit.proofs.AuditedRows.{all_said, byte_at_most, few_left, none_yet, one_more}
use Rattle.pmp_audit.proofs.audited_rows.add_each.Goals as goal

pub loop-row-init : goal.loop-row-init
loop-row-init g c = record {
  so_far = rw c.new-replay.ensures (none_yet c.args.script.now g.R.RowSink.Adds c.args.rows.now c.args.out.now
      g.met.R.RowSink.none c.requires.order);
  script = rw c.new-replay.ensures refl;
}

pub advance-requires-clause-forward : goal.advance-requires-clause-forward
advance-requires-clause-forward g c = (rw c.in-Some.ensures.cases.0 at c.loop-row.invariant.so_far.order).0

pub advance-requires-clause-within : goal.advance-requires-clause-within
advance-requires-clause-within g c =
    rw c.loop-row.invariant.script (rw c.in-Some.ensures.cases.0 at c.loop-row.invariant.so_far.order).1

pub overflow_add-number : goal.overflow_add-number
overflow_add-number g c =
    let left = few_left c.args.script.now g.R.RowSink.Adds _ _ _ _ _ _ _ _
    (rw c.in-Some.ensures.cases.0 at c.loop-row.invariant.so_far) in
    let few = c.requires.few in
    omega (arith, left.0, few)

pub overflow_add-faults : goal.overflow_add-faults
overflow_add-faults g c =
    let left = few_left c.args.script.now g.R.RowSink.Adds _ _ _ _ _ _ _ _
    (rw c.in-Some.ensures.cases.0 at c.loop-row.invariant.so_far) in
    let few = c.requires.few in
    let byte = byte_at_most _ _ c.from-faults.ensures in
    omega (arith, left.0, left.1, few, byte)

pub loop-row-preserved : goal.loop-row-preserved
loop-row-preserved g c =
    let script = c.args.script.now in
    let row = c.in-Some.row.now in
    let advanced : c.advance.new.self ≡ record { script = script; done = row.after } =
    c.advance.ensures ∙ ap (λ (s : ScriptContents). record { script = s; done = row.after }) c.loop-row.invariant.script in
    let by_bytes : IsDecision (file_of_script script row.after) row.access c.decide-decision.result =
    rw advanced at c.decide-decision.ensures.by_bytes in
    let stays = c.decide-decision.ensures.position ∙ advanced in
    record {
      so_far = rw (stays, c.from-faults.ensures) (one_more script g.R.RowSink.Adds g.met.R.RowSink.both c.args.rows.now row
          c.in-Some.more.now _ c.loop-row.number c.loop-row.faults c.args.out.now c.loop-row.out _ c.decide-decision.result
          (rw c.in-Some.ensures.cases.0 at c.loop-row.invariant.so_far) by_bytes c.in_ok-add_answer.ensures.ok);
      script = rw stays refl;
    }

pub returns-in_err-add_answer-clause-err : goal.returns-in_err-add_answer-clause-err
returns-in_err-add_answer-clause-err g c =
    left_some g.R.RowSink.Adds g.met.R.RowSink.both _ _ _ _ _ c.loop-row.invariant.so_far.added
    c.in_err-add_answer.ensures.err

pub returns-clause-ok : goal.returns-clause-ok
returns-clause-ok g c = all_said c.args.script.now g.R.RowSink.Adds c.args.rows.now _ _ _ _ _ _
    c.in_default.ensures.cases c.loop-row.invariant.so_far
