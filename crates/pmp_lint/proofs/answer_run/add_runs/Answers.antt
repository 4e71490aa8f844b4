use Rattle.std.proofs.Common.{◌≡◌, ◌∙◌, ◌+◌, ◌++◌, ℕ, List, [], ◌∷◌, length, rules, sym, ap, arith}
use Rattle.std.proofs.lemmas.List.{map-append}
use Rattle.std.proofs.lemmas.Result.{on_err_weaker, on_ok_weaker}
use Rattle.pmp_core.specs.declared.access.Access.{Access}
use Rattle.pmp_core.specs.Ranges.{decision_of}
use Rattle.pmp_text.specs.Reports.{file_of_script}
use Rattle.pmp_text.specs.AnswerRows.{answer_row}
use Rattle.pmp_lint.specs.declared.answer_run.AnswerRun.{AnswerRun}
use Rattle.pmp_lint.specs.Why.{decided_at}
use Rattle.pmp_lint.specs.WhyRows.{history_rows}
use Rattle.pmp_text.proofs.AddedRows.{left_some}
use Rattle.pmp_lint.proofs.Events.{file_more}
use Rattle.pmp_lint.proofs.AnswerRuns.{answered_all, answered_anew, answered_first, answered_on}
use Rattle.pmp_lint.proofs.answer_run.add_runs.Goals as goal
use Rattle.pmp_lint.proofs.answer_run.add_runs.Goals.{then-is_same, else-is_same+in_ok-add_answer}

map_end : (access : Access) (runs : List AnswerRun) (run : AnswerRun)
    → history_rows access (runs ++ run ∷ []) ≡ history_rows access runs ++ answer_row run.first access run.decision ∷ []
map_end access runs run = map-append (λ it. answer_row it.first access it.decision) runs (run ∷ [])

pub loop-index-init : goal.loop-index-init
loop-index-init g c = record {
  file = search rules;
  rows = (
    [],
    answered_first c.args.script.now c.args.access.now c.decide.result (search rules),
    g.met.R.RowSink.none c.args.out.now,
  );
}

pub loop-index-preserved : goal.loop-index-preserved
loop-index-preserved g c =
    let script = c.args.script.now in
    let access = c.args.access.now in
    let index = c.loop-index.index in
    let run = c.loop-index.run in
    let rows = c.loop-index.invariant.rows in
    let file : c.run_events.new.self ≡ file_of_script script (index + 1) =
    rw (file_more script index (search rules))
    (rw (c.batch.ensures.events, c.loop-index.invariant.file) at c.run_events.ensures.steps) in
    let next : decided_at script (index + 1) access ≡ c.decide-decision.result =
    sym (c.decide-decision.ensures.computed ∙ ap (λ file. decision_of file access) file) in
    record {
      file = file;
      rows = elim c.if-is_same.branch [
        | then-is_same w ↦ rw (w.out-is, w.run-is) (
          rows.0,
          answered_on script access index rows.0 run rows.1 (next ∙ c.is_same.ensures.yes (cc)),
          rows.2,
        )
        | else-is_same+in_ok-add_answer w ↦ rw (w.out-is, w.run-is) (
          rows.0 ++ run ∷ [],
          answered_anew script access index rows.0 run rows.1 c.decide-decision.result (search rules) next
              (λ e. let yes = c.is_same.ensures.no e in absurd (cc)),
          rw (map_end access rows.0 run) (g.met.R.RowSink.both _ _ _ _ _ rows.2 w.in_ok-add_answer.ensures.ok),
        )
      ];
    }

pub returns-clause-ok : goal.returns-clause-ok
returns-clause-ok g c =
    let script = c.args.script.now in
    let access = c.args.access.now in
    let run = c.loop-index.run in
    let rows = c.loop-index.invariant.rows in
    let last : c.loop-index.index ≡ length script.batches = omega (arith, c.batches-index-end.ensures) in
    on_ok_weaker c.add_answer-2.result (λ added. record {
      runs = rows.0 ++ run ∷ [];
      are_runs = answered_all script access c.loop-index.index rows.0 run rows.1 last;
      added = rw (map_end access rows.0 run) (g.met.R.RowSink.both _ _ _ _ _ rows.2 added);
    }) c.add_answer-2.ensures.ok

pub returns-in_err-add_answer-clause-err : goal.returns-in_err-add_answer-clause-err
returns-in_err-add_answer-clause-err g c =
    left_some g.R.RowSink.Adds g.met.R.RowSink.both _ _ _ _ _ c.loop-index.invariant.rows.2
    c.in_err-add_answer.ensures.err

pub returns-clause-err : goal.returns-clause-err
returns-clause-err g c =
    let rows = c.loop-index.invariant.rows in
    on_err_weaker c.add_answer-2.result (λ last. (
      history_rows c.args.access.now rows.0 ++ [],
      g.met.R.RowSink.both _ [] _ _ _ rows.2 last,
    )) c.add_answer-2.ensures.err
