use Rattle.std.proofs.Common.{◌≡◌, ◌∙◌, ◌+◌, ◌≤◌, rules, arith, ap, refl, sym, Ok}
use Rattle.std.proofs.lemmas.Result.{err_from_is_err_and}
use Rattle.pmp_core.specs.Decision.{IsDecision}
use Rattle.pmp_text.specs.Contents.{ScriptContents}
use Rattle.pmp_text.specs.Reports.{file_of_script}
use Rattle.pmp_audit.proofs.LongParts.{one_alone}
use Rattle.pmp_audit.proofs.PieceRows.{all_reported, in_order, last_is, none_reported, one_row, row_fails}
use Rattle.pmp_audit.proofs.PieceTexts.{few_refused}
use Rattle.pmp_audit.proofs.piece.report_rows.Goals as goal

pub loop-report-init : goal.loop-report-init
loop-report-init c = record {
  reported = rw c.new-report.ensures.items (none_reported c.args.script.now c.args.standing c.args.rows.now
      c.requires.place c.requires.moments);
  place = sym c.requires.place;
  script = rw c.new-replay.ensures refl;
  done = rw c.new-replay.ensures (omega arith);
}

pub returns-in_err-row-clause-err : goal.returns-in_err-row-clause-err
returns-in_err-row-clause-err c =
    let p = err_from_is_err_and c.from_residual.result c.from_residual.ensures.1 in
    rw (p.1, p.2)
    (row_fails c.loop-report.invariant.reported c.requires.header c.in_err-row.field-0.0 c.in_err-row.ensures.err)

pub advance-requires-clause-forward : goal.advance-requires-clause-forward
advance-requires-clause-forward c =
    let order = in_order c.loop-report.invariant.reported c.requires.header
    (rw c.in-Some.is at c.in_ok-row.ensures.row) in
    let done = c.loop-report.invariant.done in
    omega (arith, order.0)

pub advance-requires-clause-within : goal.advance-requires-clause-within
advance-requires-clause-within c =
    let order = in_order c.loop-report.invariant.reported c.requires.header
    (rw c.in-Some.is at c.in_ok-row.ensures.row) in
    rw c.loop-report.invariant.script order.1

pub overflow_add-faults : goal.overflow_add-faults
overflow_add-faults c =
    let is = rw c.in-Some.is at c.in_ok-row.ensures.row in
    let within = few_refused c.loop-report.invariant.reported.so_far c.requires.faults in
    let numbered = is.numbered in
    let one_at_most : c.in_ok-faults.field-0 ≤ 1 = search rules in
    omega arith

pub loop-report-preserved : goal.loop-report-preserved
loop-report-preserved c =
    let script = c.args.script.now in
    let row = c.in-Some.row in
    let is = rw c.in-Some.is at c.in_ok-row.ensures.row in
    let advanced : c.advance.new.self ≡ record { script = script; done = row.after } =
    c.advance.ensures ∙ ap (λ (s : ScriptContents). record { script = s; done = row.after }) c.loop-report.invariant.script in
    let by_bytes : IsDecision (file_of_script script row.after) row.access c.decide-decision.result =
    rw advanced at c.decide-decision.ensures.by_bytes in
    let stays = c.decide-decision.ensures.position ∙ advanced in
    record {
      reported = one_row c.loop-report.invariant.reported c.requires.header is c.decide-decision.result
          c.list_row.new.report.items _ by_bytes
          (rw c.loop-report.invariant.place at c.in_ok-faults.ensures.row)
          (ap (λ n. c.loop-report.faults + n) c.in_ok-faults.ensures.refused);
      place = c.place-place.ensures;
      script = rw stays refl;
      done = rw (stays, last_is c.loop-report.invariant.reported c.requires.header is) (omega arith);
    }

pub returns-clause-ok : goal.returns-clause-ok
returns-clause-ok c =
    all_reported c.loop-report.invariant.reported c.requires.header _ _
    (c.in_ok-row.ensures.end (ap Ok c.in_default.is)).0
    (rw (c.in_ok-push.ensures.items, c.new-texts.ensures.items) (one_alone c.loop-report.report))
    (ap (λ p. record { place = p; faults = c.loop-report.faults }) c.loop-report.invariant.place)
