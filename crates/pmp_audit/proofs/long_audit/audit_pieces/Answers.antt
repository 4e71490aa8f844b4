use Rattle.std.proofs.Common.{rules, ◌≡◌, ◌≤◌, Err, vec_len, arith}
use Rattle.std.proofs.lemmas.Result.{IfErr-at_err, IfOk-at_ok}
use Rattle.pmp_text.specs.Tables.{records_of}
use Rattle.pmp_audit.specs.LongPieces.{PieceFails}
use Rattle.pmp_audit.proofs.LongSteps.{goes_on, going_begins}
use Rattle.pmp_audit.proofs.LongTurns.{cut_stops, ends_badly, ends_well, fails, has_front, has_last, no_turn}
use Rattle.pmp_audit.proofs.LongTurns.{stops_short}
use Rattle.pmp_audit.proofs.PieceTexts.{few_refused}
use Rattle.pmp_text.specs.Outcomes.{no_output}
use Rattle.pmp_audit.proofs.long_audit.audit_pieces.Goals as goal

pub loop-count-init : goal.loop-count-init
loop-count-init g c = (
  _,
  _,
  going_begins c.args.script.now c.args.audit.now.first _ c.new-held.result.items _ c.beginning-standing.result
      c.new-held.ensures.items c.beginning-standing.ensures,
  c.cut_piece-cut.ensures,
)

pub report_and_cut-report-requires : goal.report_and_cut-report-requires
report_and_cut-report-requires g c =
    let (in_mid, held, going, cut) = c.loop-count.invariant in
    let front = rw c.in-Ok-Front.field-0-is at (rw c.in-Ok-Front.is at cut) in
    let within = front.within in
    let size = c.loop-count.held.ok in
    let room : vec_len c.loop-count.held ≤ c.args.audit.now.limit = omega arith in
    let few = few_refused going.stands (omega arith) in
    search rules

pub report_parts-requires-after_bounds : goal.report_parts-requires-after_bounds
report_parts-requires-after_bounds g c = let few = few_refused c.loop-count.invariant.2.stands (omega arith) in search rules

pub loop-count-preserved : goal.loop-count-preserved
loop-count-preserved g c =
    let (in_mid, held, going, cut) = c.loop-count.invariant in
    let front = rw c.in-Ok-Front.field-0-is at (rw c.in-Ok-Front.is at cut) in
    let reported = IfOk-at_ok _ c.in_ok-report-in-Ok-Front.was
    (rw c.deref.ensures.value at c.report_and_cut-report.ensures.ok) in (
      _,
      _,
      goes_on going c.in-Ok-Front.text.items front reported
          (rw c.deref-in-Ok-Front.ensures.value at c.in_ok-write_texts-in-Ok-Front.ensures.ok),
      c.report_and_cut-report.ensures.cut,
    )

pub returns-in_err-report-in-Ok-Front-clause-err : goal.returns-in_err-report-in-Ok-Front-clause-err
returns-in_err-report-in-Ok-Front-clause-err g c = λ text means.
    let (in_mid, held, going, cut) = c.loop-count.invariant in
    let front = rw c.in-Ok-Front.field-0-is at (rw c.in-Ok-Front.is at cut) in
    let piece = c.in-Ok-Front.text.items in
    let why = IfErr-at_err (PieceFails c.args.script.now (records_of piece) c.loop-count.standing)
    c.in_err-report-in-Ok-Front.was (rw c.deref.ensures.value at c.report_and_cut-report.ensures.err) in
    let stopped : c.from_residual.result ≡ Err c.in_err-report-in-Ok-Front.field-0.0 = search rules in
    rw stopped (fails going c.args.audit.now.limit _ piece (has_front going c.args.audit.now.limit _ _ piece front)
    c.in_err-report-in-Ok-Front.field-0.0 why text means)

pub returns-in_err-write_texts-in-Ok-Front-clause-err : goal.returns-in_err-write_texts-in-Ok-Front-clause-err
returns-in_err-write_texts-in-Ok-Front-clause-err g c = λ text means.
    let (in_mid, held, going, cut) = c.loop-count.invariant in
    let front = rw c.in-Ok-Front.field-0-is at (rw c.in-Ok-Front.is at cut) in
    let piece = c.in-Ok-Front.text.items in
    let reported = IfOk-at_ok _ c.in_ok-report-in-Ok-Front.was
    (rw c.deref.ensures.value at c.report_and_cut-report.ensures.ok) in
    let stopped : c.from_residual-in_err-write_texts-in-Ok-Front.result ≡ Err no_output = search rules in
    rw stopped (stops_short going c.args.audit.now.limit _ piece (has_front going c.args.audit.now.limit _ _ piece front) _ _ reported _
    (rw c.deref-in-Ok-Front.ensures.value at c.in_err-write_texts-in-Ok-Front.ensures.err) text means)

pub returns-in_err-report-in-Ok-Last-clause-err : goal.returns-in_err-report-in-Ok-Last-clause-err
returns-in_err-report-in-Ok-Last-clause-err g c = λ text means.
    let cut = rw c.in-Ok-Last.field-0-is at (rw c.in-Ok-Last.is at c.loop-count.invariant.3) in
    let going = c.loop-count.invariant.2 in
    let piece = c.in-Ok-Last.text.items in
    let stopped : c.from_residual-in_err-report-in-Ok-Last.result ≡ Err c.in_err-report-in-Ok-Last.field-0.0 =
    search rules in
    rw stopped (fails going c.args.audit.now.limit _ piece (has_last going c.args.audit.now.limit _ piece cut)
    c.in_err-report-in-Ok-Last.field-0.0
    (rw c.deref-in-Ok-Last.ensures.value at c.in_err-report-in-Ok-Last.ensures.err) text means)

pub returns-in_err-write_texts-in-Ok-Last-clause-err : goal.returns-in_err-write_texts-in-Ok-Last-clause-err
returns-in_err-write_texts-in-Ok-Last-clause-err g c = λ text means.
    let cut = rw c.in-Ok-Last.field-0-is at (rw c.in-Ok-Last.is at c.loop-count.invariant.3) in
    let going = c.loop-count.invariant.2 in
    let piece = c.in-Ok-Last.text.items in
    let stopped : c.from_residual-in_err-write_texts-in-Ok-Last.result ≡ Err no_output = search rules in
    rw stopped (stops_short going c.args.audit.now.limit _ piece (has_last going c.args.audit.now.limit _ piece cut) _ _
    (rw c.deref-in-Ok-Last.ensures.value at c.in_ok-report-in-Ok-Last.ensures.ok) _
    (rw c.deref-in-Ok-Last-2.ensures.value at c.in_err-write_texts-in-Ok-Last.ensures.err) text means)

pub returns-in-Ok-Last-clause-ok : goal.returns-in-Ok-Last-clause-ok
returns-in-Ok-Last-clause-ok g c =
    let cut = rw c.in-Ok-Last.field-0-is at (rw c.in-Ok-Last.is at c.loop-count.invariant.3) in
    ends_well c.loop-count.invariant.2 c.args.audit.now.limit _ c.in-Ok-Last.text.items cut
    (rw c.deref-in-Ok-Last.ensures.value at c.in_ok-report-in-Ok-Last.ensures.ok) _
    (rw c.deref-in-Ok-Last-2.ensures.value at c.in_ok-write_texts-in-Ok-Last.ensures.ok) c.end.result c.end.ensures

pub returns-in-Ok-Last-clause-err : goal.returns-in-Ok-Last-clause-err
returns-in-Ok-Last-clause-err g c =
    let cut = rw c.in-Ok-Last.field-0-is at (rw c.in-Ok-Last.is at c.loop-count.invariant.3) in
    ends_badly c.loop-count.invariant.2 c.args.audit.now.limit _ c.in-Ok-Last.text.items cut
    (rw c.deref-in-Ok-Last.ensures.value at c.in_ok-report-in-Ok-Last.ensures.ok) _
    (rw c.deref-in-Ok-Last-2.ensures.value at c.in_ok-write_texts-in-Ok-Last.ensures.ok) c.end.result c.end.ensures

pub returns-in-Err-clause-err : goal.returns-in-Err-clause-err
returns-in-Err-clause-err g c = λ text means.
    let cut = rw c.in-Err.is at c.loop-count.invariant.3 in
    rw c.of.ensures (cut_stops c.loop-count.invariant.2 c.args.audit.now.limit (g.R.Read.remaining c.loop-count.reader)
    c.loop-count.held.items c.in-Err.fault cut text means)

pub returns-clause-err : goal.returns-clause-err
returns-clause-err g c = λ text means. rw (c.at_row.ensures, c.whole.ensures) (no_turn c.loop-count.invariant.2 c.args.audit.now.limit
    (g.R.Read.remaining c.loop-count.reader) (omega arith) text means)
