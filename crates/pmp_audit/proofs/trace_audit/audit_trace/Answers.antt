use Rattle.std.proofs.Common.{arith, inl, refl}
use Rattle.std.proofs.lemmas.Result.{err_from_is_err_and}
use Rattle.pmp_audit.specs.LongParts.{items_of}
use Rattle.pmp_audit.proofs.WholeAudits.{fails, no_header, says, too_long}
use Rattle.pmp_audit.proofs.trace_audit.audit_trace.Goals as goal

pub returns-then-trace-gt-MAX_TRACE-clause-err : goal.returns-then-trace-gt-MAX_TRACE-clause-err
returns-then-trace-gt-MAX_TRACE-clause-err g c = λ text means.
    rw (c.at_row.ensures, c.whole.ensures)
    (too_long text c.args.trace.now c.args.script.now means (omega arith)
    (g.W.Write.contents c.args.writer.now))

pub returns-in_err-report-clause-err : goal.returns-in_err-report-clause-err
returns-in_err-report-clause-err g c = λ text means.
    let p = err_from_is_err_and c.from_residual.result c.from_residual.ensures.1 in
    rw (p.1, p.2) (fails text c.args.trace.now c.args.script.now means (omega arith)
    c.in_err-report.field-0.0 (rw c.beginning.ensures at c.in_err-report.ensures.err)
    (g.W.Write.contents c.args.writer.now))

pub returns-in_err-summary-clause-err : goal.returns-in_err-summary-clause-err
returns-in_err-summary-clause-err g c = λ text means.
    let p = err_from_is_err_and c.from_residual-in_err-summary.result c.from_residual-in_err-summary.ensures.1 in
    let (begun, is) = c.in_err-summary.ensures in
    rw (p.1, p.2, is) (no_header text c.args.trace.now c.args.script.now means
    (omega arith) c.in_ok-report.report.behind _ (rw c.beginning.ensures at c.in_ok-report.ensures.ok) begun
    (g.W.Write.contents c.args.writer.now))

pub returns-in_err-write_texts-clause-err : goal.returns-in_err-write_texts-clause-err
returns-in_err-write_texts-clause-err g c = λ text means.
    let p = err_from_is_err_and c.from_residual-in_err-write_texts.result
    c.from_residual-in_err-write_texts.ensures.1 in
    let (begun, is) = c.in_ok-summary.ensures in
    rw (p.1, p.2) (inl (
      refl,
      record {
        answer = c.in_ok-summary.summary;
        text = items_of c.in_ok-report.report.texts.items;
        says = says text c.args.trace.now c.args.script.now means (omega arith)
            c.in_ok-report.report.behind _ (rw c.beginning.ensures at c.in_ok-report.ensures.ok) c.in_ok-summary.summary
            begun is;
        front = rw c.deref.ensures.value at c.in_err-write_texts.ensures.err;
      },
    ))

pub returns-clause-ok : goal.returns-clause-ok
returns-clause-ok g c = λ text means.
    let (begun, is) = c.in_ok-summary.ensures in record {
      text = items_of c.in_ok-report.report.texts.items;
      says = says text c.args.trace.now c.args.script.now means (omega arith)
          c.in_ok-report.report.behind _ (rw c.beginning.ensures at c.in_ok-report.ensures.ok) c.in_ok-summary.summary
          begun is;
      written = rw c.deref.ensures.value at c.in_ok-write_texts.ensures.ok;
    }
