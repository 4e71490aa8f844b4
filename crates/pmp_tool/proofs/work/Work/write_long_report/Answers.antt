use Rattle.std.proofs.Common.{refl}
use Rattle.std.proofs.lemmas.Result.{err_from_is_err_and}
use Rattle.std.proofs.KnownBytes.{Keeps-refl}
use Rattle.pmp_tool.specs.Streams.{no_long_script, no_long_trace, stopped}
use Rattle.pmp_tool.proofs.Reading.{bytes_given}
use Rattle.pmp_tool.proofs.work.Work.write_long_report.Goals as goal

pub returns-in_err-script-clause-err : goal.returns-in_err-script-clause-err
returns-in_err-script-clause-err g c =
    let p = err_from_is_err_and c.from_residual.result c.from_residual.ensures.1 in
    rw (p.1, p.2) (no_long_script _ c.in_err-script.ensures.unread (Keeps-refl _))

pub returns-in_err-rows-clause-err : goal.returns-in_err-rows-clause-err
returns-in_err-rows-clause-err g c =
    let exit = c.from_residual-in_err-rows in
    let p = err_from_is_err_and exit.result exit.ensures.1 in
    rw (p.1, p.2) (no_long_trace _ c.in_err-rows.ensures.unopened (Keeps-refl _))

pub returns-in_err-summary-clause-err : goal.returns-in_err-summary-clause-err
returns-in_err-summary-clause-err g c =
    let exit = c.from_residual-in_err-summary in
    let p = err_from_is_err_and exit.result exit.ensures.1 in
    let (trace, gives, stops) = rw c.deref.ensures.value at c.in_err-summary.ensures.err in
    let opened = rw c.in_ok-script.ensures.paths at c.in_ok-rows.ensures.opened in
    rw (p.1, p.2) (stopped c.in_ok-script.script.items trace _ c.in_ok-script.ensures.read
    (bytes_given _ _ trace opened gives) stops)

pub returns-clause-ok : goal.returns-clause-ok
returns-clause-ok g c =
    let (trace, gives, written) = rw c.deref.ensures.value at c.in_ok-summary.ensures.ok in
    let opened = rw c.in_ok-script.ensures.paths at c.in_ok-rows.ensures.opened in
    record {
      text = written.text;
      says = record {
        script = c.in_ok-script.script.items;
        script_read = c.in_ok-script.ensures.read;
        trace = trace;
        trace_read = bytes_given _ _ trace opened gives;
        summary = c.in_ok-summary.summary;
        is = refl;
        says = written.says;
      };
      written = written.written;
    }
