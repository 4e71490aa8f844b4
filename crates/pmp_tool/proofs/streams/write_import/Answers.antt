use Rattle.std.proofs.lemmas.Result.{err_from_is_err_and}
use Rattle.std.proofs.KnownBytes.{Keeps-refl}
use Rattle.pmp_text.specs.Inputs.{refusal_of_input}
use Rattle.pmp_tool.specs.Streams.{unopened, unwritten}
use Rattle.pmp_tool.proofs.Reading.{bytes_given}
use Rattle.pmp_tool.proofs.streams.write_import.Goals as goal

pub returns-in_err-log-clause-err : goal.returns-in_err-log-clause-err
returns-in_err-log-clause-err g c =
    let exit = c.from_residual-in_err-log in
    let p = err_from_is_err_and exit.result exit.ensures.1 in
    rw (p.1, p.2) (unopened (refusal_of_input c.in_err-log.field-0.0) c.in_err-log.ensures.unopened (Keeps-refl _))

pub returns-in_err-import-clause-err : goal.returns-in_err-import-clause-err
returns-in_err-import-clause-err g c =
    let exit = c.from_residual-in_err-import in
    let p = err_from_is_err_and exit.result exit.ensures.1 in
    let cant = c.in_err-import.ensures.err in
    let opened = rw c.in_ok-given.ensures.paths at c.in_ok-log.ensures.opened in
    rw (p.1, p.2) (unwritten c.in_ok-given.given c.in_ok-given.note cant.log c.in_err-import.field-0.0
    c.in_ok-given.ensures.ok (bytes_given _ _ cant.log opened cant.is_log) cant.stops cant.wrote)

pub returns-clause-ok : goal.returns-clause-ok
returns-clause-ok g c =
    let done = c.in_ok-import.ensures.ok in
    let opened = rw c.in_ok-given.ensures.paths at c.in_ok-log.ensures.opened in
    record {
      text = done.script;
      says = record {
        given = c.in_ok-given.given;
        is_given = c.in_ok-given.ensures.ok;
        log = done.log;
        is_log = bytes_given _ _ done.log opened done.is_log;
        gives = done.gives;
      };
      written = done.written;
    }
