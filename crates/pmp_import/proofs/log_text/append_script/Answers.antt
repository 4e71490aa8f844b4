use Rattle.std.proofs.Common.{rules, ◌≡◌, Err}
use Rattle.std.proofs.lemmas.Result.{IfErr-weaker, on_ok_weaker}
use Rattle.pmp_text.specs.Lines.{lines}
use Rattle.pmp_import.proofs.LogTexts.{appends_script, stops_first, stops_last}
use Rattle.pmp_import.proofs.log_text.append_script.Goals as goal

pub returns-in_err-take_lines-clause-err : goal.returns-in_err-take_lines-clause-err
returns-in_err-take_lines-clause-err g c =
    let fault = c.in_err-take_lines.field-0.0 in
    let stopped : c.from_residual-in_err-take_lines.result ≡ Err fault = search rules in
    rw stopped (stops_first c.args.given (lines c.args.log.now) fault
    (rw (c.new-importer.ensures.given, c.new-importer.ensures.walk) at c.in_err-take_lines.ensures.err))

pub returns-clause-ok : goal.returns-clause-ok
returns-clause-ok g c =
    let reads = rw (c.new-importer.ensures.given, c.new-importer.ensures.walk) at c.in_ok-take_lines.ensures.ok in
    let begins = rw c.new-importer.ensures.given at c.in_ok-begin.ensures.ok in
    on_ok_weaker c.end.result (λ ends.
    appends_script c.args.given (lines c.args.log.now) c.take_lines.new.self.walk (g.S.Sink.text c.begin.new.out)
    (g.S.Sink.text c.take_lines.new.out) reads (g.S.Sink.text c.args.out.now) (g.S.Sink.text c.end.new.out) begins ends)
    (rw (c.take_lines.ensures.given, c.new-importer.ensures.given) at c.end.ensures.ok)

pub returns-clause-err : goal.returns-clause-err
returns-clause-err g c =
    let reads = rw (c.new-importer.ensures.given, c.new-importer.ensures.walk) at c.in_ok-take_lines.ensures.ok in
    IfErr-weaker c.end.result _ _ (λ fault stops.
    stops_last c.args.given (lines c.args.log.now) c.take_lines.new.self.walk (g.S.Sink.text c.begin.new.out)
    (g.S.Sink.text c.take_lines.new.out) reads fault stops)
    (rw (c.take_lines.ensures.given, c.new-importer.ensures.given) at c.end.ensures.err)
