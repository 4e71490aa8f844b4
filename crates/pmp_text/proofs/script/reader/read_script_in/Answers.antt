use Rattle.std.proofs.Common.{inl, sym, ap, ◌∙◌}
use Rattle.std.proofs.lemmas.Bool.{ltb-false, ltb-true}
use Rattle.pmp_text.specs.Steps.Progress.{concluded}
use Rattle.pmp_text.specs.Steps.Views.{seen_line, lines_left}
use Rattle.pmp_text.proofs.Longhands.{reads_longhand}
use Rattle.pmp_text.proofs.Meanings.{long_script, no_version, no_size, with_size}
use Rattle.pmp_text.proofs.script.reader.read_script_in.Goals as goal

pub returns-then-is_too_long : goal.returns-then-is_too_long
returns-then-is_too_long g c = rw (c.at_line.ensures, c.whole.ensures)
    (inl (long_script c.args.text.now (ltb-true _ _ (sym c.is_too_long.ensures ∙ c.if-is_too_long.true))))

pub returns-in_default : goal.returns-in_default
returns-in_default g c = rw (c.at_line-in_default.ensures, c.whole-in_default.ensures) (inl
    (no_version c.args.text.now (ltb-false _ _ (sym c.is_too_long.ensures ∙ c.if-is_too_long.false)) (sym c.new-lines.ensures ∙ c.in_default.ensures.steps.0)))

pub returns-in-Ok : goal.returns-in-Ok
returns-in-Ok g c =
    let short = ltb-false _ _ (sym c.is_too_long.ensures ∙ c.if-is_too_long.false) in
    let version = c.in-Ok.version in
    let more = lines_left c.next.new.self in
    rw (with_size c.args.text.now short (seen_line c.in-Some.first) more
    (sym c.new-lines.ensures ∙ c.in-Some.ensures.steps) version c.in-Ok.ensures.ok
    ∙ ap (concluded version) (reads_longhand version more)) c.read_statements.ensures

pub returns-in-Err : goal.returns-in-Err
returns-in-Err g c =
    rw (c.at_line-in-Err.ensures, c.in-Err.ensures.err.1)
    (inl (no_size c.args.text.now (ltb-false _ _ (sym c.is_too_long.ensures ∙ c.if-is_too_long.false)) (seen_line c.in-Some.first) (lines_left c.next.new.self)
    (sym c.new-lines.ensures ∙ c.in-Some.ensures.steps) c.in-Err.ensures.err.0))
