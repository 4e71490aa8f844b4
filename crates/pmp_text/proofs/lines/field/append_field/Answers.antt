use Rattle.std.proofs.Common.{◌++◌, ℕ, [], ◌∷◌}
use Rattle.pmp_text.proofs.Prefixes.{on_err, starts_before}
use Rattle.pmp_text.proofs.lines.field.append_field.Goals as goal

pub returns-in_err-append_escaped-clause-err : goal.returns-in_err-append_escaped-clause-err
returns-in_err-append_escaped-clause-err g c =
    on_err c.from_residual-in_err-append_escaped.result (starts_before (g.S.Sink.text c.args.out.now) _ _
    (34 ∷ []) c.in_ok-append.ensures.ok c.in_err-append_escaped.ensures.err)
