use Rattle.std.proofs.Common.{rules, ◌≡◌, Err}
use Rattle.pmp_audit.proofs.LongTurns.{script_stops}
use Rattle.pmp_audit.proofs.long_audit.audit_long.Goals as goal

pub returns-in_err-parsed-clause-err : goal.returns-in_err-parsed-clause-err
returns-in_err-parsed-clause-err g c =
    let stopped : c.from_residual.result ≡ Err c.in_err-parsed.field-0.0 = search rules in
    rw stopped (script_stops c.args.audit.now.limit c.args.script.now c.args.audit.now.first _ _ c.in_err-parsed.field-0.0
    c.in_err-parsed.ensures)
