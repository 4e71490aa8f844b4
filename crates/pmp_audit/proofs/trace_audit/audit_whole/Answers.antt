use Rattle.std.proofs.Common.{inl}
use Rattle.std.proofs.lemmas.Result.{err_from_is_err_and}
use Rattle.pmp_audit.specs.TraceAudit.{AuditRefuses, AuditSays}
use Rattle.pmp_audit.proofs.FaultyInputs.{input_refused}
use Rattle.pmp_audit.proofs.trace_audit.audit_whole.Goals as goal

pub returns-in_err-script-clause-err : goal.returns-in_err-script-clause-err
returns-in_err-script-clause-err g c =
    let p = err_from_is_err_and c.from_residual.result c.from_residual.ensures.1 in
    rw (p.1, p.2) (input_refused (AuditSays c.args.script.now c.args.trace.now) _
    (AuditRefuses c.args.script.now c.args.trace.now) c.in_err-script.field-0.0 (λ means. inl means)
    c.in_err-script.ensures)
