use Rattle.std.proofs.Common.{inl, rules}
use Rattle.std.proofs.lemmas.Result.{err_from_is_err_and}
use Rattle.pmp_text.specs.Sizes.{IsInLimits}
use Rattle.pmp_audit.specs.SharedAudit.{SharedAuditRefuses}
use Rattle.pmp_audit.specs.TraceAudit.{AuditSays}
use Rattle.pmp_audit.proofs.FaultyInputs.{input_refused}
use Rattle.pmp_audit.proofs.shared_audit.audit_by_workers.Goals as goal

pub audit_trace-requires-clause-size : goal.audit_trace-requires-clause-size
audit_trace-requires-clause-size g c =
    let limits : IsInLimits c.in_ok-script.script.batches =
    c.law_script_size.ensures c.args.script.now c.in_ok-script.script c.in_ok-script.ensures in
    search rules

pub returns-in_err-script-clause-err : goal.returns-in_err-script-clause-err
returns-in_err-script-clause-err g c =
    let p = err_from_is_err_and c.from_residual.result c.from_residual.ensures.1 in
    rw (p.1, p.2) (input_refused (AuditSays c.args.script.now c.args.trace.now) _
    (SharedAuditRefuses c.args.script.now c.args.trace.now) c.in_err-script.field-0.0 (λ means. inl (inl means))
    c.in_err-script.ensures)
