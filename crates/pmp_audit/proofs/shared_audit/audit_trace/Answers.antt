use Rattle.std.proofs.Common.{◌≡◌, ◌∙◌, ℕ, List, length, map, ap, inl, inr, refl, sym, subst, Ok}
use Rattle.std.proofs.KnownBytes.{Keeps-refl}
use Rattle.std.proofs.lemmas.List.{length-map}
use Rattle.std.proofs.lemmas.Result.{err_from_is_err_and}
use Rattle.pmp_text.specs.Moments.{moments_in}
use Rattle.pmp_text.specs.Reports.{AreDecided}
use Rattle.pmp_text.specs.Scripts.{script_meaning}
use Rattle.pmp_text.specs.Traces.{row_fields, trace_meaning}
use Rattle.pmp_audit.specs.Rounds.{decision_for}
use Rattle.pmp_audit.specs.SharedAudit.{AreFaultless, SharedAuditRefuses}
use Rattle.pmp_audit.specs.TraceAudit.{AuditSays}
use Rattle.pmp_audit.proofs.DecidedRows.{are_decided}
use Rattle.pmp_audit.proofs.FaultyInputs.{input_refused}
use Rattle.pmp_audit.proofs.Reports.{audit_says, report_says}
use Rattle.pmp_audit.proofs.Stopping.{refused_so}
use Rattle.pmp_audit.proofs.WrittenAnswers.{answered, refused}
use Rattle.pmp_audit.proofs.shared_audit.audit_trace.Goals as goal
use Rattle.pmp_audit.proofs.shared_audit.audit_trace.Goals.{After-write_answer}

says : (g : _) (c : After-write_answer g) (text : List ℕ) → script_meaning text ≡ Ok c.args.script.now
    → AuditSays text c.args.trace.now c.of.result c.deref-4.result.now
says g c text means =
    let script = c.args.script.now in
    let rows = c.in_ok-rows.rows.items in
    let decisions = c.in_ok-decisions.decisions.items in
    let trace_means : trace_meaning (moments_in script) c.args.trace.now ≡ Ok (map row_fields rows) =
    rw (← c.moments.ensures) c.in_ok-rows.ensures.given in
    let made : decisions ≡ map (decision_for script) rows =
    c.in_ok-decisions.ensures.decided ∙ ap (map (decision_for script)) c.deref.ensures.value in
    let decided : AreDecided script rows decisions =
    subst (AreDecided script rows) (sym made)
    (are_decided c.law_decided_by_ranges.ensures script (c.law_legal_start.ensures text script means) rows) in
    audit_says text c.args.trace.now script rows decisions means trace_means decided c.of.result c.deref-4.result.now
    (report_says rows decisions _ _ c.deref-4.result.now c.in_ok-faults.faults _ (ap length made ∙ length-map rows _)
    (rw (c.deref-2.ensures.value, c.deref-3.ensures.value) at c.in_ok-faults.ensures.text) c.new-report.ensures.items
    c.deref-4.ensures.value (rw c.deref-3.ensures.value at c.in_ok-faults.ensures.refused)
    (rw c.deref-5.ensures.value at c.of.ensures))

pub returns-clause-ok : goal.returns-clause-ok
returns-clause-ok g c = λ text means.
    answered _ _ _ _ _ (says g (goal.at.returns-clause-ok g c).After-write_answer text means) _
    c.write_answer.ensures.ok

pub returns-clause-err : goal.returns-clause-err
returns-clause-err g c = λ text means.
    refused _ _ _ _ _ (says g (goal.at.returns-clause-err g c).After-write_answer text means)
    (SharedAuditRefuses text c.args.trace.now) tt _ c.write_answer.ensures.err

pub returns-in_err-rows-clause-err : goal.returns-in_err-rows-clause-err
returns-in_err-rows-clause-err g c = λ text means.
    let p = err_from_is_err_and c.from_residual.result c.from_residual.ensures.1 in
    let script = c.args.script.now in
    rw (p.1, p.2) (input_refused (AuditSays text c.args.trace.now) _ (SharedAuditRefuses text c.args.trace.now)
    c.in_err-rows.field-0.0 (λ why. inl (inr record { contents = script; script_means = means; trace_means = why }))
    (rw c.moments.ensures at c.in_err-rows.ensures.given))

pub returns-in_err-decisions-clause-err : goal.returns-in_err-decisions-clause-err
returns-in_err-decisions-clause-err g c = λ text means.
    let inputs : AreFaultless text c.args.trace.now = record {
      contents = c.args.script.now;
      rows = map row_fields c.in_ok-rows.rows.items;
      script_means = means;
      trace_means = rw (← c.moments.ensures) c.in_ok-rows.ensures.given;
    } in
    let p = err_from_is_err_and c.from_residual-in_err-decisions.result c.from_residual-in_err-decisions.ensures.1 in
    rw (p.1, p.2) (refused_so (AuditSays text c.args.trace.now) _ text c.args.trace.now inputs
    c.in_err-decisions.field-0.0 (rw c.deref.ensures.value at c.in_err-decisions.ensures.refused))

pub returns-in_err-faults-clause-err : goal.returns-in_err-faults-clause-err
returns-in_err-faults-clause-err g c = λ text means.
    let exit = c.from_residual-in_err-faults in
    let p = err_from_is_err_and exit.result exit.ensures.1 in
    rw (p.1, p.2) (inr (inl refl, Keeps-refl _))
