-- A report, one row after another.
use Rattle.std.proofs.Common.{◌≡◌, ℕ, ◌+◌, Bool, true, false, cond, not, List, [], ◌∷◌, ◌++◌, length, map, Ok}
use Rattle.std.proofs.Common.{refl, sym, ap, ◌∙◌}
use Rattle.std.proofs.lemmas.List.Sums.{sum_by_push}
use Rattle.pmp_core.specs.declared.decision.Decision.{Decision}
use Rattle.pmp_core.specs.Decision.{IsDecision}
use Rattle.pmp_text.specs.declared.trace.TraceRow.{TraceRow}
use Rattle.pmp_text.specs.Contents.{ScriptContents}
use Rattle.pmp_text.specs.LongTraces.{report_text_from}
use Rattle.pmp_text.specs.Reports.{AreDecided, file_of_script, report_text}
use Rattle.pmp_text.specs.Scripts.{script_meaning}
use Rattle.pmp_text.specs.Traces.{first_bare, trace_meaning}
use Rattle.pmp_text.specs.Traces.{row_fields}
use Rattle.pmp_text.specs.Moments.{moments_in}
use Rattle.pmp_audit.specs.declared.trace_audit.AuditSummary.{AuditSummary}
use Rattle.pmp_audit.specs.Report.{refused_count}
use Rattle.pmp_audit.specs.TraceAudit.{AuditSays, ReportSays}

flipped : (allowed : Bool) → cond {A = ℕ} (not allowed) 1 0 ≡ cond allowed 0 1
flipped true = refl
flipped false = refl

pub refused-push : (decisions : List Decision) (decision : Decision)
    → refused_count (decisions ++ decision ∷ []) ≡ refused_count decisions + cond decision.allowed 0 1
refused-push decisions decision =
    sum_by_push (λ (d : Decision). cond (not d.allowed) 1 0) decisions decision
    ∙ ap (λ (n : ℕ). refused_count decisions + n) (flipped decision.allowed)

module _ (script : ScriptContents) where
  abbrev pub Decides : TraceRow → Decision → Type 0
  Decides row decision = IsDecision (file_of_script script row.after) row.access decision

-- ---- a whole report

pub report_says : (rows : List TraceRow) (decisions : List Decision) (before after text : List ℕ) (faults : ℕ)
    (summary : AuditSummary) → length decisions ≡ length rows → after ≡ before ++ report_text_from 1 rows decisions
    → before ≡ [] → text ≡ after → faults ≡ refused_count decisions
    → summary ≡ record { rows = length rows; faults = faults; bare = first_bare 1 rows }
    → ReportSays rows decisions summary text
unfolding report_text report_text_from
report_says rows decisions before after text faults summary one_each listed empty same counted is = record {
  report = same ∙ listed ∙ ap (λ front. front ++ report_text rows decisions) empty;
  counted = is ∙ (λ i. record { rows = sym one_each i; faults = counted i; bare = first_bare 1 rows });
}

pub audit_says : (script trace : List ℕ) (contents : ScriptContents) (rows : List TraceRow) (decisions : List Decision)
    → script_meaning script ≡ Ok contents → trace_meaning (moments_in contents) trace ≡ Ok (map row_fields rows)
    → AreDecided contents rows decisions → (summary : AuditSummary) (text : List ℕ)
    → ReportSays rows decisions summary text → AuditSays script trace summary text
audit_says script trace contents rows decisions script_means trace_means decided summary text said = record {
  contents = contents;
  script_means = script_means;
  report = record {
    rows = rows;
    decisions = decisions;
    trace_means = trace_means;
    decided = decided;
    report = said.report;
  };
  counted = said.counted;
}
