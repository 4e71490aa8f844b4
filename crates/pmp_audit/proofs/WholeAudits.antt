-- A trace that is audited as one piece.
use Rattle.std.proofs.Common.{◌≡◌, ℕ, ◌-◌, ◌<◌, ◌≤◌, true, false, List, length, Option, None, Ok, Err}
use Rattle.std.proofs.Common.{refl, sym, ap, ◌∙◌, inl, inr}
use Rattle.std.proofs.KnownBytes.{Keeps-refl}
use Rattle.pmp_text.specs.declared.refusal.Refusal.TheVariants.{BadHeader, TooLong}
use Rattle.pmp_text.specs.declared.fault.Fault.{Fault}
use Rattle.pmp_text.specs.declared.trace.reader.TheConstants.{MAX_TRACE}
use Rattle.pmp_text.specs.declared.trace.rows.Position.{Position}
use Rattle.pmp_text.specs.Contents.{ScriptContents}
use Rattle.pmp_text.specs.Flaws.{as_whole, at_row}
use Rattle.pmp_text.specs.LongTraces.{report_text_from}
use Rattle.pmp_text.specs.Reports.{report_text}
use Rattle.pmp_text.specs.Scripts.{script_meaning}
use Rattle.pmp_text.specs.Tables.{records_of}
use Rattle.pmp_text.specs.Traces.{is_header, rows_meaning, trace_meaning}
use Rattle.pmp_text.proofs.Rows.{long_text, trace_is}
use Rattle.pmp_text.proofs.WholeTraces.{few_rows, found, meaning_is, without_header}
use Rattle.pmp_text.specs.Moments.{moments_in}
use Rattle.pmp_audit.specs.declared.standing.Standing.{Standing}
use Rattle.pmp_audit.specs.declared.trace_audit.AuditSummary.{AuditSummary}
use Rattle.pmp_audit.specs.Answers.{IsRefused}
use Rattle.pmp_audit.specs.LongAudit.{LongAuditSays}
use Rattle.pmp_audit.specs.LongPieces.{IsReported, PieceFails}
use Rattle.pmp_audit.specs.TraceAudit.{AuditRefuses, AuditSays}
use Rattle.pmp_audit.proofs.LongStops.{says_all}
use Rattle.pmp_audit.proofs.PieceTexts.{start}
use Rattle.pmp_text.specs.declared.fault.Source.TheVariants as source

says_short : (script trace : List ℕ) (summary : AuditSummary) (text : List ℕ) → length trace ≤ MAX_TRACE
    → LongAuditSays script 1 trace summary text → AuditSays script trace summary text
unfolding report_text report_text_from
says_short script trace summary text short says = record {
  contents = says.contents;
  script_means = says.script_means;
  report = record {
    rows = says.report.rows;
    decisions = says.report.decisions;
    trace_means = meaning_is (moments_in says.contents) trace short ∙ says.report.records_mean;
    decided = says.report.decided;
    report = says.report.report;
  };
  counted = says.counted;
}

module _ (script trace : List ℕ) (contents : ScriptContents) (means : script_meaning script ≡ Ok contents) where
  abbrev Refused : Option (List ℕ) → Option (List ℕ) → Fault → Type 0
  Refused before after = IsRefused (AuditSays script trace) before after (AuditRefuses script trace)

  refuses : (fault : Fault) → trace_meaning (moments_in contents) trace ≡ Err fault → (out : Option (List ℕ))
      → Refused out out fault
  refuses fault e out =
      inr (inr (inr record { contents = contents; script_means = means; trace_means = e }), Keeps-refl out)

  pub too_long : MAX_TRACE < length trace → (out : Option (List ℕ))
      → Refused out out (at_row source.Trace 0 (as_whole TooLong))
  too_long long out = refuses (at_row source.Trace 0 (as_whole TooLong)) (trace_is (moments_in contents) trace
      ∙ long_text source.Trace is_header (rows_meaning (moments_in contents)) trace long) out

  module _ (short : length trace ≤ MAX_TRACE) where
    pub fails : (fault : Fault) → PieceFails contents (records_of trace) (start 1) fault
        → (out : Option (List ℕ)) → Refused out out fault
    fails fault (inl memory) out = inr (inl memory, Keeps-refl out)
    fails fault (inr (inl e)) out = refuses fault (found (moments_in contents) trace short fault e) out
    fails fault (inr (inr (long, many))) out =
        absurd (few_rows (moments_in contents) trace short many.front many.behind many.are many.many)

    module _ (behind : Standing) (text : List ℕ) (whole : IsReported contents (records_of trace) (start 1) behind text)
      where
        pub says : (summary : AuditSummary) → behind.place.begun ≡ true
            → summary ≡ record { rows = behind.place.next - 1; faults = behind.faults; bare = behind.place.bare }
            → AuditSays script trace summary text
        says summary begun is = says_short script trace summary text short
            (says_all script means 0 whole None None tt trace refl summary begun is)

        pub no_header : behind.place.begun ≡ false → (out : Option (List ℕ))
            → Refused out out (at_row source.Trace 0 (as_whole BadHeader))
        no_header begun out = refuses (at_row source.Trace 0 (as_whole BadHeader)) (without_header (moments_in contents) trace
            short (sym (ap (λ (p : Position). p.begun) whole.place) ∙ begun)) out
