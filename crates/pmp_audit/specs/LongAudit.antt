-- What an audit reports on a trace of any length, and what it has written if it stops.
use Rattle.std.specs.Prelude.{◌≡◌, ◌⊎◌, ℕ, ◌+◌, ◌-◌, ◌^◌, ◌≤◌, List, ◌++◌, length, map, filter_map}
use Rattle.std.specs.Prelude.{Option, None, Ok, Err}
use Rattle.std.specs.Io.KnownBytes.{Appends, Keeps}
use Rattle.pmp_core.specs.declared.decision.Decision.{Decision}
use Rattle.pmp_text.specs.declared.trace.TraceRow.{TraceRow}
use Rattle.pmp_text.specs.declared.fault.Fault.{Fault}
use Rattle.pmp_text.specs.declared.trace.rows.Position.{Position}
use Rattle.pmp_text.specs.Bytes.{AppendsBeginning}
use Rattle.pmp_text.specs.Contents.{ScriptContents}
use Rattle.pmp_text.specs.Moments.{KnownMoments, moments_in}
use Rattle.pmp_text.specs.LongTraces.{HasLongLine, HasTooManyRows, IsReportOf, Records, beginning, long_meaning}
use Rattle.pmp_text.specs.LongTraces.{piece_fault, report_text_from, row_records, too_long_for_rows}
use Rattle.pmp_text.specs.Reports.{AreDecided}
use Rattle.pmp_text.specs.Scripts.{script_meaning}
use Rattle.pmp_text.specs.Tables.{records_of}
use Rattle.pmp_text.specs.Traces.{row_fields, row_of_record}
use Rattle.pmp_audit.specs.declared.trace_audit.AuditSummary.{AuditSummary}
use Rattle.pmp_audit.specs.TraceAudit.{summary_of}
use Rattle.pmp_text.specs.Outcomes.{no_memory, no_output}
use Rattle.pmp_text.specs.Flaws.{as_whole, at_row}
use Rattle.pmp_text.specs.declared.refusal.Refusal.TheVariants.{Input}
use Rattle.pmp_text.specs.declared.fault.Source.TheVariants as source

-- the script has these contents, the text is its report for the trace, numbered from `first`, and its decisions are
-- counted
pub record LongAuditSays (script : List ℕ) (first : ℕ) (trace : List ℕ) (summary : AuditSummary) (text : List ℕ) : Type 0
  where
    pub contents : ScriptContents
    pub script_means : script_meaning script ≡ Ok contents
    pub report : IsReportOf contents first (records_of trace) text
    pub counted : summary ≡ summary_of first report.rows report.decisions

-- ---- an audit that stops

-- the records have no fault at this place, and the text reports the decisions of their rows
pub record IsReportAt (script : ScriptContents) (place : Position) (records : Records) (text : List ℕ) : Type 0 where
  pub fine : piece_fault (moments_in script) place records ≡ None
  pub rows : List TraceRow
  pub decisions : List Decision
  pub said : map row_fields rows ≡ filter_map (row_of_record (moments_in script)) (row_records place.begun records)
  pub decided : AreDecided script rows decisions
  pub report : text ≡ report_text_from place.next rows decisions

-- the text reports whole rows, which are a prefix of the trace's
pub record IsFrontOf (script : List ℕ) (first : ℕ) (trace text : List ℕ) : Type 0 where
  pub contents : ScriptContents
  pub script_means : script_meaning script ≡ Ok contents
  pub front : Records
  pub behind : Records
  pub trace_has : records_of trace ≡ front ++ behind
  pub report : IsReportAt contents (beginning first) front text

-- a line is too long for a piece of `limit` bytes, or a row without a fault, after others, has too high a number, or
-- the bytes are too many to count in pieces
abbrev pub IsTooLong : (limit : ℕ) → KnownMoments → (first : ℕ) (trace : List ℕ) → Type 0
IsTooLong limit moments first trace = HasLongLine trace (limit - 1)
    ⊎ HasTooManyRows moments (beginning first) (records_of trace) ⊎ (2 ^ 64 ≤ length trace + 1)

-- the input of a trace failed
abbrev pub no_input : Fault
no_input = at_row source.Trace 0 (as_whole Input)

-- the trace has this first fault, its input failed, or it is too long
pub record IsFaultyLong (limit : ℕ) (script : List ℕ) (first : ℕ) (trace : List ℕ) (fault : Fault) : Type 0 where
  pub contents : ScriptContents
  pub script_means : script_meaning script ≡ Ok contents
  pub why : (long_meaning (moments_in contents) first (records_of trace) ≡ Err fault)
      ⊎ (fault ≡ no_input) ⊎ ((fault ≡ too_long_for_rows)
      × IsTooLong limit (moments_in contents) first trace)

module _ (limit : ℕ) (script : List ℕ) (first : ℕ) (trace : List ℕ) (before after : Option (List ℕ)) where
  -- whole rows were written, which are a prefix of the trace's
  abbrev pub WroteFront : Type 0
  WroteFront = (text : List ℕ) × IsFrontOf script first trace text × Appends before after text

  -- what was written is whole rows, unless the output failed; nothing, if the script has a fault
  abbrev pub StopsLong : Fault → Type 0
  StopsLong fault = ((script_meaning script ≡ Err fault) × Keeps before after)
      ⊎ (IsFaultyLong limit script first trace fault × WroteFront)
      ⊎ ((fault ≡ no_memory) × (Keeps before after ⊎ WroteFront))
      ⊎ ((fault ≡ no_output)
      × ((text : List ℕ) × IsFrontOf script first trace text × AppendsBeginning before after text))
