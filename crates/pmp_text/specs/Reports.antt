-- The text of a report, and of each of its rows.
use Rattle.std.specs.Prelude.{◌≡◌, ℕ, Bool, List, [], ◌∷◌, ◌++◌, fold, map, take, Option, Some, None, Ok}
use Rattle.std.specs.Prelude.{if◌then◌else◌, codes, decimal}
use Rattle.std.specs.List.{AllZip, zip, enumerate_from, flat_map}
use Rattle.pmp_core.specs.declared.access.Access.{Access}
use Rattle.pmp_core.specs.declared.decision.Cause.{Cause}
use Rattle.pmp_core.specs.declared.event.Event.{Event}
use Rattle.pmp_core.specs.declared.decision.Cause.TheVariants.{Rule, Split, NoMatch}
use Rattle.pmp_core.specs.declared.decision.Decision.{Decision}
use Rattle.pmp_core.specs.Decision.{IsDecision}
use Rattle.pmp_core.specs.FaultCode.{fault_of}
use Rattle.pmp_core.specs.Histories.{joined}
use Rattle.pmp_core.specs.RegisterFile.{RegisterFile}
use Rattle.pmp_core.specs.RegisterWrite.{step}
use Rattle.pmp_text.specs.declared.trace.TraceRow.{TraceRow}
use Rattle.pmp_text.specs.Contents.{ScriptContents}
use Rattle.pmp_text.specs.Moments.{moments_in}
use Rattle.pmp_text.specs.Traces.{row_fields, trace_meaning}

abbrev pub answer_text : Bool → List ℕ
answer_text allowed = if allowed then codes "allow" else codes "fault"

abbrev pub cause_text : Cause → List ℕ
cause_text (Rule _) = codes "rule"
cause_text (Split _) = codes "split"
cause_text NoMatch = codes "none"

-- the entry that decided
abbrev pub entry_of : Cause → Option ℕ
entry_of (Rule entry) = Some entry
entry_of (Split entry) = Some entry
entry_of NoMatch = None

-- a number in decimal, or nothing
abbrev pub optional_text : Option ℕ → List ℕ
optional_text None = []
optional_text (Some number) = decimal number

-- each field after a comma, and LF at the end
abbrev pub fields_after : List (List ℕ) → List ℕ
fields_after [] = 10 ∷ []
fields_after (field ∷ rest) = codes "," ++ (field ++ fields_after rest)

-- each field after a comma
abbrev pub fields_before : List (List ℕ) → List ℕ
fields_before fields = flat_map (λ field. codes "," ++ field) fields

-- the row for the access with this number
unfoldable pub report_row : ℕ → Access → Decision → List ℕ
report_row number access decision =
    decimal number
    ++ fields_after (answer_text decision.allowed ∷ optional_text (fault_of access decision)
    ∷ cause_text decision.cause ∷ optional_text (entry_of decision.cause) ∷ [])

-- ---- a whole report

-- the register file after these publications, starting from this file
abbrev pub file_behind : (start : RegisterFile) → List (List Event) → RegisterFile
file_behind start batches = fold step start (joined batches)

-- the register file after the first publications of a script
abbrev pub file_of_script : ScriptContents → (done : ℕ) → RegisterFile
file_of_script script done = file_behind script.start (take done script.batches)

-- a decision for each row, the manual's in the file after the publications that the row asks for (3.7.1.3)
abbrev pub AreDecided : ScriptContents → List TraceRow → List Decision → Type 0
AreDecided script rows decisions =
    AllZip (λ row decision. IsDecision (file_of_script script row.after) row.access decision) rows decisions

-- a report row for each decision, numbered from 1
unfoldable pub report_text : List TraceRow → List Decision → List ℕ
report_text rows decisions =
    let numbered = enumerate_from 1 (zip rows decisions) in
    flat_map (λ (number, (row, decision)). report_row number row.access decision) numbered

-- the trace has these rows, and the text reports their decisions
pub record IsReport (script : ScriptContents) (trace text : List ℕ) : Type 0 where
  pub rows : List TraceRow
  pub decisions : List Decision
  pub trace_means : trace_meaning (moments_in script) trace ≡ Ok (map row_fields rows)
  pub decided : AreDecided script rows decisions
  pub report : text ≡ report_text rows decisions
