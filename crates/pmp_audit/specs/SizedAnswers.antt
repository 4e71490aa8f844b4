-- Answers about scripts of versions 1 and 2, where there are no others.
use Rattle.std.specs.Prelude.{◌≡◌, ◌⊎◌, ℕ, List, Option, Some, None, option_map}
use Rattle.std.specs.Io.KnownBytes.{Keeps}
use Rattle.pmp_text.specs.declared.moments.When.{When}
use Rattle.pmp_text.specs.declared.moments.When.TheVariants.{Number}
use Rattle.pmp_text.specs.declared.script.sized.ScriptFault.{ScriptFault}
use Rattle.pmp_text.specs.NumberedTraces.{row_of_fault}
use Rattle.pmp_text.specs.SizedScripts.{line_of, unsized_fault}
use Rattle.pmp_text.specs.declared.fault.Fault.{Fault}
use Rattle.pmp_text.specs.declared.fault.Place.{Place}
use Rattle.pmp_text.specs.declared.fault.Place.TheVariants.{Events, In}
use Rattle.pmp_text.specs.declared.fault.Source.{Source}
use Rattle.pmp_text.specs.declared.fault.Source.TheVariants as source
use Rattle.pmp_text.specs.declared.refusal.Refusal.{Refusal}
use Rattle.pmp_text.specs.declared.refusal.Refusal.TheVariants as refusal
use Rattle.pmp_share.specs.declared.fault.ShareFault.TheVariants.{Full, NoPlace}
use Rattle.pmp_audit.specs.declared.sized.AuditFault.{AuditFault}
use Rattle.pmp_audit.specs.declared.sized.AuditFault.TheVariants.{Script, Trace, Share, Moved, BadAfter, Memory, Output}
use Rattle.pmp_audit.specs.declared.sized.Summary.{Summary}
use Rattle.pmp_audit.specs.declared.trace_audit.AuditSummary.{AuditSummary}
use Rattle.pmp_audit.specs.Answers.{IsRefused, IsWritten}
use Rattle.pmp_audit.specs.TraceAudit.{AuditSays}

-- the fault of a script without its word, or that it lacks what is asked for
abbrev pub script_answer : Refusal → Fault → AuditFault
script_answer refusal.BadAfter fault = BadAfter
script_answer refusal.NoMoment fault = BadAfter
script_answer _ fault = Script (line_of fault)

-- a fault of an input; that of a trace without its field
abbrev pub input_answer : Source → Fault → AuditFault
input_answer source.Trace fault = Trace (row_of_fault fault)
input_answer source.Policy fault = Trace (row_of_fault fault)
input_answer _ fault = script_answer fault.refusal fault

-- a fault of no input
abbrev pub other_answer : Refusal → AuditFault
other_answer refusal.NoPlace = Share NoPlace
other_answer refusal.Full = Share Full
other_answer refusal.Output = Output
other_answer _ = Memory

abbrev pub answer_at : Place → Fault → AuditFault
answer_at (In source number part) fault = input_answer source fault
answer_at (Events seen) fault = Moved (record { seen = seen })
answer_at _ fault = other_answer fault.refusal

abbrev pub audit_fault : Fault → AuditFault
audit_fault fault = answer_at fault.place fault

-- the summary without how a start is written
abbrev pub counts_of : AuditSummary → Summary
counts_of summary = record { rows = summary.rows; faults = summary.faults }

-- the text is the script's report for the trace, and the two numbers are those of its summary
abbrev pub AreCounted : (script trace : List ℕ) (summary : Summary) (text : List ℕ) → Type 0
AreCounted script trace summary text =
    (whole : AuditSummary) × AuditSays script trace whole text × (summary ≡ counts_of whole)

abbrev pub numbered_after : Option ℕ → Option When
numbered_after after = option_map (λ number. Number number) after

-- this is a script of version 1 or 2, as far as its length and its version say, and an answer about it was written
abbrev pub IsSized : {A : Type 0} (Says : A → List ℕ → Type 0) (script : List ℕ) (before after : Option (List ℕ))
    (answer : A) → Type 0
IsSized Says script before after answer = (unsized_fault script ≡ None) × IsWritten Says before after answer

-- it is none, which is refused with nothing written
abbrev pub IsUnsized : (script : List ℕ) (before after : Option (List ℕ)) → AuditFault → Type 0
IsUnsized script before after fault =
    (first : ScriptFault) × (unsized_fault script ≡ Some first) × (fault ≡ Script first) × Keeps before after

-- it is refused as a script of any version is
pub record IsRefusedAlike {A : Type 0} (Says : A → List ℕ → Type 0) (script : List ℕ) (before after : Option (List ℕ))
    (Refuses : Fault → Type 0) (fault : AuditFault) : Type 0 where
  pub sized : unsized_fault script ≡ None
  pub whole : Fault
  pub refused : IsRefused Says before after Refuses whole
  pub same : fault ≡ audit_fault whole

abbrev pub IsRefusedSized : {A : Type 0} (Says : A → List ℕ → Type 0) (script : List ℕ)
    (before after : Option (List ℕ)) (Refuses : Fault → Type 0) → AuditFault → Type 0
IsRefusedSized Says script before after Refuses fault =
    IsUnsized script before after fault ⊎ IsRefusedAlike Says script before after Refuses fault
