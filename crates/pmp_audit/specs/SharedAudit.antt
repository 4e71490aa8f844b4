-- When an audit by several threads refuses.
use Rattle.std.specs.Prelude.{◌≡◌, ◌⊎◌, ℕ, ◌<◌, List, Any, take, Ok}
use Rattle.pmp_share.specs.Batches.{Batches, event_count}
use Rattle.pmp_text.specs.declared.trace.row_fields.RowFields.{RowFields}
use Rattle.pmp_text.specs.Contents.{ScriptContents}
use Rattle.pmp_text.specs.Moments.{moments_in}
use Rattle.pmp_text.specs.Scripts.{script_meaning}
use Rattle.pmp_text.specs.Traces.{trace_meaning}
use Rattle.pmp_text.specs.declared.fault.Fault.{Fault}
use Rattle.pmp_audit.specs.TraceAudit.{AuditRefuses}
use Rattle.pmp_audit.specs.Answers.{Declines}
use Rattle.pmp_audit.specs.Fault.{Stopped}

-- neither the script nor the trace has a fault
pub record AreFaultless (script trace : List ℕ) : Type 0 where
  pub contents : ScriptContents
  pub rows : List RowFields
  pub script_means : script_meaning script ≡ Ok contents
  pub trace_means : trace_meaning (moments_in contents) trace ≡ Ok rows

-- more events were seen than some row's publications have
abbrev pub SawMore : Batches → List RowFields → (seen : ℕ) → Type 0
SawMore batches rows seen = Any (λ row. event_count (take row.after batches) < seen) rows

-- what may stop it without a fault: no memory, no place in the unit, or more events than a row asks for
abbrev pub MayStop : Batches → List RowFields → Fault → Type 0
MayStop batches rows = Declines (Stopped (SawMore batches rows))

-- as an audit on one thread; or without a fault, if the unit has no place, or more events than a row asks for
abbrev pub SharedAuditRefuses : (script trace : List ℕ) → Fault → Type 0
SharedAuditRefuses script trace fault = AuditRefuses script trace fault
    ⊎ ((inputs : AreFaultless script trace) × Stopped (SawMore inputs.contents.batches inputs.rows) fault)
