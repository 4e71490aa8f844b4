-- What stops a shared audit of inputs without a fault.
use Rattle.std.proofs.Common.{◌≡◌, ◌∙◌, ◌<◌, ℕ, List, map, take, Option, ap, inl, inr, refl}
use Rattle.std.specs.Prelude.{Any}
use Rattle.std.proofs.lemmas.List.{get_or-map, length-map}
use Rattle.std.proofs.KnownBytes.{Keeps-refl}
use Rattle.pmp_share.specs.declared.fault.ShareFault.{ShareFault}
use Rattle.pmp_share.specs.declared.fault.ShareFault.TheVariants.{Full, Memory, NoPlace}
use Rattle.pmp_share.specs.Batches.{Batches, event_count}
use Rattle.pmp_text.specs.declared.trace.TraceRow.{TraceRow}
use Rattle.pmp_text.specs.Traces.{row_fields}
use Rattle.pmp_text.specs.declared.fault.Fault.{Fault}
use Rattle.pmp_audit.specs.Answers.{Declines, IsRefused}
use Rattle.pmp_audit.specs.Fault.{Stopped, fault_of_share}
use Rattle.pmp_audit.specs.Working.{StopsRound}
use Rattle.pmp_audit.specs.SharedAudit.{AreFaultless, MayStop, SawMore, SharedAuditRefuses}

-- where a row asks for publications that have fewer events than were seen
more_than_asked : (batches : Batches) (told seen : ℕ) (rows : List TraceRow) → Any (λ row. row.after ≡ told) rows
    → event_count (take told batches) < seen → SawMore batches (map row_fields rows) seen
more_than_asked batches told seen rows (k, row, inside, at, asks) less =
    let at_row = get_or-map row_fields rows k row (row_fields row) inside ∙ ap row_fields at in
    (k, row_fields row, rw (length-map rows row_fields) inside, at_row, rw asks less)

-- what stops a round after the publications that a row asks for may stop the audit
pub stops_after : (batches published : Batches) (rows : List TraceRow) (told : ℕ) → published ≡ take told batches
    → (fault : Fault) → StopsRound published fault → Any (λ row. row.after ≡ told) rows
    → MayStop batches (map row_fields rows) fault
stops_after batches published rows told is fault (inl memory) asks = inl memory
stops_after batches published rows told is fault (inr (inl place)) asks = inr (inl place)
stops_after batches published rows told is fault (inr (inr (seen, moved, less))) asks =
    inr (inr (seen, moved, more_than_asked batches told seen rows asks (rw is at less)))

-- what may stop the audit, while nothing was written, is a refusal of it
pub refused_so : {A : Type 0} (Says : A → List ℕ → Type 0) (before : Option (List ℕ)) (script trace : List ℕ)
    (inputs : AreFaultless script trace) (fault : Fault) → MayStop inputs.contents.batches inputs.rows fault
    → IsRefused Says before before (SharedAuditRefuses script trace) fault
refused_so Says before script trace inputs fault (inl memory) = inr (inl memory, Keeps-refl before)
refused_so Says before script trace inputs fault (inr stopped) = inr (inr (inr (inputs, stopped)), Keeps-refl before)

-- a unit that isn't full refuses for want of a place, or of memory
pub unit_stops : (Seen : ℕ → Type 0) (fault : ShareFault) → (fault ≡ Full → ⊥)
    → Declines (Stopped Seen) (fault_of_share fault)
unit_stops Seen NoPlace not_full = inr (inl refl)
unit_stops Seen Full not_full = absurd (not_full refl)
unit_stops Seen Memory not_full = inl refl
