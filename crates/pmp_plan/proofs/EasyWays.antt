-- When no search for an order is needed.
use Rattle.std.proofs.Common.{◌≡◌, ◌⊎◌, arith, inl, inr, refl, subst, sym, IfSome, List, [], None, length, ◌≤◌}
use Rattle.pmp_core.specs.declared.event.Event.{Event}
use Rattle.pmp_core.specs.RegisterFile.{RegisterFile}
use Rattle.pmp_core.specs.RegisterWrite.{step}
use Rattle.std.specs.List.{fold}
use Rattle.pmp_plan.specs.declared.aim.Aim.{Aim}
use Rattle.pmp_plan.specs.declared.plan_row.PlanRow.{PlanRow}
use Rattle.pmp_plan.specs.PlanFaults.{Makes}
use Rattle.pmp_plan.specs.Plans.{MeetsPlan}
use Rattle.pmp_plan.specs.Routes.{IsPlain, IsSafe, Leads, lasting}
use Rattle.pmp_plan.proofs.Answering.{safe_as_asked}

module _ (start : RegisterFile) (aim : Aim) (rows : List PlanRow) where
  -- registers that meet the plan already need no writes
  pub leads_at_once : MeetsPlan start.profile (lasting start aim.security) rows start → Leads start aim rows []
  leads_at_once met =
      record { only = refl; met = met; safe = safe_as_asked aim.watch start [] (omega arith) }

  module _ (writes : List Event) (few : rows ≡ [] → length writes ≤ 1) where
    safe_plainly : (aim.watch ≡ None) ⊎ (rows ≡ []) → IfSome aim.watch (λ watch. IsSafe watch start writes)
    safe_plainly (inl none) = rw none tt
    safe_plainly (inr none) = safe_as_asked aim.watch start writes (few none)

    -- the writes lead there from this file
    abbrev MetFrom : RegisterFile → Type 0
    MetFrom file = MeetsPlan start.profile (lasting start aim.security) rows (fold step file writes)

    -- what makes the plan's registers after reset leads to them from there, if that is easy
    pub leads_plainly : Makes start.profile (lasting start aim.security) rows writes → IsPlain start aim rows
        → Leads start aim rows writes
    leads_plainly made plain = record {
      only = made.only;
      met = subst MetFrom (sym plain.reset) made.met;
      safe = safe_plainly plain.eased;
    }
