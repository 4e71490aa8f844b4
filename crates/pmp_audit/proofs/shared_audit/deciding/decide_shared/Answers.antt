use Rattle.std.proofs.Common.{◌≡◌, refl}
use Rattle.std.proofs.lemmas.List.Elements.{All-replicate}
use Rattle.pmp_audit.proofs.Stopping.{unit_stops}
use Rattle.pmp_audit.proofs.shared_audit.deciding.decide_shared.Goals as goal

pub returns-in-Err-clause-refused : goal.returns-in-Err-clause-refused
returns-in-Err-clause-refused g c = rw c.fault_of_share.ensures (unit_stops _ c.in-Err.fault c.in-Err.ensures.refused)

pub decide_rows-made-requires-clause-same_unit : goal.decide_rows-made-requires-clause-same_unit
decide_rows-made-requires-clause-same_unit g c κs lived =
    rw c.in-Ok.ensures.started.seated
    (All-replicate (λ checker. checker.unit ≡ c.in-Ok.started.0.unit) _ _ refl)
