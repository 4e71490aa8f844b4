-- One step of reading words after another.
use Rattle.std.proofs.Common.{◌≡◌, ap, Result, Ok, Err}
use Rattle.pmp_tool.specs.declared.fault_line.FaultLine.{FaultLine}
use Rattle.pmp_tool.specs.Words.{and_then}

-- a step that went well hands on what it read
pub went_on :
    {X Y : Type 0} {step : Result X FaultLine} {read : X} (next : X → Result Y FaultLine) →
    Ok read ≡ step → next read ≡ and_then step next
went_on next is = ap (λ step. and_then step next) is

-- a step that failed is the last
pub stopped :
    {X Y : Type 0} {step : Result X FaultLine} {fault : FaultLine} (next : X → Result Y FaultLine) →
    Err fault ≡ step → Err fault ≡ and_then step next
stopped next is = ap (λ step. and_then step next) is
