-- What a call returns that may run out of memory.
use Rattle.std.specs.Prelude.{◌≡◌, ◌⊎◌, Result, Ok, Err}
use Rattle.pmp_text.specs.declared.fault.Fault.{Fault}
use Rattle.pmp_text.specs.declared.refusal.Refusal.TheVariants.{Memory, Output}
use Rattle.pmp_text.specs.FaultPlaces.{somewhere}

-- memory ran out, which is no input's fault
abbrev pub no_memory : Fault
no_memory = somewhere Memory

-- nor is an output that failed
abbrev pub no_output : Fault
no_output = somewhere Output

-- the result, seen by view, is the meaning, or memory ran out
abbrev pub Gives : {X Y : Type 0} → (X → Y) → Result X Fault → Result Y Fault → Type 0
Gives view (Ok x) meant = meant ≡ Ok (view x)
Gives view (Err fault) meant = (meant ≡ Err fault) ⊎ (fault ≡ no_memory)
