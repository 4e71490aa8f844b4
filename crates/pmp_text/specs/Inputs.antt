-- Reading all that a reader has left, which may be too long.
use Rattle.std.specs.Prelude.{◌≡◌, ◌⊎◌, ℕ, ◌+◌, ◌<◌, ◌≤◌, List, [], length, Option, Some, Result, Vec, IfOk, IfErr, IfSome}
use Rattle.std.specs.declared.alloc.Global.{Global}
use Rattle.std.specs.Io.KnownBytes.{Keeps}
use Rattle.pmp_text.specs.Bytes.{Takes, TakesAtMost}
use Rattle.pmp_text.specs.Flaws.{as_whole, at_row}
use Rattle.pmp_text.specs.Outcomes.{no_memory}
use Rattle.pmp_text.specs.declared.input.InputFault.{InputFault}
use Rattle.pmp_text.specs.declared.input.InputFault.TheVariants.{TooLong, Input, Memory}
use Rattle.pmp_text.specs.declared.fault.Fault.{Fault}
use Rattle.pmp_text.specs.declared.fault.Source.{Source}
use Rattle.pmp_text.specs.declared.refusal.Refusal.{Refusal}
use Rattle.pmp_text.specs.declared.refusal.Refusal.TheVariants as refusal

-- the refusal with the same name
abbrev pub refusal_of_input : InputFault → Refusal
refusal_of_input TooLong = refusal.TooLong
refusal_of_input Input = refusal.Input
refusal_of_input Memory = refusal.Memory

-- the fault of this input
abbrev pub input_fault : Source → InputFault → Fault
input_fault source Memory = no_memory
input_fault source fault = at_row source 0 (as_whole (refusal_of_input fault))

-- one read gave more bytes than there is room for, or failed
abbrev pub CantReadPart : (room : ℕ) (old new : Option (List ℕ)) → InputFault → Type 0
CantReadPart room old new fault =
    ((fault ≡ TooLong) × Takes old new (room + 1)) ⊎ ((fault ≡ Input) × Keeps old new)

-- there are more bytes than the limit, and one more was taken; or the input failed, or memory ran out
abbrev pub CantReadWhole : (limit : ℕ) (old new : Option (List ℕ)) → InputFault → Type 0
CantReadWhole limit old new fault =
    ((fault ≡ TooLong) × IfSome old (λ left. limit < length left) × Takes old new (limit + 1))
    ⊎ (((fault ≡ Input) ⊎ (fault ≡ Memory)) × TakesAtMost old new limit)

-- the reader had the `old` bytes left and has the `new` ones now: it gave all, or had more than the limit, or it
-- failed
pub record IsReadWhole (limit : ℕ) (old new : Option (List ℕ))
    (result : Result (Vec ℕ Global) InputFault) : Type 0 where
  pub within : IfOk result (λ bytes. length bytes.items ≤ limit)
  pub whole : IfOk result (λ bytes. IfSome old (λ left. (left ≡ bytes.items) × (new ≡ Some [])))
  pub failed : IfErr result (CantReadWhole limit old new)
