-- A fault of an input, of which nothing was written.
use Rattle.std.proofs.Common.{◌≡◌, ◌⊎◌, List, ℕ, Option, inl, inr}
use Rattle.std.proofs.KnownBytes.{Keeps-refl}
use Rattle.pmp_text.specs.declared.fault.Fault.{Fault}
use Rattle.pmp_text.specs.Outcomes.{no_memory}
use Rattle.pmp_audit.specs.Answers.{IsRefused}

-- an input means this fault, for which the call refuses, or memory ran out
pub input_refused : {A : Type 0} (Says : A → List ℕ → Type 0) (before : Option (List ℕ)) (Refuses : Fault → Type 0)
    {Means : Type 0} (fault : Fault) → (Means → Refuses fault) → Means ⊎ (fault ≡ no_memory)
    → IsRefused Says before before Refuses fault
input_refused Says before Refuses fault refuses (inl means) = inr (inr (refuses means), Keeps-refl before)
input_refused Says before Refuses fault refuses (inr memory) = inr (inl memory, Keeps-refl before)
