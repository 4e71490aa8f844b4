-- Output about the register file after the publications asked for, and when it is refused.
use Rattle.std.specs.Prelude.{◌≡◌, ◌⊎◌, ℕ, ◌<◌, ◌≤◌, List, length, Option, Some, None, Ok, Err}
use Rattle.pmp_text.specs.declared.moments.When.{When}
use Rattle.pmp_text.specs.declared.moments.When.TheVariants.{Number, Labelled}
use Rattle.pmp_text.specs.declared.refusal.Refusal.{Refusal}
use Rattle.pmp_text.specs.declared.refusal.Refusal.TheVariants.{BadAfter, NoMoment}
use Rattle.pmp_text.specs.Flaws.{as_whole, at_line}
use Rattle.pmp_text.specs.Contents.{ScriptContents}
use Rattle.pmp_text.specs.Moments.{KnownMoments, when_place}
use Rattle.pmp_text.specs.Scripts.{script_meaning}
use Rattle.pmp_text.specs.declared.fault.Fault.{Fault}
use Rattle.pmp_audit.specs.Moments.{AreMoments}

-- `done` publications are asked for: by default, all
abbrev pub IsAsked : Option When → ScriptContents → (done : ℕ) → Type 0
IsAsked None script done = done ≡ length script.batches
IsAsked (Some (Number number)) script done = done ≡ number
IsAsked (Some (Labelled label)) script done =
    (moments : KnownMoments) × AreMoments script moments × (when_place moments (Labelled label) ≡ Ok done)

-- the script has no such moment
abbrev pub HasNone : Option When → ScriptContents → Type 0
HasNone (Some (Labelled label)) script =
    (moments : KnownMoments) × AreMoments script moments
    × ((kind : Refusal) × (when_place moments (Labelled label) ≡ Err kind))
HasNone _ script = ⊥

-- the script has these contents, with the publications asked for, and this is what is said of those
pub record SaysOfScript {X : Type 0} (IsOf : ScriptContents → (done : ℕ) → X → Type 0) (script : List ℕ)
    (after : Option When) (said : X) : Type 0 where
  pub contents : ScriptContents
  pub script_means : script_meaning script ≡ Ok contents
  pub done : ℕ
  pub asked : IsAsked after contents done
  pub within : done ≤ length contents.batches
  pub said_is : IsOf contents done said

-- why the script lacks what is asked for: too few publications, or no such moment
abbrev pub IsLacking : Option When → ScriptContents → Fault → Type 0
IsLacking after script fault =
    ((fault ≡ at_line 0 (as_whole BadAfter)) × ((done : ℕ) × IsAsked after script done × (length script.batches < done)))
    ⊎ ((fault ≡ at_line 0 (as_whole NoMoment)) × HasNone after script)

-- the script has these contents, and lacks what is asked for
pub record AsksTooMuch (script : List ℕ) (after : Option When) (fault : Fault) : Type 0 where
  pub contents : ScriptContents
  pub script_means : script_meaning script ≡ Ok contents
  pub lacking : IsLacking after contents fault

-- the script's own fault
abbrev pub ScriptRefuses : (script : List ℕ) → Fault → Type 0
ScriptRefuses script fault = script_meaning script ≡ Err fault

-- or it lacks what is asked for
abbrev pub FileRefuses : (script : List ℕ) → (after : Option When) → Fault → Type 0
FileRefuses script after fault = ScriptRefuses script fault ⊎ AsksTooMuch script after fault
