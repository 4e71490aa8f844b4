-- How large a script is.
use Rattle.std.specs.Prelude.{◌≡◌, ℕ, ◌≤◌, List, length, map, sum_by, Ok}
use Rattle.pmp_core.specs.declared.event.Event.{Event}
use Rattle.pmp_text.specs.Scripts.{script_meaning}
use Rattle.pmp_text.specs.Contents.{ScriptContents}
use Rattle.pmp_text.specs.declared.script.reader.TheConstants.{MAX_EVENTS}

-- the number of events
abbrev pub events_in : List (List Event) → ℕ
events_in batches = sum_by (λ batch. length batch) batches

-- a script has no more events, and no more publications, than the limit
pub record IsInLimits (batches : List (List Event)) : Type 0 where
  pub events : events_in batches ≤ MAX_EVENTS
  pub publications : length batches ≤ MAX_EVENTS

abbrev pub ScriptSizeLaw : Type 0
ScriptSizeLaw = (text : List ℕ) → (script : ScriptContents) → script_meaning text ≡ Ok script
    → IsInLimits script.batches

-- each publication of a script has as many lines as events
abbrev pub EventLinesLaw : Type 0
EventLinesLaw = (text : List ℕ) → (script : ScriptContents) → script_meaning text ≡ Ok script
    → map (λ batch. length batch) script.batches ≡ map (λ lines. length lines) script.lines
