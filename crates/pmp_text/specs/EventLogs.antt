-- What a log of events stores.
use Rattle.std.specs.Prelude.{ℕ, List, [], ◌∷◌, ◌++◌, length}
use Rattle.pmp_core.specs.declared.event.Event.{Event}
use Rattle.pmp_text.specs.declared.expectation.Expectation.{Expectation}
use Rattle.pmp_text.specs.declared.mark.Mark.{Mark}

-- events, the line of each, how many events each publication and those before it have, what is expected, and the named
-- moments
pub record Kept : Type 0 where
  pub events : List Event
  pub lines : List ℕ
  pub ends : List ℕ
  pub expectations : List Expectation
  pub marks : List Mark

abbrev pub nothing_kept : Kept
nothing_kept = record { events = []; lines = []; ends = []; expectations = []; marks = [] }

-- one more event
abbrev pub with_event : Kept → (line : ℕ) → Event → Kept
with_event kept line event = record kept { events = kept.events ++ event ∷ []; lines = kept.lines ++ line ∷ [] }

-- a publication ends after the last event
abbrev pub with_end : Kept → Kept
with_end kept = record kept { ends = kept.ends ++ length kept.events ∷ [] }

-- one more expectation
abbrev pub with_expectation : Kept → Expectation → Kept
with_expectation kept expectation = record kept { expectations = kept.expectations ++ expectation ∷ [] }

-- one more named moment
abbrev pub with_mark : Kept → Mark → Kept
with_mark kept mark = record kept { marks = kept.marks ++ mark ∷ [] }
