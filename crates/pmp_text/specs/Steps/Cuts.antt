-- A list that is cut into pieces, one after the other.
use Rattle.std.specs.Prelude.{◌≡◌, ℕ, ◌+◌, ◌≤◌, List, [], ◌∷◌, Option, None, ⊤}
use Rattle.std.specs.List.{slice_range}
use Rattle.pmp_core.specs.declared.event.TheConstants.{BATCH_EVENTS}

-- the pieces that end at these places; the first begins after `before` elements
abbrev pub cut_from : {X : Type 0} → (before : ℕ) → (ends : List ℕ) → List X → List (List X)
cut_from before [] items = []
cut_from before (end ∷ ends) items = slice_range items before end ∷ cut_from end ends items

-- where the last piece ends
abbrev pub last_end : (before : ℕ) → (ends : List ℕ) → ℕ
last_end before [] = before
last_end before (end ∷ ends) = last_end end ends

-- no piece ends before it begins, or is longer than a batch
abbrev pub AreEnds : (before : ℕ) → (ends : List ℕ) → Type 0
AreEnds before [] = ⊤
AreEnds before (end ∷ ends) = (before ≤ end) × (end ≤ before + BATCH_EVENTS) × AreEnds end ends

-- the pieces are all of these events, each with its line
pub record AreCut (ends : List ℕ) (events lines : ℕ) : Type 0 where
  pub ascending : AreEnds 0 ends
  pub whole : events ≡ last_end 0 ends
  pub lined : lines ≡ events

-- the pieces are the first of these events, each with its line, and the others fit in a batch; there are none if no
-- line is given since the last piece
pub record AreOpen (ends : List ℕ) (published events lines : ℕ) (since : Option ℕ) : Type 0 where
  pub ascending : AreEnds 0 ends
  pub last : published ≡ last_end 0 ends
  pub inside : published ≤ events
  pub few : events ≤ published + BATCH_EVENTS
  pub lined : lines ≡ events
  pub closed : since ≡ None → published ≡ events
