-- A unit's history as a book keeps it: its entries are the batches.
use Rattle.std.specs.Prelude.{◌≡◌, ℕ, ◌==◌, true, List, [], ◌∷◌, ◌++◌, length, MatchBool}
use Rattle.logbook.specs.Pages.{Cell, Step, View, Book, Named}
use Rattle.pmp_core.specs.declared.event.Event.{Event}
use Rattle.pmp_share.specs.Batches.{Batches}

-- the book, and the batches in it
pub record Noted : Type 0 where
  pub book : Book
  pub list : Batches

-- the first word is the number of batches. A book has two words; this one leaves the second at 0
abbrev pub IsCounted : List Cell → Batches → Type 0
IsCounted cells log = cells ≡ (length log, true) ∷ (0, true) ∷ []

-- the first word
abbrev pub head_of : Book → Named
head_of book = record { tracked = true; key = 0; book = book }

-- if the number is as expected, the batch was appended to all that had been seen
abbrev pub Added : Step (List Event) → View (List Event) ℕ → ℕ → View (List Event) ℕ → Type 0
Added step before found after =
    MatchBool (found == step.old) (after.0 ≡ before.0 ++ step.ask ∷ []) (Unit {0})
