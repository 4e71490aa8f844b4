-- The significant lines of a text, its first line taken off.
use Rattle.std.proofs.Common.{◌≡◌, ℕ, ◌+◌, true, false, cond, List, [], ◌∷◌, None, ap}
use Rattle.std.specs.Prelude.{filter}
use Rattle.pmp_text.specs.Lines.{words, lines}
use Rattle.pmp_text.specs.ScriptLines.{numbered_from, counts, significant_from}

module _ (number : ℕ) (text : List ℕ) where
  pub none_left : lines text ≡ [] → significant_from number text ≡ []
  unfolding significant_from
  none_left e = ap (λ (ls : List (List ℕ)). filter (λ line. counts line.words) (numbered_from number ls)) e

  module _ (line rest : List ℕ) (first : lines text ≡ line ∷ lines rest) where
    one_left : significant_from number text ≡ cond (counts (words line))
        (record { number = number; words = words line; stands_for = None } ∷ significant_from (number + 1) rest)
        (significant_from (number + 1) rest)
    unfolding significant_from
    one_left = ap (λ (ls : List (List ℕ)). filter (λ line. counts line.words) (numbered_from number ls)) first

    pub counting_left : counts (words line) ≡ true
        → significant_from number text ≡ record {
          number = number;
          words = words line;
          stands_for = None;
        } ∷ significant_from (number + 1) rest
    counting_left e = rw e at one_left

    pub skipping_left : counts (words line) ≡ false → significant_from number text ≡ significant_from (number + 1) rest
    skipping_left e = rw e at one_left
