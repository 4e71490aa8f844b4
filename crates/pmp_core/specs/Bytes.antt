-- Eight bytes in a word.
use Rattle.std.specs.Prelude.{◌≡◌, ℕ, ◌+◌, ◌-◌, ◌<◌, ◌≤◌, List, length, bit_and, slice_index}
use Rattle.std.specs.Int.{w64, to_le_bytes}
use Rattle.pmp_core.specs.declared.configuration_word.TheConstants.{ONES}

-- byte j of a word, where byte 0 is the lowest
abbrev pub byte : (word j : ℕ) → ℕ
byte word j = slice_index (to_le_bytes w64 word) j

-- each byte of the word is 0 or 1
abbrev pub AreFlags : (word : ℕ) → Type 0
AreFlags word = bit_and word ONES ≡ word

-- in a list, these bytes from `first` on are the word's lowest, and all else stands
pub record ArePut (old new : List ℕ) (first word count : ℕ) : Type 0 where
  pub long : length new ≡ length old
  pub put : (k : ℕ) → first ≤ k → k < first + count → slice_index new k ≡ byte word (k - first)
  pub kept : (k : ℕ) → (first ≤ k → first + count ≤ k) → slice_index new k ≡ slice_index old k
