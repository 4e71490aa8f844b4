-- The owners of all bytes as cuts, while entries are painted from the last to the first.
use Rattle.std.specs.Prelude.{◌≡◌, ◌≢◌, ℕ, ◌<◌, ◌≤◌, nat_le, nat_lt, Bool, false, Option, None, List, [], ◌∷◌}
use Rattle.pmp_core.specs.declared.access.TheConstants.{ADDRESS_LIMIT}
use Rattle.pmp_core.specs.Decision.{IsLeast}
use Rattle.pmp_core.specs.Ranges.{IsInRange, range_of}
use Rattle.pmp_core.specs.RegisterFile.{RegisterFile}
use Rattle.pmp_map.specs.declared.cuts.Cut.{Cut}

-- ---- the first of some cuts

-- its start; if there is none, the end of all bytes
abbrev pub start_of : List Cut → ℕ
start_of [] = ADDRESS_LIMIT
start_of (cut ∷ cuts) = cut.start

abbrev pub owner_of : List Cut → Option ℕ
owner_of [] = None
owner_of (cut ∷ cuts) = cut.owner

-- whether there is one that begins below the byte
abbrev pub is_below : (byte : ℕ) → List Cut → Bool
is_below byte [] = false
is_below byte (cut ∷ cuts) = nat_lt cut.start byte

-- whether there is one that begins at or above the byte
abbrev pub is_from : (byte : ℕ) → List Cut → Bool
is_from byte [] = false
is_from byte (cut ∷ cuts) = nat_le byte cut.start

-- ---- the cuts of all bytes

-- the bytes from the cut up to `end`, at least one, have its owner
pub record IsStretch (Owns : ℕ → Option ℕ → Type 0) (cut : Cut) (end : ℕ) : Type 0 where
  pub some : cut.start < end
  pub owned : (byte : ℕ) → cut.start ≤ byte → byte < end → Owns byte cut.owner

-- the first cut, if any, has another owner
abbrev pub IsApart : Option ℕ → List Cut → Type 0
IsApart owner [] = Unit {0}
IsApart owner (cut ∷ cuts) = owner ≢ cut.owner

-- the cuts in rising order, of all bytes from the first cut on
abbrev pub AreUp : (Owns : ℕ → Option ℕ → Type 0) → List Cut → Type 0
AreUp Owns [] = Unit {0}
AreUp Owns (cut ∷ cuts) = IsStretch Owns cut (start_of cuts) × IsApart cut.owner cuts × AreUp Owns cuts

-- the cuts in falling order, of the bytes below `end`
abbrev pub AreDown : (Owns : ℕ → Option ℕ → Type 0) → (end : ℕ) → List Cut → Type 0
AreDown Owns end [] = end ≡ 0
AreDown Owns end (cut ∷ cuts) = IsStretch Owns cut end × IsApart cut.owner cuts × AreDown Owns cut.start cuts

-- the first cuts on both sides of a gap have different owners
abbrev pub AreApart : (below above : List Cut) → Type 0
AreApart [] above = Unit {0}
AreApart (cut ∷ below) above = IsApart cut.owner above

-- the cuts of all bytes, on both sides of a gap
pub record AreCuts (Owns : ℕ → Option ℕ → Type 0) (below above : List Cut) : Type 0 where
  pub down : AreDown Owns (start_of above) below
  pub up : AreUp Owns above
  pub apart : AreApart below above

-- the lowest-numbered entry from i on whose range has the byte
abbrev pub IsOwnerFrom : RegisterFile → (i byte : ℕ) → Option ℕ → Type 0
IsOwnerFrom file i byte = IsLeast (λ j. (i ≤ j) × IsInRange (range_of file j) byte)

-- the cuts if only the entries from i on are owners
abbrev pub ArePainted : RegisterFile → (i : ℕ) → (below above : List Cut) → Type 0
ArePainted file i = AreCuts (IsOwnerFrom file i)
