-- Painting entries from the last to the first.
use Rattle.std.proofs.Common.{◌≡◌, ℕ, ◌+◌, ◌<◌, ◌≤◌, false, List, [], ◌∷◌, length, Option, Some, None, arith, rules}
use Rattle.pmp_core.specs.declared.access.TheConstants.{ADDRESS_LIMIT}
use Rattle.pmp_core.specs.declared.range.ByteRange.{ByteRange}
use Rattle.pmp_core.specs.Ranges.{IsInRange, range_of}
use Rattle.pmp_core.specs.Decision.{IsOwner}
use Rattle.pmp_core.specs.RegisterFile.{HasAddresses, RegisterFile}
use Rattle.pmp_core.proofs.Matches.{range_past}
use Rattle.pmp_map.proofs.CutFacts.{least_alike, owner_by_entries}
use Rattle.pmp_map.specs.declared.cuts.Cut.{Cut}
use Rattle.pmp_map.specs.Painting.{AreCuts, AreDown, AreUp, ArePainted, IsApart, IsOwnerFrom, is_from}
use Rattle.pmp_map.specs.Painting.{owner_of, start_of}

module _ (Owns : ℕ → Option ℕ → Type 0) where
  -- ---- the gap moves

  pub moved_up : (cut : Cut) (below above : List Cut) → AreCuts Owns below (cut ∷ above)
      → AreCuts Owns (cut ∷ below) above
  moved_up cut below above are = search rules

  -- ---- cuts go up to the end of all bytes

  pub start_most : (cuts : List Cut) → AreUp Owns cuts → start_of cuts ≤ ADDRESS_LIMIT
  start_most [] are = omega arith
  start_most (cut ∷ cuts) are = omega (arith, are.0.some, start_most cuts are.2)

  pub cut_down : (end less : ℕ) (cuts : List Cut) → AreDown Owns end cuts → less ≤ end → is_from less cuts ≡ false
      → AreDown Owns less cuts
  cut_down end less cuts are below none = search rules

  -- a cut more, inside the bytes of the first one below
  pub split : (end : ℕ) (below above : List Cut) → AreCuts Owns below above → 0 < end → end < start_of above
      → is_from end below ≡ false → (let cut : Cut = record { start = end; owner = owner_of below } in
      AreUp Owns (cut ∷ above))
  split end below above are some less none = search rules

module _ (Owns Has : ℕ → Option ℕ → Type 0) where
  pub up_alike : (first : ℕ) (cuts : List Cut)
      → ((byte : ℕ) (owner : Option ℕ) → first ≤ byte → byte < ADDRESS_LIMIT → Owns byte owner → Has byte owner)
      → first ≤ start_of cuts → AreUp Owns cuts → AreUp Has cuts
  up_alike first [] alike from are = tt
  up_alike first (cut ∷ cuts) alike from are =
      search (rules, start_most Owns cuts are.2, up_alike first cuts alike)

  pub down_alike : (end : ℕ) (cuts : List Cut)
      → ((byte : ℕ) (owner : Option ℕ) → byte < end → Owns byte owner → Has byte owner)
      → AreDown Owns end cuts → AreDown Has end cuts
  down_alike end [] alike are = are
  down_alike end (cut ∷ cuts) alike are = search (rules, down_alike cut.start cuts)

-- ---- one entry more

module _ (file : RegisterFile) (i : ℕ) where
  -- an entry whose range doesn't have the byte changes nothing there
  pub owned_alike : (byte : ℕ) (owner : Option ℕ) → ¬ (IsInRange (range_of file i) byte)
      → IsOwnerFrom file (i + 1) byte owner → IsOwnerFrom file i byte owner
  owned_alike byte owner without owned = search rules

  owned_here : (byte : ℕ) → IsInRange (range_of file i) byte → IsOwnerFrom file i byte (Some i)
  owned_here byte has = ((omega arith, has), λ j below from. absurd (omega (arith, from.0)))

  -- the owners before are others
  other_down : (end : ℕ) (cuts : List Cut) → AreDown (IsOwnerFrom file (i + 1)) end cuts → IsApart (Some i) cuts
  other_down end cuts are = search rules

  other_up : (cuts : List Cut) → AreUp (IsOwnerFrom file (i + 1)) cuts → IsApart (Some i) cuts
  other_up cuts are = search rules

  module _ (range : ByteRange) (is : range ≡ range_of file i) (end : ℕ) (to : end ≤ range.end) (some : range.start < end)
      (all : end < range.end → ADDRESS_LIMIT ≤ end) where
    pub painted : (below above : List Cut) → AreDown (IsOwnerFrom file (i + 1)) range.start below
        → AreUp (IsOwnerFrom file (i + 1)) above → start_of above ≡ end
        → (let cut : Cut = record { start = range.start; owner = Some i } in ArePainted file i (cut ∷ below) above)
    painted below above down up meets = search (rules, other_down, other_up, down_alike, up_alike, owned_alike, owned_here)

  -- an entry without a byte changes nothing
  pub unpainted : (below above : List Cut)
      → ((byte : ℕ) → byte < ADDRESS_LIMIT → ¬ (IsInRange (range_of file i) byte))
      → ArePainted file (i + 1) below above → ArePainted file i below above
  unpainted below above without are = record {
    down = down_alike (IsOwnerFrom file (i + 1)) (IsOwnerFrom file i) (start_of above) below
        (λ byte owner low. owned_alike byte owner
        (without byte (omega (arith, start_most (IsOwnerFrom file (i + 1)) above are.up)))) are.down;
    up = up_alike (IsOwnerFrom file (i + 1)) (IsOwnerFrom file i) 0 above
        (λ byte owner from inside. owned_alike byte owner (without byte inside)) (omega arith) are.up;
    apart = are.apart;
  }

-- before any entry no byte has an owner
pub blank_owned : (file : RegisterFile) (i byte : ℕ) → length file.entries ≤ i → IsOwnerFrom file i byte None
blank_owned file i byte past j has = search (rules, range_past)

pub blank_cuts : (file : RegisterFile) (i : ℕ) → length file.entries ≤ i
    → (let cut : Cut = record { start = 0; owner = None } in ArePainted file i (cut ∷ []) [])
blank_cuts file i past = search (rules, blank_owned)

-- after all entries each byte has its owner
pub owners_of : (file : RegisterFile) → HasAddresses file → (byte : ℕ) (owner : Option ℕ) → IsOwnerFrom file 0 byte owner
    → IsOwner file byte owner
owners_of file small byte owner owned = search (rules, least_alike, owner_by_entries)
