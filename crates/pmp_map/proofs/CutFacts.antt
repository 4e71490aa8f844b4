-- How far the owner of a byte goes.
use Rattle.std.proofs.lemmas.Grind.{common_steps}
use Rattle.std.proofs.Common.{◌≡◌, ℕ, ◌+◌, ◌-◌, ◌<◌, ◌≤◌, ◌↔◌, length, Option, Some, None, max, min, arith, inl, inr}
use Rattle.std.proofs.Common.{rules}
use Rattle.std.proofs.lemmas.Bool.{cases_lt}
use Rattle.pmp_core.specs.declared.access.TheConstants.{ADDRESS_LIMIT}
use Rattle.pmp_core.specs.Decision.{IsLeast, IsOwner}
use Rattle.pmp_core.specs.declared.range.ByteRange.{ByteRange}
use Rattle.pmp_core.specs.declared.configuration.AddressMatching.TheVariants.{Off}
use Rattle.pmp_core.specs.Ranges.{IsInRange, range_of, range_on}
use Rattle.pmp_core.specs.RegisterFile.{HasAddresses, RegisterFile, entry_at}
use Rattle.pmp_core.proofs.Matches.{matches_range, range_past}
use Rattle.pmp_map.specs.declared.run.Run.{Run}
use Rattle.pmp_map.specs.Owners.{IsOwnerIn}
use Rattle.pmp_map.specs.Runs.{IsRunAround}

-- the least of the same numbers
pub least_alike : (P Q : ℕ → Type 0) (least : Option ℕ) → ((i : ℕ) → P i ↔ Q i) → IsLeast P least → IsLeast Q least
least_alike P Q least same is = search rules

pub owner_by_entries : (file : RegisterFile) → HasAddresses file → (byte : ℕ) (owner : Option ℕ)
    → IsOwnerIn file byte owner → IsOwner file byte owner
owner_by_entries file small byte owner = search (rules, matches_range)

pub owner_by_ranges : (file : RegisterFile) → HasAddresses file → (byte : ℕ) (owner : Option ℕ)
    → IsOwner file byte owner → IsOwnerIn file byte owner
owner_by_ranges file small byte owner = search (rules, least_alike, matches_range)

-- the bytes from `first` up to `end` have this owner
abbrev pub OwnsBytes : RegisterFile → (first end : ℕ) → Option ℕ → Type 0
OwnsBytes file first end owner = (byte : ℕ) → first ≤ byte → byte < end → IsOwnerIn file byte owner

module _ (file : RegisterFile) (first : ℕ) where
  abbrev Has : ℕ → ℕ → Type 0
  Has i byte = IsInRange (range_of file i) byte

  moved : (i byte other : ℕ) → byte ≡ other → Has i other → Has i byte
  moved i byte other same has = rw same has

  -- none of the ranges before `index` has a byte from `first` up to `end`, and one of them has `end`
  pub record Swept (index end : ℕ) : Type 0 where
    pub above : first < end
    pub bounded : end ≤ ADDRESS_LIMIT
    pub clear : (i byte : ℕ) → i < index → first ≤ byte → byte < end → ¬ (Has i byte)
    pub apart : end < ADDRESS_LIMIT → (i : ℕ) × (i < index) × Has i end

  -- one range more, which doesn't have `first`
  pub one_more_swept : (index end next : ℕ) → Swept index end → ¬ (Has index first) → first < next → next ≤ end
      → ((byte : ℕ) → first ≤ byte → byte < next → Has index byte → Has index first)
      → (next < end → Has index next) → Swept (index + 1) next
  one_more_swept index end next so_far without above bounded clear reached = record {
    above = above;
    bounded = omega (arith, so_far.bounded);
    clear = λ i byte below from to. elim (cases_lt i index) [
      | inl before ↦ so_far.clear i byte before from (omega arith)
      | inr after ↦ let here : i ≡ index = omega arith in rw here (λ has. without (clear byte from to has))
    ];
    apart = λ less. elim (cases_lt next end) [
      | inl lower ↦ (index, omega arith, reached lower)
      | inr same ↦
          let kept : next ≡ end = omega arith in
          let found = so_far.apart (omega arith) in
          (found.0, omega (arith, found.1), moved found.0 next end kept found.2)
    ];
  }

module _ (file : RegisterFile) (byte : ℕ) where
  -- none of the ranges before `index` has a byte from `first` up to `byte`, and one of them has the one before `first`
  pub record SweptDown (index first : ℕ) : Type 0 where
    pub below : first ≤ byte
    pub clear : (i other : ℕ) → i < index → first ≤ other → other ≤ byte → ¬ (Has file byte i other)
    pub apart : 0 < first → (i : ℕ) × (i < index) × Has file byte i (first - 1)

  pub one_more_swept_down : (index first next : ℕ) → SweptDown index first → ¬ (Has file byte index byte)
      → first ≤ next → next ≤ byte
      → ((other : ℕ) → next ≤ other → other ≤ byte → Has file byte index other → Has file byte index byte)
      → (first < next → Has file byte index (next - 1)) → SweptDown (index + 1) next
  one_more_swept_down index first next so_far without bounded below clear reached = record {
    below = below;
    clear = λ i other lower from to. elim (cases_lt i index) [
      | inl before ↦ so_far.clear i other before (omega arith) to
      | inr after ↦ let here : i ≡ index = omega arith in rw here (λ has. without (clear other from to has))
    ];
    apart = λ some. elim (cases_lt first next) [
      | inl higher ↦ (index, omega arith, reached higher)
      | inr same ↦
          let kept : next - 1 ≡ first - 1 = omega arith in
          let found = so_far.apart (omega arith) in
          (found.0, omega (arith, found.1), moved file byte found.0 (next - 1) (first - 1) kept found.2)
    ];
  }

  pub taken : (index at : ℕ) → ((i : ℕ) × (i < index) × Has file byte i at) → ¬ (IsOwnerIn file at None)
  taken index at one none = none one.0 one.2

  module _ (index first end : ℕ) (down : SweptDown index first) (up : Swept file byte index end) where
    pub owned_around : Has file byte index byte → (low high : ℕ) → low ≡ max first (range_of file index).start
        → high ≡ min end (range_of file index).end → OwnsBytes file low high (Some index)
    owned_around has low high is_low is_high other from to = (
      (omega (arith, is_low), omega (arith, is_high)),
      λ j below. elim (cases_lt other byte) [
        | inl before ↦ down.clear j other below (omega (arith, is_low)) (omega arith)
        | inr after ↦ up.clear j other below after (omega (arith, is_high))
      ],
    )

    pub unowned_around : length file.entries ≤ index → OwnsBytes file first end None
    unowned_around all other from to = λ i. elim (cases_lt i (length file.entries)) [
      | inl inside ↦ elim (cases_lt other byte) [
        | inl before ↦ down.clear i other (omega arith) from (omega arith)
        | inr after ↦ up.clear i other (omega arith) after to
      ]
      | inr past ↦ rw (range_past file i past) (λ has. omega (arith, has.1))
    ]

    -- the byte before isn't the owner's: the owner's range begins here, or a range before it ends
    pub not_before : Has file byte index byte → (low : ℕ) → low ≡ max first (range_of file index).start → 0 < low
        → ¬ (IsOwnerIn file (low - 1) (Some index))
    not_before has low is_low some owned = search rules

    pub not_after : Has file byte index byte → (high : ℕ) → high ≡ min end (range_of file index).end
        → high < ADDRESS_LIMIT → ¬ (IsOwnerIn file high (Some index))
    not_after has high is_high less owned = search rules

-- the range of entry `index`
module _ (file : RegisterFile) (byte index : ℕ) (range : ByteRange) (is : range ≡ range_of file index)
    (first end : ℕ) (down : SweptDown file byte index first) (up : Swept file byte index end) where
  module _ (low high : ℕ) (without : ¬ (IsInRange range byte)) where
    pub swept_below : first ≤ low → low ≤ byte
        → ((other : ℕ) → low ≤ other → other ≤ byte → IsInRange range other → IsInRange range byte)
        → (first < low → IsInRange range (low - 1)) → SweptDown file byte (index + 1) low
    swept_below bounded below clear reached = one_more_swept_down file byte index first low down
        (rw is at without) bounded below (rw is at clear) (rw is at reached)

    pub swept_above : byte < high → high ≤ end
        → ((other : ℕ) → byte ≤ other → other < high → IsInRange range other → IsInRange range byte)
        → (high < end → IsInRange range high) → Swept file byte (index + 1) high
    swept_above above bounded clear reached = one_more_swept file byte index end high up
        (rw is at without) above bounded (rw is at clear) (rw is at reached)

  -- the bytes round the byte without the range, which lies below it, above it, or has no byte
  pub record Narrowed (low high : ℕ) : Type 0 where
    pub below : SweptDown file byte (index + 1) low
    pub above : Swept file byte (index + 1) high

  module _ (without : ¬ (IsInRange range byte)) where
    pub past : (low : ℕ) → range.start < range.end → range.end ≤ byte → low ≡ max first range.end → Narrowed low end
    past low some under is =
        let bounded : first ≤ low = grind (arith, common_steps) in
        let beyond : range.end ≤ low = grind (arith, common_steps) in
        let least : low ≤ byte = grind (arith, common_steps, down.below) in
        record {
          below = swept_below low end without bounded least (λ other from to has. absurd (omega (arith, has.1)))
              (λ less. let here : low ≡ range.end = grind (arith, common_steps) in (omega arith, omega arith));
          above = swept_above low end without up.above (omega arith)
              (λ other from to has. absurd (omega (arith, has.1))) (λ less. absurd (omega arith));
        }

    pub before : (high : ℕ) → range.start < range.end → byte < range.end → high ≡ min end range.start
        → Narrowed first high
    before high some over is =
        let starts : byte < range.start = search (rules, without) in
        let bounded : high ≤ end = grind (arith, common_steps) in
        let least : high ≤ range.start = grind (arith, common_steps) in
        let above : byte < high = grind (arith, common_steps, up.above) in
        record {
          below = swept_below first high without (omega arith) down.below
              (λ other from to has. absurd (omega (arith, has.0))) (λ less. absurd (omega arith));
          above = swept_above first high without above bounded
              (λ other from to has. absurd (omega (arith, has.0)))
              (λ less. let here : high ≡ range.start = grind (arith, common_steps) in (omega arith, omega arith));
        }

    pub none : range.end ≤ range.start → Narrowed first end
    none empty = record {
      below = swept_below first end without (omega arith) down.below
          (λ other from to has. absurd (omega (arith, has.0, has.1))) (λ less. absurd (omega arith));
      above = swept_above first end without up.above (omega arith)
          (λ other from to has. absurd (omega (arith, has.0, has.1))) (λ less. absurd (omega arith));
    }

  pub found_around : HasAddresses file → (run : Run) → run.owner ≡ Some index → IsInRange range byte
      → run.first ≡ max first range.start → run.last ≡ min end range.end - 1 → IsRunAround file byte run
  found_around small run owner has low high =
      let here = rw is at has in
      let last : run.last + 1 ≡ min end (range_of file index).end =
      omega (arith, has.1, up.above, rw is at high) in
      let owned = owned_around file byte index first end down up here run.first (run.last + 1) (rw is at low) last in
      let to_ranges : (at : ℕ) → IsOwner file at run.owner → IsOwnerIn file at (Some index) =
      λ at owns. owner_by_ranges file small at (Some index) (rw owner at owns) in
      record {
        here = (omega (arith, low, has.0, down.below), omega (arith, high, has.1, up.above));
        inside = omega (arith, high, has.1, up.above, up.bounded);
        owned = λ other inside. rw owner (owner_by_entries file small other (Some index) (owned other inside.0 (omega (arith, inside.1))));
        before = λ some owns. not_before file byte index first end down up here run.first (rw is at low) some
            (to_ranges (run.first - 1) owns);
        after = λ less owns. not_after file byte index first end down up here (run.last + 1) last less
            (to_ranges (run.last + 1) owns);
      }

  pub none_around : HasAddresses file → length file.entries ≤ index → (run : Run) → run.owner ≡ None
      → run.first ≡ first → run.last ≡ end - 1 → IsRunAround file byte run
  none_around small all run owner low high =
      let last : run.last + 1 ≡ end = omega (arith, high, up.above) in
      let owned = unowned_around file byte index first end down up all in
      let to_ranges : (at : ℕ) → IsOwner file at run.owner → IsOwnerIn file at None =
      λ at owns. owner_by_ranges file small at None (rw owner at owns) in
      record {
        here = (omega (arith, low, down.below), omega (arith, high, up.above));
        inside = omega (arith, high, up.above, up.bounded);
        owned = λ other inside. rw owner (owner_by_entries file small other None (owned other (omega (arith, low, inside.0)) (omega (arith, inside.1, last))));
        before = λ some owns. taken file byte index (run.first - 1) (rw (← low) at (down.apart (omega (arith, some, low)))) (to_ranges (run.first - 1) owns);
        after = λ less owns. taken file byte index (run.last + 1) (rw (← last) at (up.apart (omega (arith, less, last)))) (to_ranges (run.last + 1) owns);
      }

-- entries that are OFF have no byte
off_empty : (file : RegisterFile) (i other : ℕ) → (entry_at file.entries i).configuration.matching ≡ Off
    → ¬ (IsInRange (range_of file i) other)
unfolding range_on
off_empty file i other off has = let no : IsInRange (record { start = 0; end = 0 }) other = rw off at has in absurd (omega (arith, no.1))

pub off_around : (file : RegisterFile) (byte index first end : ℕ) → SweptDown file byte index first → Swept file byte index end
    → (n : ℕ) → ((k : ℕ) → index ≤ k → k < index + n → (entry_at file.entries k).configuration.matching ≡ Off)
    → SweptDown file byte (index + n) first × Swept file byte (index + n) end
off_around file byte index first end down up n off = (
  record {
    below = down.below;
    clear = λ i other below from to. elim (cases_lt i index) [
      | inl before ↦ down.clear i other before from to
      | inr after ↦ off_empty file i other (off i after below)
    ];
    apart = λ some. let found = down.apart some in (found.0, omega (arith, found.1), found.2);
  },
  record {
    above = up.above;
    bounded = up.bounded;
    clear = λ i other below from to. elim (cases_lt i index) [
      | inl before ↦ up.clear i other before from to
      | inr after ↦ off_empty file i other (off i after below)
    ];
    apart = λ less. let found = up.apart less in (found.0, omega (arith, found.1), found.2);
  },
)
