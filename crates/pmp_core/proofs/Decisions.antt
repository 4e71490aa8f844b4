-- The decision by ranges is the manual's, and the manual's is one.
use Rattle.std.proofs.lemmas.Grind.{common_steps}
use borrow.Author.Tests.{tests}
use Rattle.std.proofs.Common.{◌≡◌, ℕ, suc, ◌+◌, ◌<◌, ◌≤◌, Bool, true, false, cond, List, [], ◌∷◌, length, Option}
use Rattle.std.proofs.Common.{Some, max, slice_index_or, refl, sym, ap, ◌∙◌, arith, add-zero, below_more, inl}
use Rattle.std.proofs.Common.{rules, inr}
use Rattle.std.proofs.lemmas.Bool.{cases_lt, ltb-true, false≢true}
use Rattle.std.proofs.lemmas.Bool.Decides.{nat_tests}
use Rattle.std.proofs.lemmas.List.{get_or_past}
use Rattle.std.proofs.lemmas.List.FromFn.{get_or-map-range_with_len}
use Rattle.pmp_core.specs.declared.access.Access.{Access}
use Rattle.pmp_core.specs.declared.decision.Cause.{Cause}
use Rattle.pmp_core.specs.declared.decision.Cause.TheVariants.{Rule, Split, NoMatch}
use Rattle.pmp_core.specs.declared.decision.Decision.{Decision}
use Rattle.pmp_core.specs.declared.range.ByteRange.{ByteRange}
use Rattle.pmp_core.specs.RegisterFile.{RegisterFile, HasAddresses}
use Rattle.pmp_core.specs.Matching.{Matches}
use Rattle.pmp_core.specs.Decision.{IsLeast, IsOwner, Touches, IsDecider, IsDecision, IsDecisionBy}
use Rattle.pmp_core.specs.Rights.{allows, rights}
use Rattle.pmp_core.specs.Ranges.{IsInRange, range_of, is_touched, is_covered, rights_by}
use Rattle.pmp_core.specs.Ranges.{cause_from, cause_of, decision_of}
use Rattle.pmp_core.proofs.Matches.{matches_range}
use Rattle.pmp_core.proofs.Places.{no_range, length-ranges_of}

-- ---- ranges against bytes

touched_byte : (start end : ℕ) (range : ByteRange) (byte : ℕ) → start ≤ byte → byte < end → IsInRange range byte
    → is_touched start end range ≡ true
touched_byte start end range byte from to inside = grind (arith, nat_tests, inside.0, inside.1)

touched_from : (start end : ℕ) (range : ByteRange) → is_touched start end range ≡ true
    → IsInRange range (max range.start start) × (max range.start start < end)
touched_from start end range h = let below = ltb-true _ _ h in ((omega arith, omega arith), omega arith)

covered_ends : (start end : ℕ) (range : ByteRange) → range.start ≤ start → end ≤ range.end
    → is_covered start end range ≡ true
covered_ends start end range from to = grind (arith, nat_tests)

ends_covered : (start end : ℕ) (range : ByteRange) → is_covered start end range ≡ true
    → (range.start ≤ start) × (end ≤ range.end)
ends_covered start end range h = (grind (arith, nat_tests), grind (arith, nat_tests))

-- entry i matches one of the bytes from `start` up to `end`, or all of them
abbrev pub TouchesBytes : RegisterFile → (start end i : ℕ) → Type 0
TouchesBytes file start end i = (byte : ℕ) × ((start ≤ byte) × (byte < end)) × Matches file i byte

abbrev pub CoversBytes : RegisterFile → (start end i : ℕ) → Type 0
CoversBytes file start end i = (byte : ℕ) → (start ≤ byte) × (byte < end) → Matches file i byte

module _ (file : RegisterFile) (start end : ℕ) (small : HasAddresses file) (i : ℕ) where
  touches_range : TouchesBytes file start end i → is_touched start end (range_of file i) ≡ true
  touches_range touched = search (rules, tests, touched_byte, matches_range)

  range_touches : is_touched start end (range_of file i) ≡ true → TouchesBytes file start end i
  range_touches h =
      let t = touched_from start end (range_of file i) h in
      (max (range_of file i).start start, (omega arith, t.1), (matches_range file i _ small).1 t.0)

  covers_range : start < end → CoversBytes file start end i → is_covered start end (range_of file i) ≡ true
  covers_range full h = search (rules, tests, matches_range, covered_ends)

  range_covers : is_covered start end (range_of file i) ≡ true → CoversBytes file start end i
  range_covers h byte inside = search (rules, tests, ends_covered, matches_range)

untouched_past : (file : RegisterFile) (start end i : ℕ) → length file.entries ≤ i → ¬ (TouchesBytes file start end i)
untouched_past file start end i past touches = search (rules, tests, get_or_past)

-- ---- one pass

-- entry i is the first that matches one of the bytes
abbrev pub IsFirst : RegisterFile → (start end i : ℕ) → Type 0
IsFirst file start end i =
    TouchesBytes file start end i × ((j : ℕ) → j < i → ¬ (TouchesBytes file start end j))

-- the cause says which entry is the first that matches one of the bytes, and whether it matches all
abbrev pub IsCause : RegisterFile → (start end : ℕ) → Cause → Type 0
IsCause file start end (Rule i) = IsFirst file start end i × CoversBytes file start end i
IsCause file start end (Split i) = IsFirst file start end i × ¬ (CoversBytes file start end i)
IsCause file start end NoMatch = (j : ℕ) → ¬ (TouchesBytes file start end j)

module _ (file : RegisterFile) (start end : ℕ) (full : start < end) (small : HasAddresses file) where
  cause_by_cover : (i : ℕ) → IsFirst file start end i → (covered : Bool)
      → is_covered start end (range_of file i) ≡ covered
      → IsCause file start end (cond covered (Rule i) (Split i))
  cause_by_cover i first true e = (first, range_covers file start end small i e)
  cause_by_cover i first false e = (first, λ h. false≢true (sym e ∙ covers_range file start end small i full h))

  -- ranges from entry i on, where no entry before it is touched
  cause_is_from : (i : ℕ) (ranges : List ByteRange)
      → ((k : ℕ) → k < length ranges → slice_index_or ranges k no_range ≡ range_of file (i + k))
      → ((j : ℕ) → j < i → ¬ (TouchesBytes file start end j))
      → ((j : ℕ) → i + length ranges ≤ j → ¬ (TouchesBytes file start end j))
      → IsCause file start end (cause_from start end i ranges)
  unfolding cause_from
  cause_is_from i [] here before after = λ j. elim (cases_lt j i) [
    | inl lt ↦ before j lt
    | inr le ↦ after j (omega arith)
  ]
  cause_is_from i (range ∷ ranges) here before after =
      let is_head : range_of file i ≡ range =
      sym (here 0 (omega arith) ∙ ap (range_of file) (add-zero i)) in
      let more : is_touched start end range ≡ false → (j : ℕ) → j < i + 1 → ¬ (TouchesBytes file start end j) =
      λ untouched. below_more _ _ before
      (λ touches. false≢true (sym untouched ∙ ap (is_touched start end) (sym is_head)
      ∙ touches_range file start end small i touches)) in
      elim (is_touched start end range) as (λ touched. is_touched start end range ≡ touched
      → IsCause file start end (cond touched (cond (is_covered start end range) (Rule i) (Split i))
      (cause_from start end (suc i) ranges))) [
        | true ↦ λ touched.
            let found = cause_by_cover i (
              range_touches file start end small i (ap (is_touched start end) is_head ∙ touched),
              before,
            ) (is_covered start end (range_of file i)) refl in
            rw is_head at found
        | false ↦ λ untouched. cause_is_from (suc i) ranges
            (λ k inside. here (suc k) (omega arith) ∙ ap (range_of file) (omega arith))
            (λ j below. more untouched j (omega arith))
            (λ j above. after j (omega arith))
      ] refl

  pub cause_is : IsCause file start end (cause_of file start end)
  unfolding cause_of
  cause_is =
      grind (arith, nat_tests, common_steps, cause_is_from, get_or-map-range_with_len, no_range, length-ranges_of, untouched_past)

decided : (file : RegisterFile) (access : Access) (cause : Cause)
    → IsCause file access.start (access.start + access.length) cause
    → IsDecisionBy file access (allows (rights_by file access.mode cause) access.kind) cause
decided file access cause is = search rules

pub decided_by_ranges : (file : RegisterFile) (access : Access) → HasAddresses file
    → IsDecision file access (decision_of file access)
unfolding decision_of
decided_by_ranges file access small = search (rules, tests, decided, cause_is)

-- ---- one decision

pub least_once : (P : ℕ → Type 0) (one other : Option ℕ) → IsLeast P one → IsLeast P other → one ≡ other
least_once P one other p q = search rules

module _ (file : RegisterFile) (access : Access) where
  pub one_decider : (i j : ℕ) → IsDecider file access (Some i) → IsDecider file access (Some j) → i ≡ j
  one_decider i j p q = let same = least_once (Touches file access) (Some i) (Some j) p q in cc

  decided_once : (one other : Bool) (why because : Cause) → IsDecisionBy file access one why
      → IsDecisionBy file access other because → (one ≡ other) × (why ≡ because)
  decided_once one other NoMatch NoMatch p q = (p.1 ∙ sym q.1, refl)
  decided_once one other NoMatch (Split j) p q = absurd (p.0 j q.0.0)
  decided_once one other NoMatch (Rule j) p q = absurd (p.0 j q.0.0)
  decided_once one other (Split i) NoMatch p q = absurd (q.0 i p.0.0)
  decided_once one other (Split i) (Split j) p q = (p.2 ∙ sym q.2, ap Split (one_decider i j p.0 q.0))
  decided_once one other (Split i) (Rule j) p q = absurd (p.1 (rw (one_decider i j p.0 q.0) q.1))
  decided_once one other (Rule i) NoMatch p q = absurd (q.0 i p.0.0)
  decided_once one other (Rule i) (Split j) p q = absurd (q.1 (rw (← one_decider i j p.0 q.0) p.1))
  decided_once one other (Rule i) (Rule j) p q =
      let same = one_decider i j p.0 q.0 in
      (p.2 ∙ ap (λ (k : ℕ). allows (rights file k access.mode) access.kind) same ∙ sym q.2, ap Rule same)

pub one_decision : (file : RegisterFile) (access : Access) (one other : Decision) → IsDecision file access one
    → IsDecision file access other → one ≡ other
one_decision file access one other p q = search (rules, tests, decided_once)

-- ---- one byte

module _ (file : RegisterFile) (access : Access) (single : access.length ≡ 1) where
  pub owner_decides : (owner : Option ℕ) → IsOwner file access.start owner → IsDecider file access owner
  owner_decides owner unowned = search rules
