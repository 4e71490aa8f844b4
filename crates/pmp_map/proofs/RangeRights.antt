-- What a mode may do in a whole range.
use Rattle.std.proofs.Common.{◌≡◌, ◌≢◌, ℕ, List, ◌+◌, ◌-◌, ◌/◌, ◌%◌, ◌<◌, ◌≤◌, ◌==◌, length, slice_index, Option, Some}
use Rattle.std.proofs.Common.{None, refl, sym, ap, ◌∙◌, arith, inl, inr, rules}
use Rattle.std.proofs.lemmas.Bool.{cases_lt}
use Rattle.pmp_core.specs.declared.access.Access.{Access}
use Rattle.pmp_core.specs.declared.access.Mode.{Mode}
use Rattle.pmp_core.specs.declared.access.Kind.{Kind}
use Rattle.pmp_core.specs.declared.access.TheConstants.{ADDRESS_LIMIT}
use Rattle.pmp_core.specs.declared.decision.Decision.{Decision}
use Rattle.pmp_core.specs.declared.perms.Perms.{Perms}
use Rattle.pmp_core.specs.RegisterFile.{RegisterFile, HasAddresses}
use Rattle.pmp_core.specs.Decision.{IsOwner}
use Rattle.pmp_core.specs.Matching.{Matches}
use Rattle.pmp_core.specs.Perms.{right_of}
use Rattle.pmp_core.specs.Ranges.{decision_of}
use Rattle.pmp_core.specs.Rights.{Rights, perms_of, allows, default_rights, rights}
use Rattle.pmp_core.proofs.Decisions.{CoversBytes, IsFirst, TouchesBytes, decided_by_ranges, least_once, one_decision}
use Rattle.pmp_core.proofs.Legal.{legal_addresses}
use Rattle.pmp_map.specs.declared.run.Run.{Run}
use Rattle.pmp_map.specs.declared.tables.Tables.{Tables}
use Rattle.pmp_map.specs.Answers.{owned_rights, decision_by}
use Rattle.pmp_map.specs.RangeRights.{IsOwnedBy, AreRangeRights}
use Rattle.pmp_map.specs.Runs.{AreRuns, IsRunAround, map_run}
use Rattle.pmp_map.specs.Tables.{AreTables}
use Rattle.pmp_map.proofs.Order.{start_at, start_most, start_past, in_run}
use Rattle.pmp_map.proofs.Starts.{IsPlaceOf}
use Rattle.pmp_map.proofs.DecidedRuns.{decided_whole}

-- ---- bits

right_bit : (rights : Rights) (kind : Kind)
    → allows rights kind ≡ ((perms_of rights).0 / (right_of kind).0 % 2 == 1)
right_bit rights kind = search rules

-- ---- by the owners of bytes

pub same_owner : (file : RegisterFile) (byte : ℕ) (one other : Option ℕ) → IsOwner file byte one
    → IsOwner file byte other → one ≡ other
same_owner file byte one other p q = least_once (λ i. Matches file i byte) one other p q

module _ (file : RegisterFile) (addresses : HasAddresses file) (mode : Mode) (start size : ℕ)
    (full : 0 < size) where
  module _ (owner : Option ℕ) (owned : IsOwnedBy file start size owner) where
    -- each access in the range is allowed where the bit of its kind is set
    pub allowed_inside : (number : ℕ) → number ≡ (perms_of (owned_rights file owner mode)).0 → (access : Access)
        → access.mode ≡ mode → start ≤ access.start → access.start + access.length ≤ start + size
        → (decision_of file access).allowed ≡ (number / (right_of access.kind).0 % 2 == 1)
    allowed_inside number is access mode_is from to =
        let rights = owned_rights file owner mode in
        let decided = one_decision file access (decision_by file owner access) (decision_of file access)
        (decided_whole file access owner
        (λ byte inside. owned byte (omega (arith, inside.0)) (omega (arith, inside.1))))
        (decided_by_ranges file access addresses) in
        sym (ap (λ (d : Decision). d.allowed) decided)
        ∙ ap (λ (m : Mode). allows (owned_rights file owner m) access.kind) mode_is
        ∙ right_bit rights access.kind
        ∙ ap (λ (n : ℕ). n / (right_of access.kind).0 % 2 == 1) (sym is)

    -- it has no other owner
    pub one_owner : (other : Option ℕ) → IsOwnedBy file start size other → owner ≡ other
    one_owner other all = same_owner file start owner other (owned start (omega arith) (omega arith))
        (all start (omega arith) (omega arith))

    pub rights_by_owner : AreRangeRights file mode start size (Some (perms_of (owned_rights file owner mode)))
    rights_by_owner = record {
      owned = λ other all. ap (λ (o : Option ℕ). Some (perms_of (owned_rights file o mode))) (one_owner other all);
      mixed = λ none. absurd (none owner owned);
      accesses = λ perms is. allowed_inside perms.0 (sym (ap (λ (p : Perms). p.0) (cc is)));
    }

  -- the first byte has an owner that a later one hasn't
  module _ (owner : Option ℕ) (byte : ℕ) (first : IsOwner file start owner) (from : start ≤ byte)
      (to : byte < start + size) (apart : (other : Option ℕ) → IsOwner file byte other → owner ≢ other) where
    pub two_owners : (other : Option ℕ) → ¬ (IsOwnedBy file start size other)
    two_owners other all = apart other (all byte from to)
        (same_owner file start owner other first (all start (omega arith) (omega arith)))

    pub rights_of_two : AreRangeRights file mode start size None
    rights_of_two = search (rules, two_owners)

-- ---- by what decides

module _ (file : RegisterFile) (small : HasAddresses file) (mode : Mode) (start size : ℕ) (full : 0 < size) where
  -- entry i matches all bytes, and none before it any
  pub rights_of_rule : (i : ℕ) → IsFirst file start (start + size) i × CoversBytes file start (start + size) i
      → AreRangeRights file mode start size (Some (perms_of (rights file i mode)))
  rights_of_rule i is = rights_by_owner file small mode start size full (Some i) (λ byte from to.
      (is.1 byte (from, to), λ j below matched. is.0.1 j below (byte, (from, to), matched)))

  -- entry i matches some byte, and not all, and none before it any
  pub rights_of_split : (i : ℕ) → IsFirst file start (start + size) i × ¬ (CoversBytes file start (start + size) i)
      → AreRangeRights file mode start size None
  rights_of_split i is =
      let byte = is.0.0 in
      let owned : IsOwner file byte.0 (Some i) = (byte.2, λ j below matched. is.0.1 j below (byte.0, byte.1, matched)) in
      let none : (other : Option ℕ) → ¬ (IsOwnedBy file start size other) = λ other all.
      let same : other ≡ Some i = same_owner file byte.0 other (Some i) (all byte.0 byte.1.0 byte.1.1) owned in
      is.1 (λ at inside. (rw same at (all at inside.0 inside.1)).0) in
      record {
        owned = λ other all. absurd (none other all);
        mixed = λ _. refl;
        accesses = λ perms is. absurd cc;
      }

  -- no entry matches any byte
  pub rights_of_none : ((j : ℕ) → ¬ (TouchesBytes file start (start + size) j))
      → AreRangeRights file mode start size (Some (perms_of (default_rights file mode)))
  rights_of_none none = rights_by_owner file small mode start size full None (λ byte from to j matched.
      none j (byte, (from, to), matched))

-- ---- by tables

module _ (file : RegisterFile) (tables : Tables) (are : AreTables file tables) (byte place : ℕ)
    (at : IsPlaceOf are.list byte place) where
  abbrev owner_at : ℕ → Option ℕ
  owner_at k = (map_run are.list k).owner

  next_start : slice_index tables.starts (place + 1) ≡ start_at ADDRESS_LIMIT are.list (place + 1)
  next_start = are.starts_are (place + 1) (omega (arith, at.inside, are.few))

  owned_here : (other : ℕ) → byte ≤ other → other < slice_index tables.starts (place + 1)
      → IsOwner file other (owner_at place)
  owned_here other from to = are.runs_are.owned place other at.inside
      (in_run ADDRESS_LIMIT (IsOwner file) are.list are.runs_are place other at.inside
      (omega (arith, at.here.0, from)) (omega (arith, to, next_start)))

  past_here : byte < slice_index tables.starts (place + 1)
  past_here = omega (arith, at.here.1, are.runs_are.gapless place at.inside, next_start)

  next_owned : slice_index tables.starts (place + 1) < ADDRESS_LIMIT → (other : Option ℕ)
      → IsOwner file (slice_index tables.starts (place + 1)) other → owner_at place ≢ other
  next_owned more other owned =
      let next = start_at ADDRESS_LIMIT are.list (place + 1) in
      let inside_next : place + 1 < length are.list = elim (cases_lt (place + 1) (length are.list)) [
        | inl lt ↦ lt
        | inr past ↦ absurd (omega (arith, next_start, start_past ADDRESS_LIMIT are.list (place + 1) past, more))
      ] in
      let proper = are.runs_are.proper (place + 1) inside_next in
      let there : owner_at (place + 1) ≡ other = same_owner file next (owner_at (place + 1)) other
      (are.runs_are.owned (place + 1) next inside_next (omega arith, proper)) (rw next_start at owned) in
      λ same. are.runs_are.apart place inside_next (same ∙ sym there)

  module _ (mode : Mode) (size : ℕ) (full : 0 < size) (ends : byte + size ≤ ADDRESS_LIMIT) where
    pub whole_rights_at : byte + size ≤ slice_index tables.starts (place + 1)
        → AreRangeRights file mode byte size (Some (perms_of (owned_rights file (owner_at place) mode)))
    whole_rights_at short = rights_by_owner file (legal_addresses file are.legal) mode byte size full (owner_at place)
        (λ other from to. owned_here other from (omega arith))

    pub mixed_rights : slice_index tables.starts (place + 1) < byte + size
        → AreRangeRights file mode byte size None
    mixed_rights long =
        let past = past_here in
        rights_of_two file (legal_addresses file are.legal) mode byte size full (owner_at place)
        (slice_index tables.starts (place + 1)) (owned_here byte (omega arith) past_here) (omega arith) long
        (next_owned (omega arith))

-- ---- runs of a list

-- the run of a byte among all runs
pub run_around : (file : RegisterFile) (runs : List Run) → AreRuns file runs → (byte place : ℕ) → IsPlaceOf runs byte place
    → IsRunAround file byte (map_run runs place)
run_around file runs are byte place at =
    let run = map_run runs place in
    let proper = are.proper place at.inside in
    let owner_at : ℕ → Option ℕ = λ k. (map_run runs k).owner in
    record {
      here = at.here;
      inside = omega (arith, are.gapless place at.inside, start_most ADDRESS_LIMIT (IsOwner file) runs are (place + 1));
      owned = λ other inside. are.owned place other at.inside inside;
      before = λ some owned. elim (cases_lt 0 place) [
        | inl later ↦
            let next : place - 1 + 1 ≡ place = omega arith in
            let inside : place - 1 < length runs = omega (arith, at.inside) in
            let meets = are.gapless (place - 1) inside in
            let begins : start_at ADDRESS_LIMIT runs (place - 1 + 1) ≡ run.first =
            ap (start_at ADDRESS_LIMIT runs) next in
            let before = are.proper (place - 1) inside in
            let same : owner_at (place - 1) ≡ owner_at place = same_owner file (run.first - 1) _ _
            (are.owned (place - 1) (run.first - 1) inside (omega arith, omega arith)) owned in
            are.apart (place - 1) (omega (arith, at.inside)) (same ∙ sym (ap owner_at next))
        | inr first ↦ let zero_place : place ≡ 0 = omega arith in
            absurd (omega (arith, are.begins, ap (start_at ADDRESS_LIMIT runs) zero_place))
      ];
      after = λ less owned. elim (cases_lt (place + 1) (length runs)) [
        | inl lt ↦
            let meets = are.gapless place at.inside in
            let after = are.proper (place + 1) lt in
            let same : owner_at place ≡ owner_at (place + 1) = same_owner file (run.last + 1) _ _ owned
            (are.owned (place + 1) (run.last + 1) lt (omega arith, omega arith)) in
            are.apart place lt same
        | inr past ↦ absurd (omega (arith, are.gapless place at.inside, start_past ADDRESS_LIMIT runs (place + 1) past))
      ];
    }
