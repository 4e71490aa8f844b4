-- Decisions on accesses by the owners of their bytes: inside a run, and across runs.
use Rattle.std.proofs.Common.{◌≡◌, ℕ, zero, suc, ◌+◌, ◌-◌, ◌<◌, ◌≤◌, ◌⊎◌, List, length, Option, Some, None, refl, sym}
use Rattle.std.proofs.Common.{◌∙◌, arith, inl, inr, max, false, rules}
use Rattle.std.proofs.lemmas.Bool.{cases_lt}
use Rattle.pmp_core.specs.declared.access.Access.{Access}
use Rattle.pmp_core.specs.declared.access.TheConstants.{ADDRESS_LIMIT}
use Rattle.pmp_core.specs.declared.decision.Cause.TheVariants.{Split}
use Rattle.pmp_core.specs.RegisterFile.{RegisterFile}
use Rattle.pmp_core.specs.Matching.{Matches}
use Rattle.pmp_core.specs.Decision.{IsByteOf, IsLeast, IsOwner, Touches, IsDecision}
use Rattle.pmp_core.proofs.Decisions.{least_once}
use Rattle.pmp_map.specs.declared.run.Run.{Run}
use Rattle.pmp_map.specs.Answers.{decision_by}
use Rattle.pmp_map.specs.Runs.{IsInRun, AreRuns, map_run}
use Rattle.pmp_map.specs.RunsLaw.{AcrossRunsLaw, InsideRunLaw, OwnsOneOf}
use Rattle.pmp_map.proofs.CutFacts.{least_alike}
use Rattle.pmp_map.proofs.Order.{start_at, starts_rise, run_among}

-- ---- one owner

pub decided_whole : (file : RegisterFile) (access : Access) (owner : Option ℕ)
    → ((byte : ℕ) → IsByteOf access byte → IsOwner file byte owner)
    → IsDecision file access (decision_by file owner access)
decided_whole file access None owned = (λ i touches. owned touches.0 touches.1 i touches.2, refl)
decided_whole file access (Some i) owned =
    let full : 0 < access.length = access.not_empty in
    let first : IsByteOf access access.start = (omega arith, omega arith) in (
      (
        (access.start, first, (owned access.start first).0),
        λ j below touches. (owned touches.0 touches.1).1 j below touches.2,
      ),
      λ byte inside. (owned byte inside).0,
      refl,
    )

pub inside_run : InsideRunLaw
inside_run file runs are k within access inside =
    decided_whole file access (map_run runs k).owner (λ byte here. are.owned k byte within (inside byte here))

-- ---- the least owner

module _ (P : ℕ → Type 0) where
  none_lower : (i m : ℕ) → m ≤ i → ((j : ℕ) → j < m → ¬ (P j)) → (j : ℕ) → j < m → ¬ ((Some i ≡ Some j) ⊎ P j)
  none_lower i m le none j below is = search rules

  least_with : (first least : Option ℕ) → IsLeast P least → (o : Option ℕ) × IsLeast (λ i. (first ≡ Some i) ⊎ P i) o
  least_with None least is = (
    least,
    least_alike P (λ i. (None ≡ Some i) ⊎ P i) least
        (λ i. (λ later. inr later, λ one. elim one [ inl first ↦ cc | inr later ↦ later ])) is,
  )
  least_with (Some i) None none = (Some i, (inl refl, none_lower i i (omega arith) (λ j below. none j)))
  least_with (Some i) (Some m) is = elim (cases_lt i m) [
    | inl lower ↦ (Some i, (inl refl, none_lower i i (omega arith) (λ j below. is.1 j (omega arith))))
    | inr le ↦ (Some m, (inr is.0, none_lower i m le is.1))
  ]

-- of the owners of the runs from p to q, which are d
least_owner : (runs : List Run) (d p q : ℕ) → p + d ≡ q + 1 → (owner : Option ℕ) × IsLeast (OwnsOneOf runs p q) owner
least_owner runs zero p q none = (None, λ i owned. absurd (omega (arith, owned.1, owned.2)))
least_owner runs (suc d) p q all =
    let rest = least_owner runs d (suc p) q (omega arith) in
    let least = least_with (OwnsOneOf runs (suc p) q) (map_run runs p).owner rest.0 rest.1 in (
      least.0,
      least_alike _ (OwnsOneOf runs p q) least.0 (λ i. (
        λ one. elim one [
          | inl first ↦ (p, omega arith, omega arith, first)
          | inr later ↦ (later.0, omega (arith, later.1), later.2, later.3)
        ],
        λ owned. elim (cases_lt p owned.0) [
          | inl after ↦ inr (owned.0, omega arith, owned.2, owned.3)
          | inr same ↦ let here : p ≡ owned.0 = omega (arith, owned.1) in inl (rw here owned.3)
        ],
      )) least.1,
    )

-- ---- several owners

-- a byte that entry j matches is owned by j or by a lower entry
owner_up_to : (file : RegisterFile) (byte j : ℕ) (owner : Option ℕ) → IsOwner file byte owner
    → Matches file j byte → (i : ℕ) × (owner ≡ Some i) × (i ≤ j)
owner_up_to file byte j owner owned matched = search rules

-- the access begins in run p and ends in run q after it
module _ (file : RegisterFile) (runs : List Run) (are : AreRuns file runs) (p q : ℕ) (several : p < q)
    (within : q < length runs) (access : Access) (first : IsInRun (map_run runs p) access.start)
    (last : IsInRun (map_run runs q) (access.start + access.length - 1)) where
  -- each of the runs from p to q has a byte of the access
  touched : (k : ℕ) → p ≤ k → k ≤ q → (byte : ℕ) × IsByteOf access byte × IsInRun (map_run runs k) byte
  touched k from to =
      let full : 0 < access.length = access.not_empty in
      let lower = starts_rise ADDRESS_LIMIT (IsOwner file) runs are k q to (omega arith) in
      let higher = starts_rise ADDRESS_LIMIT (IsOwner file) runs are (p + 1) (k + 1) (omega arith) (omega arith) in
      let begins = are.gapless p (omega arith) in
      let ends = are.gapless k (omega arith) in
      let proper = are.proper k (omega arith) in (
        max access.start (start_at ADDRESS_LIMIT runs k),
        (omega arith, omega arith),
        (omega arith, omega arith),
      )

  -- an entry that matches a byte of it is none before all owners of the runs
  owner_before : (j : ℕ) → Touches file access j → (i : ℕ) × OwnsOneOf runs p q i × (i ≤ j)
  owner_before j (byte, here, matched) =
      let gap = are.gapless q within in
      let run = run_among ADDRESS_LIMIT (IsOwner file) runs are byte p q (omega arith) within
      (omega arith) (omega arith) in
      let owner = owner_up_to file byte j (map_run runs run.0).owner
      (are.owned run.0 byte (omega (arith, run.2)) run.3) matched in
      (owner.0, (run.0, run.1, run.2, owner.1), owner.2)

  -- its bytes have several owners, as neighbours do
  several_owners : (owner : Option ℕ) → ¬ ((byte : ℕ) → IsByteOf access byte → IsOwner file byte owner)
  several_owners owner all =
      let same : (k : ℕ) → p ≤ k → k ≤ q → (map_run runs k).owner ≡ owner = λ k from to.
      let byte = touched k from to in
      least_once (λ i. Matches file i byte.0) (map_run runs k).owner owner
      (are.owned k byte.0 (omega arith) byte.2) (all byte.0 byte.1) in
      are.apart p (omega arith) (same p (omega arith) (omega arith) ∙ sym (same (p + 1) (omega arith) (omega arith)))

  refused : (least : Option ℕ) → IsLeast (OwnsOneOf runs p q) least → (i : ℕ) × IsLeast (OwnsOneOf runs p q) (Some i)
      × IsDecision file access (record { allowed = false; cause = Split i })
  refused None unowned = absurd (several_owners None (λ byte here j matched.
      let owner = owner_before j (byte, here, matched) in unowned owner.0 owner.1))
  refused (Some i) least =
      let (k, from, to, owned) = least.0 in
      let byte = touched k from to in
      let none_before : (j : ℕ) → j < i → ¬ (Touches file access j) = λ j below touches.
      let owner = owner_before j touches in
      least.1 owner.0 (omega (arith, owner.2)) owner.1 in
      let matched = (rw owned at (are.owned k byte.0 (omega arith) byte.2)).0 in (
        i,
        least,
        (
          ((byte.0, byte.1, matched), none_before),
          λ covers. several_owners (Some i) (λ other here. search (rules, none_before)),
          refl,
        ),
      )

pub across_runs : AcrossRunsLaw
across_runs file runs are first last several within access begins ends =
    let least = least_owner runs (last + 1 - first) first last (omega arith) in
    refused file runs are first last several within access begins ends least.0 least.1
