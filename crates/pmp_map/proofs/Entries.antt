-- Owners by entries and by their ranges.
use Rattle.std.proofs.Common.{◌≡◌, ℕ, ◌+◌, ◌*◌, ◌<◌, ◌≤◌, Bool, List, length, Option, arith}
use Rattle.std.proofs.Common.{rules}
use Rattle.std.specs.Prelude.{IfSome}
use Rattle.std.proofs.lemmas.List.{get_or_past}
use Rattle.std.proofs.lemmas.List.Elements.{All-from_get_or}
use Rattle.pmp_core.specs.declared.access.TheConstants.{ADDRESS_LIMIT}
use Rattle.pmp_core.specs.declared.access.Access.{Access}
use Rattle.pmp_core.specs.declared.decision.Cause.{Cause}
use Rattle.pmp_core.specs.Matching.{Matches}
use Rattle.pmp_core.specs.Decision.{IsDecisionBy, IsOwner}
use Rattle.pmp_core.specs.RegisterFile.{RegisterFile, HasAddresses, IsLegal}
use Rattle.pmp_core.specs.Ranges.{IsInRange, decision_of, range_in, range_of, ranges_of}
use Rattle.pmp_core.proofs.Decisions.{decided_by_ranges}
use Rattle.pmp_core.proofs.Legal.{legal_addresses}
use Rattle.pmp_core.proofs.Matches.{range_past}
use Rattle.pmp_core.proofs.Places.{length-ranges_of, range_at}
use Rattle.pmp_map.specs.declared.run.Run.{Run}
use Rattle.pmp_map.specs.AnswerLaw.{IsByteCause}
use Rattle.pmp_map.specs.Runs.{AreRuns, HasOwnersBelow, map_run}
use Rattle.pmp_map.proofs.CutFacts.{least_alike, owner_by_ranges}
use Rattle.pmp_map.proofs.FewRuns.{few_runs}

-- only an entry that there is matches a byte, and so owns it
matched_below : (file : RegisterFile) (i byte : ℕ) → Matches file i byte → i < length file.entries
matched_below file i byte matched = search (rules, get_or_past)

pub owner_below : (file : RegisterFile) (byte : ℕ) (owner : Option ℕ) → IsOwner file byte owner
    → IfSome owner (λ i. i < length file.entries)
owner_below file byte owner owned = search (rules, matched_below file)

-- ---- a decision's entry

module _ (file : RegisterFile) (access : Access) where
  byte_cause_by : length file.entries ≤ 256 → (allowed : Bool) (cause : Cause) → IsDecisionBy file access allowed cause
      → IsByteCause cause
  byte_cause_by few allowed cause is = search (rules, matched_below file)

  pub byte_cause : IsLegal file → IsByteCause (decision_of file access).cause
  byte_cause legal = search (rules, byte_cause_by, decided_by_ranges, legal_addresses)

-- ---- few runs

listed : (file : RegisterFile) (i : ℕ) → range_of file i ≡ range_in (ranges_of file) i
listed file i = search (rules, get_or_past, range_past, length-ranges_of, range_at)

pub few_runs_of_entries : (file : RegisterFile) (runs : List Run) → HasAddresses file → AreRuns file runs
    → length runs ≤ 2 * length file.entries + 1
few_runs_of_entries file runs small are =
    omega (
      arith,
      length-ranges_of file.profile file.entries,
      few_runs ADDRESS_LIMIT (ranges_of file) runs (record {
        begins = are.begins;
        proper = are.proper;
        gapless = are.gapless;
        owned = λ k byte inside here. least_alike (λ i. IsInRange (range_of file i) byte)
            (λ i. IsInRange (range_in (ranges_of file) i) byte) _
            (λ i. ((λ in_range. rw (← listed file i) in_range), (λ in_list. rw (listed file i) in_list)))
            (owner_by_ranges file small byte _ (are.owned k byte inside here));
        apart = are.apart;
      }),
    )

pub owners_below : (file : RegisterFile) (runs : List Run) → AreRuns file runs → HasOwnersBelow (length file.entries) runs
owners_below file runs are = All-from_get_or (λ (run : Run). IfSome run.owner (λ i. i < length file.entries)) runs _
    (λ k inside. owner_below file (map_run runs k).first (map_run runs k).owner
    (are.owned k (map_run runs k).first inside (omega arith, are.proper k inside)))
