-- What a unit's tables answer.
use borrow.Author.Tests.{tests}
use Rattle.std.proofs.Common.{◌≡◌, ℕ, ◌+◌, ◌-◌, ◌*◌, ◌%◌, ◌<◌, ◌≤◌, List, length, slice_index, Option, Some, None}
use Rattle.std.proofs.Common.{rules, IfSome, Bool, false, nat_lt, ap, ◌∙◌, arith, inl}
use Rattle.std.proofs.Common.{inr}
use Rattle.std.proofs.lemmas.Bool.{cases_lt}
use Rattle.pmp_core.specs.declared.access.Access.{Access}
use Rattle.pmp_core.specs.declared.access.Mode.{Mode}
use Rattle.pmp_core.specs.declared.access.Mode.TheVariants.{U}
use Rattle.pmp_core.specs.declared.access.Kind.{Kind}
use Rattle.pmp_core.specs.declared.access.Kind.TheVariants.{Fetch}
use Rattle.pmp_core.specs.declared.decision.Cause.TheVariants.{Split}
use Rattle.pmp_core.specs.declared.decision.Decision.{Decision}
use Rattle.pmp_core.specs.declared.access.TheConstants.{ADDRESS_LIMIT}
use Rattle.pmp_core.specs.RegisterFile.{RegisterFile}
use Rattle.pmp_core.specs.Decision.{IsOwner, IsDecision}
use Rattle.pmp_core.specs.FaultCode.{access_fault_code}
use Rattle.pmp_core.specs.Ranges.{decision_of}
use Rattle.pmp_core.specs.Rights.{allows}
use Rattle.pmp_core.proofs.Decisions.{decided_by_ranges, one_decision}
use Rattle.pmp_core.proofs.Legal.{legal_addresses}
use Rattle.pmp_map.specs.declared.search.TheConstants.{PLACES}
use Rattle.pmp_map.specs.Answers.{decision_by, whole_cause, owned_rights}
use Rattle.pmp_map.specs.Runs.{map_run}
use Rattle.pmp_map.proofs.Order.{start_at, starts_rise, in_run, run_before}
use Rattle.pmp_map.proofs.Starts.{IsPlaceOf, place_found}
use Rattle.pmp_map.proofs.DecidedRuns.{across_runs, decided_whole}
use Rattle.pmp_map.specs.declared.tables.Tables.{Tables}
use Rattle.pmp_map.specs.Answer.{cause_number, fault_number, answer_number}
use Rattle.pmp_map.specs.Causes.{cause_at, IsLeastCause}
use Rattle.pmp_map.specs.Columns.{column_of}
use Rattle.pmp_map.specs.Rows.{IsRow, row_at}
use Rattle.pmp_map.specs.Tables.{AreTables, IsFound}

-- ---- causes

pub cause_most : (owner : Option ℕ) → IfSome owner (λ i. i < 256) → cause_number (whole_cause owner) ≤ 512
cause_most owner small = search (rules, tests)

-- allowed answers are below 1024
allowed_low : (cause : ℕ) (kind : Kind) (allowed : Bool) → cause ≤ 512
    → nat_lt (cause + 1024 * fault_number kind allowed) 1024 ≡ allowed
allowed_low cause kind allowed low = search (rules, tests)

-- the answer in a mode's and a kind's column is low where the kind is allowed
pub low_where_allowed : (file : RegisterFile) (owner : Option ℕ) (row : List ℕ) → IsRow file owner row → (mode : Mode)
    (kind : Kind) (column : ℕ) → column ≡ column_of mode kind
    → nat_lt (slice_index row column) 1024 ≡ allows (owned_rights file owner mode) kind
low_where_allowed file owner row is mode kind column here = search (rules, tests, allowed_low, cause_most)

-- the first answer of a row tells the cause
pub row_cause : (file : RegisterFile) (owner : Option ℕ) (row : List ℕ) → IsRow file owner row
    → slice_index row 0 % 1024 ≡ cause_number (whole_cause owner)
row_cause file owner row is =
    let allowed = allows (owned_rights file owner U) Fetch in
    let first : slice_index row 0 ≡ cause_number (whole_cause owner) + 1024 * fault_number Fetch allowed =
    is.answers U Fetch in
    omega (arith, first, cause_most owner is.number)

pub owned_by_cause : (owner : Option ℕ) (i : ℕ) → cause_number (whole_cause owner) ≡ i → i < 512 → owner ≡ Some i
owned_by_cause owner i is low = search (rules, tests)

pub unowned_by_cause : (owner : Option ℕ) → IfSome owner (λ i. i < 256) → 256 ≤ cause_number (whole_cause owner)
    → owner ≡ None
unowned_by_cause owner small high = search (rules, tests)

module _ (file : RegisterFile) (tables : Tables) (are : AreTables file tables) where
  -- ---- places

  pub run_found : (byte place : ℕ) → byte < ADDRESS_LIMIT → place + 1 < PLACES → IsFound tables byte place
      → IsPlaceOf are.list byte place
  run_found byte place small places is_found = search (rules, tests, place_found)

  abbrev pub owner_at : ℕ → Option ℕ
  owner_at k = (map_run are.list k).owner

  row_cause_at : (k : ℕ) → k < length are.list → cause_at tables.rows k ≡ cause_number (whole_cause (owner_at k))
  row_cause_at k inside = row_cause file (owner_at k) (row_at tables.rows k) (are.rows_are k inside)

  pub computed : (access : Access) (decision : Decision) → IsDecision file access decision
      → decision ≡ decision_of file access
  computed access decision decided = search (rules, tests, one_decision, decided_by_ranges, legal_addresses)

  module _ (access : Access) (place : ℕ) (places : place + 1 < PLACES)
      (is_found : IsFound tables access.start place) where
    at : IsPlaceOf are.list access.start place
    at =
        let full = access.not_empty in
        let ends = access.inside in
        run_found access.start place (omega arith) places is_found

    next_start : slice_index tables.starts (place + 1) ≡ start_at ADDRESS_LIMIT are.list (place + 1)
    next_start = are.starts_are (place + 1) places

    -- ---- an access inside the run

    whole : access.start + access.length ≤ slice_index tables.starts (place + 1)
        → decision_by file (owner_at place) access ≡ decision_of file access
    whole short = computed access (decision_by file (owner_at place) access)
        (decided_whole file access (owner_at place) (λ byte inside. are.runs_are.owned place byte at.inside
        (in_run ADDRESS_LIMIT (IsOwner file) are.list are.runs_are place byte at.inside
        (omega (arith, at.here.0, inside.0)) (omega (arith, inside.1, next_start)))))

    pub answered : access.start + access.length ≤ slice_index tables.starts (place + 1)
        → slice_index (row_at tables.rows place) (column_of access.mode access.kind)
        ≡ answer_number access (decision_of file access)
    answered short = (are.rows_are place at.inside).answers access.mode access.kind
        ∙ ap (answer_number access) (whole short)

    -- ---- an access that leaves it

    module _ (long : slice_index tables.starts (place + 1) < access.start + access.length) (last : ℕ)
        (last_places : last + 1 < PLACES)
        (last_found : IsFound tables (access.start + access.length - 1) last) where
      end : IsPlaceOf are.list (access.start + access.length - 1) last
      end =
          let full = access.not_empty in
          let ends = access.inside in
          run_found (access.start + access.length - 1) last (omega arith) last_places last_found

      pub rises : place < last
      rises = elim (cases_lt place last) [
        | inl lt ↦ lt
        | inr le ↦
            let before = run_before ADDRESS_LIMIT (IsOwner file) are.list are.runs_are last
            (access.start + access.length - 1) end.inside end.here in
            absurd (omega (
              arith,
              before,
              next_start,
              at.inside,
              starts_rise ADDRESS_LIMIT (IsOwner file) are.list are.runs_are (last + 1) (place + 1)
                  (omega arith) (omega (arith, at.inside)),
            ))
      ]

      -- the least cause is the number of the least owner
      pub refused : (least : ℕ) → IsLeastCause tables.rows place (last + 1) least
          → 256 + least + 1024 * access_fault_code access.kind ≡ answer_number access (decision_of file access)
      refused least is =
          let within = end.inside in
          let found = across_runs file are.list are.runs_are place last rises within access at.here end.here in
          let (k, from, to, owned) = found.1.0 in
          let cause = rw owned at (row_cause_at k (omega arith)) in
          let small : found.0 < 256 = rw owned at (are.rows_are k (omega arith)).number in
          let most = is.each k from (omega arith) in
          let (n, first, end, cause_is) = is.one (omega arith) in
          let same : least ≡ found.0 = elim (cases_lt least found.0) [
            | inl lower ↦
                let owns = owned_by_cause (owner_at n) least (omega (arith, row_cause_at n (omega arith)))
                (omega arith) in
                absurd (found.1.1 least lower (n, first, omega arith, owns))
            | inr le ↦ omega arith
          ] in
          rw same (ap (answer_number access)
          (computed access (record { allowed = false; cause = Split found.0 }) found.2))
