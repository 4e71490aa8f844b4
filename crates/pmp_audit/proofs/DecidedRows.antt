-- Rows that are decided as the publications are done that they ask for.
use Rattle.std.proofs.Common.{◌≡◌, ℕ, ◌+◌, ◌<◌, ◌≤◌, ◌==◌, Bool, true, false, cond, List, [], ◌∷◌, ◌++◌}
use Rattle.std.proofs.Common.{length, map, take, drop, get_or, refl, sym, ap, subst, ◌∙◌, arith}
use Rattle.std.specs.Prelude.{sum_by, slice_index_or}
use Rattle.std.proofs.Math.Seq.{take-add}
use Rattle.std.proofs.lemmas.Bool.Decides.{nat_tests}
use Rattle.std.proofs.lemmas.List.{drop-drop, length-append, length-drop, length-map, map-append}
use Rattle.std.proofs.lemmas.List.{length-take-le, take_all}
use Rattle.std.proofs.lemmas.List.Concat.{length-flat_map}
use Rattle.std.proofs.lemmas.List.Sums.{sum_by_more_le}
use Rattle.pmp_core.specs.declared.access.Access.{Access}
use Rattle.pmp_core.specs.declared.decision.Decision.{Decision}
use Rattle.pmp_core.specs.declared.event.Event.{Event}
use Rattle.pmp_core.specs.Decision.{IsDecision}
use Rattle.pmp_core.specs.Histories.{joined}
use Rattle.pmp_core.specs.Ranges.{decision_of}
use Rattle.pmp_core.specs.RegisterFile.{HasAddresses, IsLegal, RegisterFile}
use Rattle.pmp_core.proofs.Legal.{legal_addresses, replay_legal_from}
use Rattle.pmp_share.specs.declared.room.TheConstants.{HISTORY_LIMIT}
use Rattle.pmp_share.specs.Batches.{Batches, event_count, file_from}
use Rattle.pmp_share.specs.Room.{has_room}
use Rattle.pmp_text.specs.declared.trace.TraceRow.{TraceRow}
use Rattle.pmp_text.specs.Contents.{ScriptContents}
use Rattle.pmp_text.specs.Reports.{AreDecided, file_of_script}
use Rattle.pmp_text.specs.Sizes.{IsInLimits}
use Rattle.pmp_text.specs.TraceFaults.{IsInOrder, afters}
use Rattle.pmp_text.specs.Traces.{row_fields}
use Rattle.pmp_audit.specs.Rounds.{AreDecidedSoFar, asking, decision_for}
use Rattle.pmp_audit.specs.Working.{decided_in}

module _ (script : ScriptContents) where
  abbrev Ordered : ℕ → List TraceRow → Type 0
  Ordered least rows = IsInOrder (length script.batches) least (afters (map row_fields rows))

  -- these rows are at the front of those that are left, and ask for just so many publications
  record AreAsked (after : ℕ) (left front : List TraceRow) : Type 0 where
    within : length front ≤ length left
    is : front ≡ take (length front) left
    decisions : decided_in (file_of_script script after) front ≡ map (decision_for script) front
    order : Ordered (after + 1) (drop (length front) left)

  module _ (after : ℕ) (row : TraceRow) (more : List TraceRow) (order : Ordered after (row ∷ more))
      (rest : Ordered after more → AreAsked after more (asking after more)) where
    first_asked : row.after ≡ after → AreAsked after (row ∷ more) (row ∷ asking after more)
    first_asked same =
        let asked = rest (rw same at order.2) in
        let decided : decision_of (file_of_script script after) row.access ≡ decision_for script row =
        ap (λ (n : ℕ). decision_of (file_of_script script n) row.access) (sym same) in
        record {
          within = let w = asked.within in omega arith;
          is = ap (λ (l : List TraceRow). row ∷ l) asked.is;
          decisions = cc (decided, asked.decisions);
          order = asked.order;
        }

    none_asked : after < row.after → AreAsked after (row ∷ more) []
    none_asked later = record {
      within = omega arith;
      is = refl;
      decisions = refl;
      order = (omega arith, order.1, order.2);
    }

    asked_row : (test : Bool) → (row.after == after) ≡ test
        → AreAsked after (row ∷ more) (cond test (row ∷ asking after more) [])
    asked_row true is = first_asked (grind (arith, nat_tests))
    asked_row false is = none_asked (let least = order.0 in grind (arith, nat_tests))

  asked : (after : ℕ) (left : List TraceRow) → Ordered after left → AreAsked after left (asking after left)
  asked after [] order = record { within = omega arith; is = refl; decisions = refl; order = tt }
  asked after (row ∷ more) order = asked_row after row more order (asked after more) (row.after == after) refl

  module _ (rows : List TraceRow) where
    pub none_decided : Ordered 0 rows → AreDecidedSoFar script rows 0 []
    none_decided order = record { within = omega arith; decisions = refl; order = order }

    pub decided_next : (after : ℕ) (base : RegisterFile) (published : Batches) (decided new : List Decision)
        → AreDecidedSoFar script rows after decided → base ≡ script.start
        → published ≡ take after script.batches
        → new ≡ decided ++ decided_in (file_from base published) (asking after (drop (length decided) rows))
        → AreDecidedSoFar script rows (after + 1) new
    decided_next after base published decided new so_far based done added =
        let n = length decided in
        let left = drop n rows in
        let front = asking after left in
        let m = length front in
        let next = asked after left so_far.order in
        let f = decision_for script in
        let now : new ≡ decided ++ map f front =
        added ∙ ap (λ (f : RegisterFile). decided ++ decided_in (file_from f published) front) based
        ∙ ap (λ (p : Batches). decided ++ decided_in (file_from script.start p) front) done
        ∙ ap (λ (l : List Decision). decided ++ l) next.decisions in
        let many : length new ≡ n + m =
        ap (λ (l : List Decision). length l) now ∙ length-append decided (map f front)
        ∙ ap (λ (k : ℕ). n + k) (length-map front f) in
        let whole : take (n + m) rows ≡ take n rows ++ front =
        take-add n m rows ∙ ap (λ (l : List TraceRow). take n rows ++ l) (sym next.is) in
        record {
          within = let w = next.within in let o = so_far.within in omega (arith, length-drop n rows, many);
          decisions = now ∙ ap (λ (l : List Decision). l ++ map f front) so_far.decisions
              ∙ sym (map-append f (take n rows) front) ∙ ap (map f) (sym whole)
              ∙ ap (λ (k : ℕ). map f (take k rows)) (sym many);
          order = subst (Ordered (after + 1)) (drop-drop m n rows ∙ ap (λ (k : ℕ). drop k rows) (sym many)) next.order;
        }

    none_left : (left : List TraceRow) → Ordered (length script.batches + 1) left → left ≡ []
    none_left [] order = refl
    none_left (row ∷ left) order = absurd (omega (arith, order.0, order.1))

    pub all_decided : (after : ℕ) (decided : List Decision) → after ≡ length script.batches + 1
        → AreDecidedSoFar script rows after decided → decided ≡ map (decision_for script) rows
    all_decided after decided last so_far =
        let none : drop (length decided) rows ≡ [] = none_left (drop (length decided) rows) (rw last at so_far.order) in
        let left : length rows ≤ length decided =
        let nil = ap (λ (l : List TraceRow). length l) none in omega (arith, length-drop (length decided) rows) in
        so_far.decisions ∙ ap (map (decision_for script)) (take_all (length decided) rows left)

  -- ---- a script's publications have room

  pub room_for : (index : ℕ) (published : Batches) (batch : List Event) → IsInLimits script.batches
      → index < length script.batches → published ≡ take index script.batches
      → batch ≡ slice_index_or script.batches index []
      → has_room published [] batch ≡ true
  room_for index published batch size inside done is =
      let events : event_count published ≡ sum_by (λ (b : List Event). length b) (take index script.batches) =
      ap event_count done ∙ length-flat_map (λ (b : List Event). b) (take index script.batches) in
      let fits = sum_by_more_le (λ (b : List Event). length b) script.batches index [] inside in
      let many : length published ≡ index =
      ap (λ (l : Batches). length l) done ∙ length-take-le index script.batches (omega arith) in
      let more : length batch ≡ length (get_or script.batches index []) = ap (λ (l : List Event). length l) is in
      let events_fit : event_count published + 0 + length batch ≤ HISTORY_LIMIT = omega (arith, size.events) in
      let batches_fit : length published + 0 + 1 ≤ HISTORY_LIMIT = omega (arith, size.publications) in
      grind (arith, nat_tests)

-- ---- each decision is the manual's

-- what is computed from an entry's ranges is the manual's decision
abbrev pub ByRanges : Type 0
ByRanges = (file : RegisterFile) (access : Access) → HasAddresses file
    → IsDecision file access (decision_of file access)

pub are_decided : ByRanges → (script : ScriptContents) → IsLegal script.start → (rows : List TraceRow)
    → AreDecided script rows (map (decision_for script) rows)
are_decided by_ranges script legal [] = tt
are_decided by_ranges script legal (row ∷ rows) = (
  by_ranges (file_of_script script row.after) row.access
      (legal_addresses (file_of_script script row.after)
      (replay_legal_from script.start legal (joined (take row.after script.batches)))),
  are_decided by_ranges script legal rows,
)
