-- Tables that are filled run by run.
use Rattle.std.proofs.Common.{◌≡◌, ◌≢◌, ℕ, ◌+◌, ◌-◌, ◌<◌, ◌≤◌, List, [], ◌∷◌, ◌++◌, length, slice_index}
use Rattle.std.proofs.Common.{get_or-set_other, get_or-set_same, length-set, refl, sym, ap, ◌∙◌, arith, inl, inr, rules}
use Rattle.std.proofs.Math.ListN.{set}
use Rattle.std.proofs.lemmas.Bool.{cases_lt}
use Rattle.pmp_core.specs.declared.access.TheConstants.{ADDRESS_LIMIT}
use Rattle.pmp_core.specs.Decision.{IsOwner}
use Rattle.pmp_core.specs.RegisterFile.{IsLegal, RegisterFile}
use Rattle.pmp_map.specs.declared.cuts.Cut.{Cut}
use Rattle.pmp_map.specs.declared.run.Run.{Run}
use Rattle.pmp_map.specs.declared.run.TheConstants.{RUNS}
use Rattle.pmp_map.specs.declared.search.TheConstants.{PLACES}
use Rattle.pmp_map.specs.declared.tables.Tables.{Tables}
use Rattle.pmp_map.specs.Painting.{AreUp, start_of}
use Rattle.pmp_map.specs.Rows.{IsRow, row_at}
use Rattle.pmp_map.specs.Runs.{run_at, AreRunsTo}
use Rattle.pmp_map.specs.Tables.{AreTables, IsSweptTo}
use Rattle.pmp_map.proofs.Order.{start_past}
use Rattle.pmp_map.proofs.Pushes.{IsNextRun, pushed, last_pushed, length_pushed, old_run, new_run, old_start}

pub none_swept : (file : RegisterFile) (starts : List ℕ) (rows : List (List ℕ)) (cuts : List Cut)
    → length starts ≡ PLACES → length rows ≡ PLACES → AreUp (IsOwner file) cuts → start_of cuts ≡ 0
    → length cuts ≤ RUNS → IsSweptTo file starts rows cuts 0
none_swept file starts rows cuts long wide up begins few = search rules

module _ (file : RegisterFile) (starts : List ℕ) (rows : List (List ℕ)) (cut : Cut) (cuts : List Cut) (place : ℕ)
    (swept : IsSweptTo file starts rows (cut ∷ cuts) place) (row : List ℕ) (is : IsRow file cut.owner row) where
  abbrev end : ℕ
  end = start_of cuts

  abbrev run : Run
  run = record { first = cut.start; last = end - 1; owner = cut.owner }

  next : IsNextRun cut.start (IsOwner file) swept.list run
  next =
      let some = swept.up.0.some in
      record {
        begins = refl;
        proper = omega arith;
        owned = λ byte inside. swept.up.0.owned byte inside.0 (omega (arith, inside.1));
        apart = swept.apart;
      }

  longer : AreRunsTo end (IsOwner file) (swept.list ++ run ∷ [])
  longer = pushed cut.start (IsOwner file) swept.list run swept.runs_are next end (omega (arith, swept.up.0.some))

  start_more : (k : ℕ) → k < place + 1
      → slice_index (set starts place cut.start) k ≡ (run_at end (swept.list ++ run ∷ []) k).first
  start_more k below = elim (cases_lt k place) [
    | inl lt ↦ let other : k ≢ place = omega arith in
        rw get_or-set_other (swept.starts_are k lt
        ∙ sym (old_start cut.start end swept.list run refl k (omega (arith, swept.count))))
    | inr le ↦
        let here : k ≡ place = omega arith in
        let within : place < length starts = omega (arith, swept.room, swept.long) in
        rw here (rw get_or-set_same (sym (ap (λ (r : Run). r.first)
        (new_run cut.start end swept.list run place swept.count))))
  ]

  row_more : (k : ℕ) → k < place + 1
      → IsRow file (run_at end (swept.list ++ run ∷ []) k).owner (row_at (set rows place row) k)
  row_more k below = elim (cases_lt k place) [
    | inl lt ↦
        let other : k ≢ place = omega arith in
        let same : run_at end (swept.list ++ run ∷ []) k ≡ run_at cut.start swept.list k =
        old_run cut.start end swept.list run k (omega (arith, swept.count)) in
        rw same (rw get_or-set_other (swept.rows_are k lt))
    | inr le ↦
        let here : k ≡ place = omega arith in
        let within : place < length rows = omega (arith, swept.room, swept.wide) in
        let same : run_at end (swept.list ++ run ∷ []) place ≡ run =
        new_run cut.start end swept.list run place swept.count in
        rw here (rw same (rw get_or-set_same is))
  ]

  pub one_more : IsSweptTo file (set starts place cut.start) (set rows place row) cuts (place + 1)
  one_more = record {
    up = swept.up.2;
    list = swept.list ++ run ∷ [];
    runs_are = longer;
    apart = λ k last. rw (last_pushed cut.start (IsOwner file) swept.list run swept.runs_are next end k last) swept.up.1;
    count = omega (arith, swept.count, length_pushed cut.start end swept.list run);
    room = omega (arith, swept.room);
    starts_are = start_more;
    rows_are = row_more;
    long = simp length-set swept.long;
    wide = simp length-set swept.wide;
  }

-- a place past the last run may hold anything
pub padded_swept : (file : RegisterFile) (starts : List ℕ) (rows : List (List ℕ)) (cuts : List Cut) (place k value : ℕ)
    → place ≤ k → IsSweptTo file starts rows cuts place → IsSweptTo file (set starts k value) rows cuts place
padded_swept file starts rows cuts place k value past swept = record {
  up = swept.up;
  list = swept.list;
  runs_are = swept.runs_are;
  apart = swept.apart;
  count = swept.count;
  room = swept.room;
  starts_are = λ j below. let other : j ≢ k = omega arith in rw get_or-set_other (swept.starts_are j below);
  rows_are = swept.rows_are;
  long = simp length-set swept.long;
  wide = swept.wide;
}

pub swept_tables : (file : RegisterFile) → IsLegal file → (tables : Tables) (place : ℕ) → tables.runs ≡ place
    → IsSweptTo file tables.starts tables.rows [] place
    → ((k : ℕ) → place ≤ k → k < PLACES → slice_index tables.starts k ≡ ADDRESS_LIMIT) → AreTables file tables
swept_tables file legal tables place runs swept padded = record {
  list = swept.list;
  legal = legal;
  runs_are = swept.runs_are;
  few = omega (arith, swept.room, swept.count);
  count = omega (arith, swept.count);
  starts_are = λ k inside. elim (cases_lt k place) [
    | inl lt ↦ swept.starts_are k lt
    | inr le ↦ padded k le inside ∙ sym (start_past ADDRESS_LIMIT swept.list k (omega (arith, swept.count)))
  ];
  rows_are = λ k inside. swept.rows_are k (omega (arith, swept.count));
}
