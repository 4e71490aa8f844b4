-- The rows of events, written one by one.
use Rattle.std.proofs.Common.{◌≡◌, ℕ, suc, cond, ◌+◌, ◌<◌, min, List, [], ◌∷◌, ◌++◌, length}
use Rattle.std.proofs.Common.{map, take, get_or}
use Rattle.std.proofs.Common.{refl, sym, ap, ◌∙◌, append_assoc, arith}
use Rattle.std.specs.List.{count_by, enumerate_from, slice_index_or, zip}
use Rattle.std.proofs.lemmas.List.{take_all, take_more, take-append-le, length-append}
use Rattle.std.proofs.lemmas.List.{length_push, length-map, get_or-map}
use Rattle.std.proofs.lemmas.List.Sums.{sum_by-cons}
use Rattle.std.proofs.lemmas.Slice.Zip.{length-zip, get_or-zip}
use Rattle.pmp_core.specs.declared.event.Event.{Event}
use Rattle.pmp_core.specs.RegisterFile.{RegisterFile}
use Rattle.pmp_core.specs.RegisterWrite.{step}
use Rattle.pmp_text.specs.Cells.{RowValue}
use Rattle.pmp_text.specs.Contents.{ScriptContents}
use Rattle.pmp_text.specs.Effects.{effect_row}
use Rattle.pmp_lint.proofs.Growing.{of_range_more}
use Rattle.pmp_audit.specs.declared.write_list.EventSummary.{EventSummary}
use Rattle.pmp_audit.specs.WriteList.{PlacedEvent, placed, events_of, file_before, event_rows, has_fault}
use Rattle.pmp_audit.specs.WriteList.{event_summary}
use Rattle.pmp_audit.specs.EventRows.{file_left, rows_from, turned_from, Written, AreWritten}

-- ---- more events

rows-append : (number : ℕ) (file : RegisterFile) (xs ys : List PlacedEvent)
    → rows_from number file (xs ++ ys)
    ≡ rows_from number file xs ++ rows_from (number + length xs) (file_left file xs) ys
rows-append number file [] ys = let same : number ≡ number + 0 = omega arith in
    ap (λ (n : ℕ). rows_from n file ys) same
rows-append number file (it ∷ xs) ys =
    let row = effect_row (record { number = number; publication = it.publication; line = it.line }) file it.event in
    let next = step file it.event in
    let front = rows_from (number + 1) next xs in
    let same : number + 1 + length xs ≡ number + suc (length xs) = omega arith in
    ap (λ (l : List RowValue). row ∷ l) (rows-append (number + 1) next xs ys
    ∙ ap (λ (n : ℕ). front ++ rows_from n (file_left next xs) ys) same)

left-append : (file : RegisterFile) (xs ys : List PlacedEvent)
    → file_left file (xs ++ ys) ≡ file_left (file_left file xs) ys
left-append file [] ys = refl
left-append file (it ∷ xs) ys = left-append (step file it.event) xs ys

turned-append : (accepted : List ℕ) (file : RegisterFile) (xs ys : List PlacedEvent)
    → turned_from accepted file (xs ++ ys)
    ≡ turned_from accepted file xs + turned_from accepted (file_left file xs) ys
turned-append accepted file [] ys = omega arith
turned-append accepted file (it ∷ xs) ys =
    let rest = turned-append accepted (step file it.event) xs ys in omega arith

module _ {A : Type 0} (Adds : List RowValue → A → A → Type 0)
    (both : (one other : List RowValue) (first second third : A) → Adds one first second → Adds other second third
    → Adds (one ++ other) first third) where
  pub written_then : (accepted : List ℕ) (from mid to : Written A) (xs ys : List PlacedEvent)
      → AreWritten Adds accepted from mid xs → AreWritten Adds accepted mid to ys
      → AreWritten Adds accepted from to (xs ++ ys)
  written_then accepted from mid to xs ys first second =
      let n = from.summary.events + 1 in
      let number : mid.summary.events + 1 ≡ n + length xs = let c = first.counted in omega arith in
      record {
        added = rw (rows-append n from.file xs ys)
            (both _ _ _ _ _ first.added (rw (number, first.file_is) at second.added));
        file_is = second.file_is ∙ ap (λ (file : RegisterFile). file_left file ys) first.file_is
            ∙ sym (left-append from.file xs ys);
        counted = omega (arith, first.counted, second.counted, length-append xs ys);
        turned =
            let one = first.turned in
            let two = second.turned ∙ ap (λ (file : RegisterFile). mid.summary.not_stored + turned_from accepted file ys)
            first.file_is in
            let both = turned-append accepted from.file xs ys in
            omega arith;
      }

pub one_written : {A : Type 0} (Adds : List RowValue → A → A → Type 0) (accepted : List ℕ) (from to : Written A)
    (it : PlacedEvent) → Adds (effect_row (record {
      number = from.summary.events + 1;
      publication = it.publication;
      line = it.line;
    }) from.file it.event ∷ []) from.rows to.rows → to.file ≡ step from.file it.event
    → to.summary.events ≡ from.summary.events + 1
    → to.summary.not_stored ≡ from.summary.not_stored + cond (has_fault accepted from.file it.line it.event) 1 0
    → AreWritten Adds accepted from to (it ∷ [])
one_written Adds accepted from to it row file counted turned = record {
  added = row;
  file_is = file;
  counted = counted;
  turned = turned ∙ ap (λ (m : ℕ). from.summary.not_stored + m) (omega arith);
}

-- ---- by places

module _ (start : RegisterFile) where
  abbrev row_at : List PlacedEvent → (k : ℕ) → PlacedEvent → RowValue
  row_at events k it = effect_row (record {
    number = k + 1;
    publication = it.publication;
    line = it.line;
  }) (file_before start events k) it.event

  there : (before rest : List PlacedEvent) (it : PlacedEvent)
      → file_before start (before ++ it ∷ rest) (length before) ≡ file_left start before
  there before rest it =
      ap (file_left start) (take-append-le (length before) before (it ∷ rest) (omega arith)
      ∙ take_all (length before) before (omega arith))

  module _ (it : PlacedEvent) (before rest : List PlacedEvent) where
    moved : (before ++ it ∷ []) ++ rest ≡ before ++ it ∷ rest
    moved = append_assoc before (it ∷ []) rest

    next_file : file_left start (before ++ it ∷ []) ≡ step (file_left start before) it.event
    next_file = left-append start before (it ∷ [])

  rows_by_place : (before rest : List PlacedEvent)
      → map (λ (k, it). row_at (before ++ rest) k it) (enumerate_from (length before) rest)
      ≡ rows_from (length before + 1) (file_left start before) rest
  rows_by_place before [] = refl
  rows_by_place before (it ∷ rest) =
      let all = before ++ it ∷ rest in
      let file = file_left start before in
      let row : RegisterFile → RowValue = λ f. effect_row (record {
        number = length before + 1;
        publication = it.publication;
        line = it.line;
      }) f it.event in
      let tail : map (λ (k, x). row_at all k x) (enumerate_from (length before + 1) rest)
      ≡ rows_from (length before + 1 + 1) (step file it.event) rest =
      rw (moved it before rest, length_push before it, next_file it before rest) at
      (rows_by_place (before ++ it ∷ []) rest) in
      ap (λ (f : RegisterFile). row f
      ∷ map (λ (k, x). row_at all k x) (enumerate_from (length before + 1) rest)) (there before rest it)
      ∙ ap (λ (l : List RowValue). row file ∷ l) tail

  turned_by_place : (accepted : List ℕ) (before rest : List PlacedEvent)
      → count_by (λ (k, it). has_fault accepted (file_before start (before ++ rest) k) it.line it.event)
      (enumerate_from (length before) rest)
      ≡ turned_from accepted (file_left start before) rest
  turned_by_place accepted before [] = refl
  turned_by_place accepted before (it ∷ rest) =
      let all = before ++ it ∷ rest in
      let file = file_left start before in
      let more = count_by (λ (k, x). has_fault accepted (file_before start all k) x.line x.event)
      (enumerate_from (length before + 1) rest) in
      let tail : more ≡ turned_from accepted (step file it.event) rest =
      rw (moved it before rest, length_push before it, next_file it before rest) at
      (turned_by_place accepted (before ++ it ∷ []) rest) in
      sum_by-cons (λ (k, x). cond (has_fault accepted (file_before start all k) x.line x.event) 1 0)
      (length before, it) (enumerate_from (length before + 1) rest)
      ∙ ap (λ (f : RegisterFile). cond (has_fault accepted f it.line it.event) 1 0 + more) (there before rest it)
      ∙ ap (λ (m : ℕ). cond (has_fault accepted file it.line it.event) 1 0 + m) tail

  pub rows_all : (events : List PlacedEvent) → rows_from 1 start events ≡ event_rows start events
  unfolding event_rows
  rows_all events = sym (rows_by_place [] events)

  pub summary_all : (accepted : List ℕ) (events : List PlacedEvent) (summary : EventSummary)
      → summary.events ≡ 0 + length events → summary.not_stored ≡ 0 + turned_from accepted start events
      → summary ≡ event_summary accepted start events
  unfolding event_summary
  summary_all accepted events summary all_counted all_turned =
      let counted : summary.events ≡ length events = omega arith in
      let turned : summary.not_stored ≡ turned_from accepted start events = omega arith in
      ap (λ (m : ℕ). record { events = m; not_stored = summary.not_stored }) counted
      ∙ ap (λ (m : ℕ). record { events = length events; not_stored = m })
      (turned ∙ sym (turned_by_place accepted [] events))

-- ---- the events of a publication

module _ (publication : ℕ) (lines : List ℕ) (events : List Event) where
  abbrev at : ℕ × Event → PlacedEvent
  at (line, event) = record { publication = publication; line = line; event = event }

  pub length-placed : length (placed publication lines events) ≡ min (length lines) (length events)
  unfolding placed
  length-placed = length-map (zip lines events) at ∙ length-zip lines events

  pub placed_more : (k line : ℕ) (event : Event) → k < length lines → k < length events
      → ((d : ℕ) → line ≡ get_or lines k d) → ((d : Event) → event ≡ get_or events k d)
      → take (k + 1) (placed publication lines events) ≡ take k (placed publication lines events)
      ++ record { publication = publication; line = line; event = event } ∷ []
  unfolding placed
  placed_more k line event in_lines in_events the_line the_event =
      let pairs : List (ℕ × Event) = zip lines events in
      let pair_count = length-zip lines events in
      let count = length-placed in
      let it = at (line, event) in
      take_more (placed publication lines events) k it (omega arith)
      ∙ ap (λ (x : PlacedEvent). take k (placed publication lines events) ++ x ∷ [])
      (get_or-map at pairs k (line, event) it (omega arith)
      ∙ ap at (get_or-zip lines events k (line, event) in_lines in_events)
      ∙ ap (λ (l : ℕ). at (l, get_or events k event)) (sym (the_line line))
      ∙ ap (λ (e : Event). at (line, e)) (sym (the_event event)))

  pub all_placed : (k : ℕ) → k ≡ min (length lines) (length events)
      → take k (placed publication lines events) ≡ placed publication lines events
  all_placed k all = take_all k (placed publication lines events) (let n = length-placed in omega arith)

-- ---- publication by publication

pub events_more : (script : ScriptContents) (index : ℕ)
    → events_of script (index + 1) ≡ events_of script index
    ++ placed (index + 1) (slice_index_or script.lines index []) (slice_index_or script.batches index [])
events_more script index =
    of_range_more (λ i. placed (i + 1) (slice_index_or script.lines i []) (slice_index_or script.batches i [])) index
