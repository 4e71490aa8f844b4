-- The first fault of a trace's rows is that of the least faulty row, and rows without a fault are in order.
use Rattle.std.proofs.Common.{◌≡◌, ℕ, zero, suc, ◌+◌, ◌≤◌, Bool, true, false, cond, List, [], ◌∷◌, length}
use Rattle.std.proofs.Common.{Option, Some, None, Result, Ok, Err, refl, ap, ◌∙◌, arith}
use Rattle.std.specs.Prelude.{filter_map, nat_lt, option_map, option_and_then, slice_get, unwrap_or}
use Rattle.std.specs.Option.{option_or}
use Rattle.std.proofs.lemmas.Bool.{ltb-false}
use Rattle.pmp_core.specs.Access.{access_fault}
use Rattle.pmp_text.specs.declared.trace.row_fields.RowFields.{RowFields}
use Rattle.pmp_text.specs.declared.flaw.Flaw.{Flaw}
use Rattle.pmp_text.specs.declared.refusal.Refusal.TheVariants.{BadAfter, BadHeader, Order, TooLong}
use Rattle.pmp_text.specs.declared.fault.Fault.{Fault}
use Rattle.pmp_text.specs.Faults.{IsLeastFault}
use Rattle.pmp_text.specs.Moments.{KnownMoments}
use Rattle.pmp_text.specs.Tables.{fault_or_rows, records_of}
use Rattle.pmp_text.specs.Traces.{access_flaw, after_of, falls_behind, fields_fault, row_in}
use Rattle.pmp_text.specs.Traces.{first_row_fault, is_header, records_meaning, row_fault, row_of_record}
use Rattle.pmp_text.specs.Traces.{rows_meaning, trace_meaning}
use Rattle.pmp_text.specs.TraceFaults.{after_before, row_fault_at, IsInOrder, afters}
use Rattle.pmp_text.specs.declared.trace.reader.TheConstants.{MAX_TRACE}
use Rattle.pmp_text.proofs.LeastFaults.{Judges, judged_here, judged_as, the_first}
use Rattle.pmp_text.proofs.Rows.{by_records, this_header, trace_is}
use Rattle.pmp_text.specs.Flaws.{at_row, part, as_whole}
use Rattle.pmp_text.specs.declared.fault.Source.TheVariants as source

abbrev pub Records : Type 0
Records = List (List (List ℕ))

module _ (moments : KnownMoments) where
  -- the fault of a row behind one that asks for `last`, the first with this number
  abbrev fault_behind : (last : Option ℕ) (number : ℕ) → Records → ℕ → Option Fault
  fault_behind last number rows index = option_and_then {T = List (List ℕ)} {U = Fault}
      (λ row. option_map (at_row source.Trace (number + index)) (row_fault moments.publications
      (after_before moments last rows index) (row_in moments row))) (slice_get rows index)

  one_behind : (last : Option ℕ) (number : ℕ) (row : List (List ℕ)) (more : Records) (index : ℕ)
      → fault_behind last number (row ∷ more) (suc index)
      ≡ fault_behind (after_of (row_of_record moments row)) (number + 1) more index
  one_behind last number row more zero =
      let same : number + 1 ≡ number + 1 + 0 = omega arith in
      ap (λ (n : ℕ). option_and_then {T = List (List ℕ)} {U = Fault}
      (λ next. option_map (at_row source.Trace n) (row_fault moments.publications (after_of (row_of_record moments row))
      (row_in moments next)))
      (slice_get more 0)) same
  one_behind last number row more (suc index) =
      let same : number + suc (suc index) ≡ number + 1 + suc index = omega arith in
      ap (λ (n : ℕ). option_and_then {T = List (List ℕ)} {U = Fault}
      (λ next. option_map (at_row source.Trace n) (row_fault moments.publications
      (after_before moments last (row ∷ more) (suc (suc index)))
      (row_in moments next))) (slice_get more (suc index))) same

  here : (last : Option ℕ) (number : ℕ) (row : List (List ℕ)) (more : Records)
      → fault_behind last number (row ∷ more) 0 ≡ option_map (at_row source.Trace number)
      (row_fault moments.publications last (row_in moments row))
  here last number row more = let same : number + 0 ≡ number = omega arith in
      ap (λ (n : ℕ). option_map (at_row source.Trace n) (row_fault moments.publications last (row_in moments row))) same

  judged_behind : (rows : Records) (last : Option ℕ) (number : ℕ)
      → Judges (fault_behind last number rows) (first_row_fault moments last number rows)
  judged_behind [] = λ last number index. refl
  judged_behind (row ∷ more) = λ last number.
      judged_here (fault_behind last number (row ∷ more))
      (fault_behind (after_of (row_of_record moments row)) (number + 1) more) (one_behind last number row more)
      (option_map (at_row source.Trace number) (row_fault moments.publications last (row_in moments row)))
      (first_row_fault moments (after_of (row_of_record moments row)) (number + 1) more) (here last number row more)
      (judged_behind more (after_of (row_of_record moments row)) (number + 1))

  counted_from_one : (rows : Records) (index : ℕ)
      → row_fault_at moments rows index ≡ fault_behind None 1 rows index
  counted_from_one rows index =
      let same : index + 1 ≡ 1 + index = omega arith in
      ap (λ (n : ℕ). option_and_then {T = List (List ℕ)} {U = Fault}
      (λ row. option_map (at_row source.Trace n) (row_fault moments.publications (after_before moments None rows index)
      (row_in moments row)))
      (slice_get rows index)) same

  pub first_row_is_least : (rows : Records)
      → Judges (row_fault_at moments rows) (first_row_fault moments None 1 rows)
  first_row_is_least rows = judged_as (fault_behind None 1 rows) (row_fault_at moments rows)
      (first_row_fault moments None 1 rows) (counted_from_one rows) (judged_behind rows None 1)

  pub least_row_is_answered : (text : List ℕ) (header : List (List ℕ)) (rows : Records) (fault : Fault)
      → length text ≤ MAX_TRACE → records_of text ≡ header ∷ rows → is_header header ≡ true
      → IsLeastFault (row_fault_at moments rows) fault → trace_meaning moments text ≡ Err fault
  least_row_is_answered text header rows fault short records named least =
      trace_is moments text ∙ by_records source.Trace is_header (rows_meaning moments) text short
      ∙ this_header source.Trace is_header (rows_meaning moments) (records_of text) header rows records named
      ∙ ap (λ (first : Option Fault). fault_or_rows first (filter_map (row_of_record moments) rows))
      (the_first (row_fault_at moments rows) (first_row_fault moments None 1 rows) fault
      (first_row_is_least rows) least)

  -- ---- order

  abbrev pub least_of : Option ℕ → ℕ
  least_of last = unwrap_or last 0

  not_behind : (last : Option ℕ) (after : ℕ) → falls_behind last after ≡ false → least_of last ≤ after
  not_behind None after e = omega arith
  not_behind (Some last) after e = ltb-false after last e

  no_fault : (own later : Option Fault) → option_or own later ≡ None → (own ≡ None) × (later ≡ None)
  no_fault None later e = (refl, e)
  no_fault (Some fault) later e = absurd cc

  no_kind : (number : ℕ) (kind : Option Flaw) → option_map (at_row source.Trace number) kind ≡ None → kind ≡ None
  no_kind number None e = refl
  no_kind number (Some kind) e = absurd cc

  module _ (last : Option ℕ) (row : RowFields) where
    in_time : (beyond behind : Bool) → nat_lt moments.publications row.after ≡ beyond → falls_behind last row.after
        ≡ behind
        → cond beyond (Some (part 0 BadAfter)) (cond behind (Some (part 0 Order)) (option_map access_flaw (access_fault row.start row.length)))
        ≡ None → (least_of last ≤ row.after) × (row.after ≤ moments.publications)
    in_time true behind e f fine = absurd cc
    in_time false true e f fine = absurd cc
    in_time false false e f fine = (not_behind last row.after f, ltb-false moments.publications row.after e)

  pub rows_in_order : (rows : Records) (last : Option ℕ) (number : ℕ)
      → first_row_fault moments last number rows ≡ None
      → IsInOrder moments.publications (least_of last) (afters (filter_map (row_of_record moments) rows))
  rows_in_order [] = λ last number e. tt
  rows_in_order (row ∷ more) = λ last number e. by (row_in moments row) refl last number e (rows_in_order more)
    where
      by : (said : Result RowFields Flaw) → row_in moments row ≡ said → (last : Option ℕ) (number : ℕ)
          → first_row_fault moments last number (row ∷ more) ≡ None
          → ((last : Option ℕ) (number : ℕ) → first_row_fault moments last number more ≡ None
          → IsInOrder moments.publications (least_of last) (afters (filter_map (row_of_record moments) more)))
          → IsInOrder moments.publications (least_of last) (afters (filter_map (row_of_record moments) (row ∷ more)))
      by (Err flaw) says last number e later =
          let own : Some flaw ≡ None = no_kind number (Some flaw)
          (no_fault (Some (at_row source.Trace number flaw)) (first_row_fault moments None (number + 1) more)
          (rw says at e)).0 in
          absurd cc
      by (Ok fields) says last number e later =
          let (own, rest) = no_fault (option_map (at_row source.Trace number) (fields_fault moments.publications last fields))
          (first_row_fault moments (Some fields.after) (number + 1) more) (rw says at e) in
          let time = in_time last fields (nat_lt moments.publications fields.after)
          (falls_behind last fields.after) refl refl
          (no_kind number (fields_fault moments.publications last fields) own) in
          rw says (time.0, time.1, later (Some fields.after) (number + 1) rest)

  judged_ok : (first : Option Fault) (said rows : List RowFields) → fault_or_rows first said ≡ Ok rows
      → (first ≡ None) × (said ≡ rows)
  judged_ok None said rows e = let same : said ≡ rows = cc in (refl, same)
  judged_ok (Some fault) said rows e = absurd cc

  module _ (rows : List RowFields) where
    from_rows : (records : Records) → rows_meaning moments records ≡ Ok rows
        → IsInOrder moments.publications 0 (afters rows)
    from_rows records e =
        let (first, same) = judged_ok (first_row_fault moments None 1 records) (filter_map
        (row_of_record moments) records)
        rows e in
        rw (← same) (rows_in_order records None 1 first)

    from_header : (named : Bool) (records : Records)
        → cond named (rows_meaning moments records) (Err (at_row source.Trace 0 (as_whole BadHeader))) ≡ Ok rows
        → IsInOrder moments.publications 0 (afters rows)
    from_header true records e = from_rows records e
    from_header false records e = absurd cc

    from_records : (records : Records) → records_meaning moments records ≡ Ok rows
        → IsInOrder moments.publications 0 (afters rows)
    from_records [] e = absurd cc
    from_records (header ∷ records) e = from_header (is_header header) records e

    from_text : (long : Bool) (text : List ℕ)
        → cond long (Err (at_row source.Trace 0 (as_whole TooLong))) (records_meaning moments (records_of text)) ≡ Ok rows
        → IsInOrder moments.publications 0 (afters rows)
    from_text true text e = absurd cc
    from_text false text e = from_records (records_of text) e

    pub trace_in_order : (text : List ℕ) → trace_meaning moments text ≡ Ok rows
        → IsInOrder moments.publications 0 (afters rows)
    unfolding trace_meaning
    trace_in_order text e = from_text (nat_lt MAX_TRACE (length text)) text e
