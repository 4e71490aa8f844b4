-- A piece of a trace that is the whole of it.
use Rattle.std.proofs.Common.{◌≡◌, ◌⊎◌, ℕ, ◌+◌, ◌^◌, ◌<◌, ◌≤◌, Bool, true, false, cond, List, [], ◌∷◌, ◌++◌, length, map}
use Rattle.std.proofs.Common.{Option, Some, None, Ok, Err, refl, sym, ap, subst, ◌∙◌, inl, inr, arith, append_assoc}
use Rattle.std.proofs.Common.{append-nil}
use Rattle.std.proofs.lemmas.List.{length-append, map-append}
use Rattle.std.specs.Prelude.{filter_map}
use Rattle.pmp_text.specs.declared.refusal.Refusal.TheVariants.{BadHeader}
use Rattle.pmp_text.specs.declared.trace.TraceRow.{TraceRow}
use Rattle.pmp_text.specs.declared.fault.Fault.{Fault}
use Rattle.pmp_text.specs.declared.trace.rows.Position.{Position}
use Rattle.pmp_text.specs.declared.trace.reader.TheConstants.{MAX_TRACE}
use Rattle.pmp_text.specs.Flaws.{as_whole, at_row}
use Rattle.pmp_text.specs.LongTraces.{IsHeaded, Records, beginning, has_begun, long_meaning, long_rows_meaning}
use Rattle.pmp_text.specs.LongTraces.{piece_fault, row_records, too_long_for_rows}
use Rattle.pmp_text.specs.Moments.{KnownMoments}
use Rattle.pmp_text.specs.Outcomes.{no_memory}
use Rattle.pmp_text.specs.RowsLeft.{IsNextRow, IsOutOfNumbers, RowsLeft}
use Rattle.pmp_text.specs.Tables.{fault_or_rows, records_of}
use Rattle.pmp_text.specs.Traces.{first_row_fault, is_header, row_fault, row_fields, row_in, row_of_record, rows_meaning}
use Rattle.pmp_text.specs.Traces.{trace_meaning}
use Rattle.pmp_text.specs.declared.trace.row_fields.RowFields.{RowFields}
use Rattle.pmp_text.proofs.CutTexts.{few_records}
use Rattle.pmp_text.proofs.Rows.{by_records, trace_is}
use Rattle.pmp_text.specs.declared.fault.Source.TheVariants as source

-- the first fault of all records is what they mean
pub faulty_records : (moments : KnownMoments) (first : ℕ) (records : Records) (fault : Fault)
    → piece_fault moments (beginning first) records ≡ Some fault
    → long_meaning moments first records ≡ Err fault
faulty_records moments first [] fault e = absurd cc
faulty_records moments first (header ∷ rows) fault e = by (is_header header) e
  where
    by : (named : Bool)
        → cond named (first_row_fault moments None first rows) (Some (at_row source.Trace 0 (as_whole BadHeader))) ≡ Some fault
        → cond named (long_rows_meaning moments first rows) (Err (at_row source.Trace 0 (as_whole BadHeader))) ≡ Err fault
    by true e = ap (λ (f : Option Fault). fault_or_rows f (filter_map (row_of_record moments) rows)) e
    by false e = let same : at_row source.Trace 0 (as_whole BadHeader) ≡ fault = cc in ap Err same

pub fine_records : (moments : KnownMoments) (first : ℕ) (records : Records)
    → piece_fault moments (beginning first) records ≡ None → has_begun false records ≡ true
    → long_meaning moments first records ≡ Ok (filter_map (row_of_record moments) (row_records false records))
fine_records moments first [] e begun = absurd cc
fine_records moments first (header ∷ rows) e begun = by (is_header header) e
  where
    by : (named : Bool)
        → cond named (first_row_fault moments None first rows) (Some (at_row source.Trace 0 (as_whole BadHeader))) ≡ None
        → cond named (long_rows_meaning moments first rows) (Err (at_row source.Trace 0 (as_whole BadHeader)))
        ≡ Ok (filter_map (row_of_record moments) rows)
    by true e = ap (λ (f : Option Fault). fault_or_rows f (filter_map (row_of_record moments) rows)) e
    by false e = absurd cc

pub no_records : (records : Records) → has_begun false records ≡ false → records ≡ []
no_records [] e = refl
no_records (header ∷ rows) e = absurd cc

pub fewer_rows : (begun : Bool) (records : Records) → length (row_records begun records) ≤ length records
fewer_rows true records = omega arith
fewer_rows false [] = omega arith
fewer_rows false (header ∷ rows) = omega arith

-- these rows were read of some records, and these are left
pub record ReadSoFar (moments : KnownMoments) (first : ℕ) (all : Records) (rows : List TraceRow)
    (left : RowsLeft) : Type 0 where
  pub same : left.moments ≡ moments
  pub fault : first_row_fault moments None first all
      ≡ first_row_fault moments left.place.last left.place.next left.records
  pub said : filter_map (row_of_record moments) all ≡ map row_fields rows ++ filter_map
      (row_of_record moments) left.records
  pub count : first + length all ≡ left.place.next + length left.records

pub none_read : (left : RowsLeft) → left.place.last ≡ None
    → ReadSoFar left.moments left.place.next left.records [] left
none_read left first = record {
  same = refl;
  fault = ap (λ (last : Option ℕ). first_row_fault left.moments last left.place.next left.records) (sym first);
  said = refl;
  count = refl;
}

pub one_row_more : (moments : KnownMoments) (first : ℕ) (all : Records) (rows : List TraceRow) (before after : RowsLeft)
    (row : TraceRow)
    → ReadSoFar moments first all rows before → IsNextRow before row after
    → ReadSoFar moments first all (rows ++ row ∷ []) after
one_row_more moments first all rows before after row read is =
    let here = first_row_fault moments before.place.last before.place.next in
    let fine : row_fault moments.publications before.place.last (row_in moments is.fields) ≡ None =
    subst (λ (m : KnownMoments). row_fault m.publications before.place.last (row_in m is.fields)
    ≡ None) read.same is.fine
    in
    let said : row_in moments is.fields ≡ Ok (row_fields row) =
    subst (λ (m : KnownMoments). row_in m is.fields ≡ Ok (row_fields row)) read.same is.said in
    let later : here (is.fields ∷ after.records)
    ≡ first_row_fault moments (Some row.after) (before.place.next + 1) after.records =
    rw (fine, said) refl in
    let others = filter_map (row_of_record moments) after.records in
    let row_said : filter_map (row_of_record moments) (is.fields ∷ after.records) ≡ row_fields row ∷ others =
    rw said refl in
    record {
      same = is.moments ∙ read.same;
      fault = read.fault ∙ ap here is.next ∙ later
          ∙ ap (λ (p : Position). first_row_fault moments p.last p.next after.records) (sym is.place);
      said = read.said ∙ ap (λ (l : Records). map row_fields rows ++ filter_map (row_of_record moments) l) is.next
          ∙ ap (λ (l : List RowFields). map row_fields rows ++ l) row_said
          ∙ sym (ap (λ (l : List RowFields). l ++ others) (map-append row_fields rows (row ∷ []))
          ∙ append_assoc (map row_fields rows) (row_fields row ∷ []) others);
      count =
          let number : after.place.next ≡ before.place.next + 1 = ap (λ (p : Position). p.next) is.place in
          let size = ap (λ (l : Records). length l) is.next in
          let count = read.count in
          omega arith;
    }

-- the rows are read to their end, or to a fault
module _ (moments : KnownMoments) (first : ℕ) (all : Records) (numbered : first + length all < 2 ^ 64) (rows : List TraceRow)
    (left : RowsLeft) (read : ReadSoFar moments first all rows left) where
  pub with_rows : left.records ≡ [] → long_rows_meaning moments first all ≡ Ok (map row_fields rows)
  with_rows none =
      let fine = read.fault ∙ ap (first_row_fault moments left.place.last left.place.next) none in
      let said = read.said ∙ ap (λ (l : Records). map row_fields rows ++ filter_map (row_of_record moments) l) none
      ∙ append-nil (map row_fields rows) in
      ap (λ (f : Option Fault). fault_or_rows f (filter_map (row_of_record moments) all)) fine ∙ ap Ok said

  pub not_read : (fault : Fault)
      → (first_row_fault left.moments left.place.last left.place.next left.records ≡ Some fault)
      ⊎ (fault ≡ no_memory)
      ⊎ ((fault ≡ too_long_for_rows) × IsOutOfNumbers left)
      → (long_rows_meaning moments first all ≡ Err fault) ⊎ (fault ≡ no_memory)
  not_read fault (inl e) =
      let found = read.fault ∙ rw read.same at e in
      inl (ap (λ (f : Option Fault). fault_or_rows f (filter_map (row_of_record moments) all)) found)
  not_read fault (inr (inl memory)) = inr memory
  not_read fault (inr (inr (long, out))) =
      let count = read.count in
      let size = ap (λ (l : Records). length l) out.next in
      let many = out.many in
      absurd (omega arith)

-- the rows behind a header mean what the records do
behind_is : (moments : KnownMoments) (first : ℕ) (records : Records) → has_begun false records ≡ true
    → IsHeaded false records → long_meaning moments first records
    ≡ long_rows_meaning moments first (row_records false records)
behind_is moments first [] begun headed = absurd cc
behind_is moments first (header ∷ rows) begun headed = rw headed refl

module _ (moments : KnownMoments) (text : List ℕ) (short : length text ≤ MAX_TRACE) where
  pub meaning_is : trace_meaning moments text ≡ long_meaning moments 1 (records_of text)
  meaning_is = trace_is moments text ∙ by_records source.Trace is_header (rows_meaning moments) text short

  abbrev all : Records
  all = records_of text

  pub without_header : has_begun false all ≡ false
      → trace_meaning moments text ≡ Err (at_row source.Trace 0 (as_whole BadHeader))
  without_header begun = meaning_is ∙ ap (long_meaning moments 1) (no_records all begun)

  pub found : (fault : Fault) → piece_fault moments (beginning 1) all ≡ Some fault
      → trace_meaning moments text ≡ Err fault
  found fault e = meaning_is ∙ faulty_records moments 1 all fault e

  pub not_opened : (fault : Fault) → (piece_fault moments (beginning 1) all ≡ Some fault)
      ⊎ (fault ≡ no_memory)
      → (trace_meaning moments text ≡ Err fault) ⊎ (fault ≡ no_memory)
  not_opened fault (inl e) = inl (found fault e)
  not_opened fault (inr refused) = inr refused

  -- numbers do for the rows of a short trace
  pub few_rows : (front behind : Records) → all ≡ front ++ behind → 2 ^ 64 ≤ 1 + length (row_records false front) → ⊥
  few_rows front behind are many =
      let few = few_records text in
      let size : length all ≡ length (front ++ behind) = ap (λ (l : Records). length l) are in
      let both = length-append front behind in
      let fewer = fewer_rows false front in
      let limit = short in
      omega arith

  pub behind_header : has_begun false all ≡ true → IsHeaded false all
      → trace_meaning moments text ≡ long_rows_meaning moments 1 (row_records false all)
  behind_header begun headed = meaning_is ∙ behind_is moments 1 all begun headed
