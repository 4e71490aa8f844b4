-- The report of a piece, one row after another.
use Rattle.std.proofs.Common.{◌≡◌, ◌⊎◌, ℕ, ◌+◌, ◌≤◌, Bool, true, false, cond, List, [], ◌∷◌}
use Rattle.std.proofs.Common.{◌++◌, length, Option, Some, None, Ok, refl, sym, ap, ◌∙◌, inl, inr, append_assoc}
use Rattle.std.proofs.Common.{append-nil, arith, subst}
use Rattle.std.specs.Prelude.{IfErr, IfOk, Result, Err, filter_map}
use Rattle.std.specs.Option.{option_or}
use Rattle.std.proofs.lemmas.List.{length-append}
use Rattle.pmp_core.specs.declared.decision.Decision.{Decision}
use Rattle.pmp_text.specs.declared.trace.TraceRow.{TraceRow}
use Rattle.pmp_text.specs.declared.fault.Fault.{Fault}
use Rattle.pmp_text.specs.declared.trace.rows.Position.{Position}
use Rattle.pmp_text.specs.Contents.{ScriptContents}
use Rattle.pmp_text.specs.LongTraces.{HasTooManyRows, IsHeaded, Records, first_fault_at, has_begun, is_bare_record}
use Rattle.pmp_text.specs.LongTraces.{piece_fault, place_behind, report_text_from, row_records, too_long_for_rows}
use Rattle.pmp_text.specs.Outcomes.{no_memory}
use Rattle.pmp_text.specs.Reports.{report_row}
use Rattle.pmp_text.specs.RowsLeft.{IsNextRow, IsOutOfNumbers, RowsLeft, place_after}
use Rattle.pmp_text.specs.Traces.{first_row_fault, row_fault, row_fields, row_in, row_of_record}
use Rattle.pmp_text.proofs.LeastRows.{least_of, rows_in_order}
use Rattle.pmp_text.specs.Moments.{KnownMoments, moments_in}
use Rattle.pmp_audit.specs.declared.piece.PieceReport.{PieceReport}
use Rattle.pmp_audit.specs.declared.standing.Standing.{Standing}
use Rattle.pmp_audit.specs.Report.{refused_count}
use Rattle.pmp_audit.specs.LongPieces.{IsPieceReported, IsReported, PieceFails}
use Rattle.pmp_audit.proofs.PieceTexts.{fault_behind, one_after, too_many_in_all}
use Rattle.pmp_audit.proofs.Reports.{Decides, refused-push}

-- some rows that stand there are reported, and these are left
pub record Reported (script : ScriptContents) (standing : Standing) (records : Records) (left : RowsLeft) (faults : ℕ)
    (text : List ℕ) : Type 0 where
  pub done : Records
  pub all : records ≡ done ++ left.records
  pub so_far : IsReported script done standing (record { place = left.place; faults = faults }) text
  pub same : left.moments ≡ moments_in script

-- ---- why a piece isn't reported

module _ (script : ScriptContents) (records : Records) (standing : Standing) (fault : Fault) where
  pub piece_fails : (piece_fault (moments_in script) standing.place records ≡ Some fault)
      ⊎ (fault ≡ no_memory)
      ⊎ ((fault ≡ too_long_for_rows) × HasTooManyRows (moments_in script) standing.place records)
      → PieceFails script records standing fault
  piece_fails (inl e) = inr (inl e)
  piece_fails (inr (inl memory)) = inl memory
  piece_fails (inr (inr many)) = inr (inr many)

-- ---- no row is left where no header was read

has_header : (begun : Bool) (records front : Records) (fields : List (List ℕ)) (behind : Records)
    → (begun ≡ false → records ≡ []) → records ≡ front ++ fields ∷ behind → begun ≡ true
has_header true records front fields behind header e = refl
has_header false records front fields behind header e =
    let none = ap (λ (l : Records). length l) (sym (header refl) ∙ e) in
    let some = length-append front (fields ∷ behind) in
    absurd (omega arith)

-- ---- before the first row

none_more : (number : ℕ) → number ≡ number + 0
none_more number = omega arith

or_none : (bare : Option ℕ) → bare ≡ option_or bare None
or_none None = refl
or_none (Some number) = refl

at_start : (moments : KnownMoments) (begun : Bool) (last : Option ℕ) (next : ℕ) (bare : Option ℕ)
    → record { begun = begun; last = last; next = next; bare = bare }
    ≡ place_behind moments (record { begun = begun; last = last; next = next; bare = bare }) []
at_start moments true last next bare =
    λ i. record { begun = true; last = last; next = none_more next i; bare = or_none bare i }
at_start moments false last next bare =
    λ i. record { begun = false; last = last; next = none_more next i; bare = or_none bare i }

no_fault : (moments : KnownMoments) (last : Option ℕ) (next : ℕ) (begun : Bool)
    → first_fault_at moments begun last next [] ≡ None
no_fault moments last next true = refl
no_fault moments last next false = refl

none_said : (moments : KnownMoments) (begun : Bool) → [] ≡ filter_map (row_of_record moments) (row_records begun [])
none_said moments true = refl
none_said moments false = refl

pub none_so_far : (script : ScriptContents) (old new : Standing) → new.place ≡ old.place → new.faults ≡ old.faults
    → IsReported script [] old new []
unfolding report_text_from
none_so_far script old new place faults =
    let at = old.place in record {
      report = record {
        fine = no_fault (moments_in script) at.last at.next at.begun;
        rows = [];
        decisions = [];
        said = none_said (moments_in script) at.begun;
        decided = tt;
        report = refl;
      };
      place = place ∙ at_start (moments_in script) at.begun at.last at.next at.bare;
      counted = faults ∙ none_more old.faults;
    }

pub none_reported : (script : ScriptContents) (standing : Standing) (left : RowsLeft) → left.place ≡ standing.place
    → left.moments ≡ moments_in script → Reported script standing left.records left standing.faults []
none_reported script standing left here same = record {
  done = [];
  all = refl;
  so_far = none_so_far script standing (record { place = left.place; faults = standing.faults }) here refl;
  same = same;
}

-- ---- one row more

row_place : (moments : KnownMoments) (place : Position) (fields : List (List ℕ)) (row : TraceRow) → place.begun ≡ true
    → row_in moments fields ≡ Ok (row_fields row) → place_after place row ≡ place_behind moments place (fields ∷ [])
row_place moments place fields row begun said = rw (begun, is_bare_record, said) refl

module _ {script : ScriptContents} {standing : Standing} {records : Records} {left : RowsLeft} {faults : ℕ}
    {text : List ℕ} (so_far : Reported script standing records left faults text)
    (header : standing.place.begun ≡ false → records ≡ []) where
  begun_before : (fields : List (List ℕ)) (behind : Records) → left.records ≡ fields ∷ behind
      → left.place.begun ≡ true
  begun_before fields behind e =
      let first = has_header standing.place.begun records so_far.done fields behind header
      (so_far.all ∙ ap (λ (l : Records). so_far.done ++ l) e) in
      ap (λ (p : Position). p.begun) so_far.so_far.place ∙ ap (λ (b : Bool). has_begun b so_far.done) first

  module _ {row : TraceRow} {after : RowsLeft} (is : IsNextRow left row after) where
    said_here : row_in (moments_in script) is.fields ≡ Ok (row_fields row)
    said_here = subst (λ (m : KnownMoments). row_in m is.fields ≡ Ok (row_fields row)) so_far.same is.said

    fault_here : row_fault (length script.batches) left.place.last (row_in (moments_in script) is.fields) ≡ None
    fault_here = subst (λ (m : KnownMoments). row_fault m.publications left.place.last (row_in m is.fields) ≡ None)
        so_far.same is.fine

    no_row_fault : first_row_fault (moments_in script) left.place.last left.place.next (is.fields ∷ []) ≡ None
    no_row_fault = rw fault_here refl

    -- it asks for no fewer publications than the row before, and for no more than there are
    pub in_order : (least_of (moments_in script) left.place.last ≤ row.after) × (row.after ≤ length script.batches)
    in_order =
        let order = rw said_here at
        (rows_in_order (moments_in script) (is.fields ∷ []) left.place.last left.place.next no_row_fault) in
        (order.0, order.1)

    pub last_is : after.place.last ≡ Some row.after
    last_is = ap (λ (p : Position). p.last) is.place

    begun : left.place.begun ≡ true
    begun = begun_before is.fields after.records is.next

    pub one_row : (decision : Decision) (written : List ℕ) (more : ℕ) → Decides script row decision
        → written ≡ text ++ report_row left.place.next row.access decision
        → more ≡ faults + cond decision.allowed 0 1 → Reported script standing records after more written
    unfolding report_text_from
    one_row decision written more by_bytes written_is more_is =
        let mid : Standing = record { place = left.place; faults = faults } in
        let line = report_row left.place.next row.access decision in
        let own : cond decision.allowed 0 1 ≡ refused_count (decision ∷ []) =
        let pushed = refused-push [] decision in omega arith in
        let one : IsReported script (is.fields ∷ []) mid (record { place = after.place; faults = more }) line = record {
          report = record {
            fine = rw begun no_row_fault;
            rows = row ∷ [];
            decisions = decision ∷ [];
            said = rw (begun, said_here) refl;
            decided = (by_bytes, tt);
            report = sym (append-nil line);
          };
          place = is.place ∙ row_place (moments_in script) left.place is.fields row begun said_here;
          counted = more_is ∙ ap (λ (n : ℕ). faults + n) own;
        } in
        record {
          done = so_far.done ++ is.fields ∷ [];
          all = so_far.all ∙ ap (λ (l : Records). so_far.done ++ l) is.next
              ∙ sym (append_assoc so_far.done (is.fields ∷ []) after.records);
          so_far = rw written_is (one_after so_far.so_far one);
          same = is.moments ∙ so_far.same;
        }

  -- ---- the end

  rows_alone : (begun : Bool) (rows : Records)
      → ((fields : List (List ℕ)) (behind : Records) → rows ≡ fields ∷ behind → begun ≡ true)
      → first_fault_at (moments_in script) begun left.place.last left.place.next rows
      ≡ first_row_fault (moments_in script) left.place.last left.place.next rows
  rows_alone true rows header = refl
  rows_alone false [] header = refl
  rows_alone false (fields ∷ behind) header =
      let absent : false ≡ true = header fields behind refl in absurd cc

  fault_left : piece_fault (moments_in script) standing.place records
      ≡ first_row_fault (moments_in script) left.place.last left.place.next left.records
  fault_left = ap (piece_fault (moments_in script) standing.place) so_far.all ∙ fault_behind so_far.so_far left.records
      ∙ rows_alone left.place.begun left.records begun_before

  pub all_reported : (behind : Standing) (written : List ℕ) → left.records ≡ [] → written ≡ text
      → behind ≡ record { place = left.place; faults = faults } → IsReported script records standing behind written
  all_reported behind written none texts is =
      let done : so_far.done ≡ records =
      sym (append-nil so_far.done) ∙ ap (λ (l : Records). so_far.done ++ l) (sym none) ∙ sym so_far.all in
      rw (texts, is, ← done) so_far.so_far

  too_many : IsOutOfNumbers left → HasTooManyRows (moments_in script) standing.place records
  too_many out =
      let moments = moments_in script in
      let begun = begun_before out.fields out.behind out.next in
      let fine : row_fault (length script.batches) left.place.last (row_in moments out.fields) ≡ None =
      subst (λ (m : KnownMoments). row_fault m.publications left.place.last (row_in m out.fields) ≡ None)
      so_far.same out.fine in
      let here : HasTooManyRows moments left.place left.records = record {
        front = out.fields ∷ [];
        behind = out.behind;
        are = out.next;
        fine = rw (begun, fine) refl;
        many = rw begun out.many;
      } in
      subst (HasTooManyRows moments standing.place) (sym so_far.all) (too_many_in_all so_far.so_far left.records here)

  pub row_fails : (fault : Fault)
      → (first_row_fault left.moments left.place.last left.place.next left.records ≡ Some fault)
      ⊎ (fault ≡ no_memory)
      ⊎ ((fault ≡ too_long_for_rows) × IsOutOfNumbers left)
      → PieceFails script records standing fault
  row_fails fault (inl e) = piece_fails script records standing fault (inl (fault_left
      ∙ subst (λ (m : KnownMoments). first_row_fault m left.place.last left.place.next left.records ≡ Some fault)
      so_far.same e))
  row_fails fault (inr (inl memory)) = piece_fails script records standing fault (inr (inl memory))
  row_fails fault (inr (inr (long, out))) =
      piece_fails script records standing fault (inr (inr (long, too_many out)))

-- ---- the header

rows_as_left : (begun : Bool) (records : Records)
    → row_records (has_begun begun records) (row_records begun records) ≡ row_records begun records
rows_as_left true records = refl
rows_as_left false [] = refl
rows_as_left false (header ∷ rows) = refl

fault_as_left : (moments : KnownMoments) (last : Option ℕ) (next : ℕ) (begun : Bool) (records : Records)
    → IsHeaded begun records → first_fault_at moments begun last next records
    ≡ first_fault_at moments (has_begun begun records) last next (row_records begun records)
fault_as_left moments last next true records headed = refl
fault_as_left moments last next false [] headed = refl
fault_as_left moments last next false (header ∷ rows) headed = rw headed refl

too_many_as_left : (moments : KnownMoments) (begun : Bool) (last : Option ℕ) (next : ℕ) (bare : Option ℕ)
    (records : Records) → IsHeaded begun records
    → HasTooManyRows moments (record { begun = has_begun begun records; last = last; next = next; bare = bare })
    (row_records begun records)
    → HasTooManyRows moments (record { begun = begun; last = last; next = next; bare = bare }) records
too_many_as_left moments true last next bare records headed many = many
too_many_as_left moments false last next bare [] headed many = many
too_many_as_left moments false last next bare (header ∷ rows) headed many = record {
  front = header ∷ many.front;
  behind = many.behind;
  are = ap (λ (l : Records). header ∷ l) many.are;
  fine = rw headed many.fine;
  many = many.many;
}

place_as_left : (moments : KnownMoments) (begun : Bool) (last : Option ℕ) (next : ℕ) (bare : Option ℕ)
    (records : Records)
    → place_behind moments (record { begun = has_begun begun records; last = last; next = next; bare = bare })
    (row_records begun records)
    ≡ place_behind moments (record { begun = begun; last = last; next = next; bare = bare }) records
place_as_left moments true last next bare records = refl
place_as_left moments false last next bare [] = refl
place_as_left moments false last next bare (header ∷ rows) = refl

pub none_without_header : (begun : Bool) (records : Records) → has_begun begun records ≡ false
    → row_records begun records ≡ []
none_without_header true records e = absurd cc
none_without_header false [] e = refl
none_without_header false (header ∷ rows) e = absurd cc

-- the records of a piece, and its rows behind the header
module _ (script : ScriptContents) (standing : Standing) (records : Records) where
  abbrev pub rows : Records
  rows = row_records standing.place.begun records

  abbrev pub behind : Standing
  behind = record standing { place = record standing.place { begun = has_begun standing.place.begun records } }

  module _ (headed : IsHeaded standing.place.begun records) where
    same_fault : piece_fault (moments_in script) standing.place records
        ≡ piece_fault (moments_in script) behind.place rows
    same_fault = fault_as_left (moments_in script) standing.place.last standing.place.next standing.place.begun
        records headed

    same_place : place_behind (moments_in script) behind.place rows
        ≡ place_behind (moments_in script) standing.place records
    same_place = place_as_left (moments_in script) standing.place.begun standing.place.last standing.place.next
        standing.place.bare
        records

    pub with_header : (answer : Result PieceReport Fault) → IfOk answer (IsPieceReported script rows behind)
        → IfOk answer (IsPieceReported script records standing)
    with_header (Err fault) reported = reported
    with_header (Ok report) reported =
        let says = reported.report in
        record {
          report = record {
            fine = same_fault ∙ says.fine;
            rows = says.rows;
            decisions = says.decisions;
            said = says.said ∙ ap (filter_map (row_of_record (moments_in script)))
                (rows_as_left standing.place.begun records);
            decided = says.decided;
            report = says.report;
          };
          place = reported.place ∙ same_place;
          counted = reported.counted;
        }

    fails_so : (fault : Fault) → PieceFails script rows behind fault → PieceFails script records standing fault
    fails_so fault (inl memory) = inl memory
    fails_so fault (inr (inl e)) = inr (inl (same_fault ∙ e))
    fails_so fault (inr (inr (long, many))) = inr (inr (
      long,
      too_many_as_left (moments_in script) standing.place.begun standing.place.last standing.place.next
          standing.place.bare records headed many,
    ))

    pub fails_with_header : (answer : Result PieceReport Fault) → IfErr answer (PieceFails script rows behind)
        → IfErr answer (PieceFails script records standing)
    fails_with_header (Ok report) why = why
    fails_with_header (Err fault) why = fails_so fault why
