-- The reports of records, one behind the other, are the report of all.
use Rattle.std.proofs.Common.{◌≡◌, ℕ, ◌+◌, ◌≤◌, Bool, true, false, List, [], ◌∷◌, ◌++◌, length, map, Option, Some, None}
use Rattle.std.proofs.Common.{Result, Ok, Err, refl, sym, ap, subst, ◌∙◌, arith}
use Rattle.std.specs.Prelude.{cond, filter_map, not, option_map}
use Rattle.std.specs.List.{AllZip, position_from}
use Rattle.std.specs.Option.{option_or}
use Rattle.std.proofs.lemmas.List.{length-map, map-append}
use Rattle.std.proofs.lemmas.List.Sums.{count_by-le-length, sum_by-append}
use Rattle.std.proofs.lemmas.Slice.Zip.{AllZip-long}
use Rattle.pmp_core.specs.declared.decision.Decision.{Decision}
use Rattle.pmp_text.specs.declared.flaw.Flaw.{Flaw}
use Rattle.pmp_text.specs.declared.trace.TraceRow.{TraceRow}
use Rattle.pmp_text.specs.declared.fault.Fault.{Fault}
use Rattle.pmp_text.specs.declared.trace.row_fields.RowFields.{RowFields}
use Rattle.pmp_text.specs.declared.trace.rows.Position.{Position}
use Rattle.pmp_text.specs.Contents.{ScriptContents}
use Rattle.pmp_text.specs.Flaws.{at_row}
use Rattle.pmp_text.specs.LongTraces.{HasTooManyRows, Records, first_fault_at, has_begun, piece_fault, place_behind}
use Rattle.pmp_text.specs.LongTraces.{beginning, is_bare_record, report_text_from, row_records}
use Rattle.pmp_text.specs.Traces.{after_of, first_bare, first_row_fault, is_header, row_fault, row_fields, row_in}
use Rattle.pmp_text.specs.Traces.{row_of_record}
use Rattle.pmp_text.proofs.PieceFaults.{behind, in_turn, places_in_turn, rows_in_two, too_many_behind}
use Rattle.pmp_text.specs.Moments.{KnownMoments, moments_in}
use Rattle.pmp_audit.specs.declared.standing.Standing.{Standing}
use Rattle.pmp_audit.specs.LongAudit.{IsReportAt}
use Rattle.pmp_audit.specs.LongPieces.{IsReported}
use Rattle.pmp_audit.specs.Report.{refused_count}
use Rattle.pmp_audit.proofs.LongReports.{report_goes_on}
use Rattle.pmp_audit.proofs.Reports.{Decides}
use Rattle.pmp_text.specs.declared.fault.Source.TheVariants as source

-- before the first piece
abbrev pub start : (first : ℕ) → Standing
start first = record { place = beginning first; faults = 0 }

neither : (own later : Option Fault) → option_or own later ≡ None → (own ≡ None) × (later ≡ None)
neither None later e = (refl, e)
neither (Some fault) later e = absurd cc

-- ---- each record without a fault says a row, which is as bare as it

abbrev bare_field : RowFields → Bool
bare_field fields = fields.is_bare

bare_rows : (number : ℕ) (rows : List TraceRow)
    → first_bare number rows ≡ position_from bare_field number (map row_fields rows)
bare_rows number [] = refl
bare_rows number (row ∷ rows) =
    ap (λ (found : Option ℕ). cond row.is_bare (Some number) found) (bare_rows (number + 1) rows)

module _ (moments : KnownMoments) where
  record AreSaid (number : ℕ) (rows : Records) : Type 0 where
    many : length (filter_map (row_of_record moments) rows) ≡ length rows
    bare : position_from bare_field number (filter_map (row_of_record moments) rows)
        ≡ position_from (is_bare_record moments) number rows

  all_say : (rows : Records) (last : Option ℕ) (next number : ℕ) → first_row_fault moments last next rows ≡ None
      → AreSaid number rows
  all_say [] last next number fine = record { many = refl; bare = refl }
  all_say (row ∷ more) last next number fine = by (row_in moments row) refl (all_say more)
    where
      by : (said : Result RowFields Flaw) → row_in moments row ≡ said
          → ((last : Option ℕ) (next number : ℕ) → first_row_fault moments last next more ≡ None → AreSaid number more)
          → AreSaid number (row ∷ more)
      by (Err flaw) is later =
          let own : Some (at_row source.Trace next flaw) ≡ None = (neither (Some (at_row source.Trace next flaw))
          (first_row_fault moments None (next + 1) more) (rw is at fine)).0 in
          absurd cc
      by (Ok fields) is later =
          let rest = (neither (option_map (at_row source.Trace next) (row_fault moments.publications last (row_in moments row)))
          (first_row_fault moments (after_of (row_of_record moments row)) (next + 1) more) fine).1 in
          let said = later (after_of (row_of_record moments row)) (next + 1) (number + 1) rest in
          let many = said.many in
          record {
            many = rw is (omega arith);
            bare = rw (is_bare_record, is) (λ i. cond fields.is_bare (Some number) (said.bare i));
          }

  all_rows_say : (begun : Bool) (records : Records) (last : Option ℕ) (next : ℕ)
      → first_fault_at moments begun last next records ≡ None → AreSaid next (row_records begun records)
  all_rows_say true records last next fine = all_say records last next next fine
  all_rows_say false [] last next fine = record { many = refl; bare = refl }
  all_rows_say false (header ∷ rows) last next fine =
      all_say rows last next next (behind moments (is_header header) last next rows fine)

all_zipped : (script : ScriptContents) (rows more : List TraceRow) (decisions others : List Decision)
    → AllZip (Decides script) rows decisions → AllZip (Decides script) more others
    → AllZip (Decides script) (rows ++ more) (decisions ++ others)
all_zipped script [] more [] others here there = there
all_zipped script [] more (decision ∷ decisions) others here there = absurd here
all_zipped script (row ∷ rows) more [] others here there = absurd here
all_zipped script (row ∷ rows) more (decision ∷ decisions) others here there =
    (here.0, all_zipped script rows more decisions others here.1 there)

module _ {script : ScriptContents} {records : Records} {old new : Standing} {text : List ℕ}
    (reported : IsReported script records old new text) where
  abbrev moments : KnownMoments
  moments = moments_in script

  abbrev says : IsReportAt script old.place records text
  says = reported.report

  pub one_each : length says.decisions ≡ length says.rows
  one_each = AllZip-long (Decides script) says.rows says.decisions says.decided

  pub numbered : new.place.next ≡ old.place.next + length says.rows
  numbered =
      let said = (all_rows_say moments old.place.begun records old.place.last old.place.next says.fine).many in
      let same : length says.rows ≡ length (filter_map (row_of_record moments) (row_records old.place.begun records)) =
      sym (length-map says.rows row_fields) ∙ ap (λ (l : List RowFields). length l) says.said in
      let next = ap (λ (p : Position). p.next) reported.place in
      omega arith

  -- the first bare row of those that are reported
  pub bare_rows_behind : new.place.bare ≡ option_or old.place.bare (first_bare old.place.next says.rows)
  bare_rows_behind =
      let said = all_rows_say moments old.place.begun records old.place.last old.place.next says.fine in
      ap (λ (p : Position). p.bare) reported.place
      ∙ ap (option_or old.place.bare) (sym (bare_rows old.place.next says.rows
      ∙ ap (position_from bare_field old.place.next) says.said ∙ said.bare))

  -- no more are refused than there are rows
  pub few_refused : old.faults ≤ old.place.next → new.faults ≤ new.place.next
  few_refused within =
      let next = numbered in
      let same = one_each in
      let few = count_by-le-length (λ (d : Decision). not d.allowed) says.decisions in
      let counted = reported.counted in
      omega arith

  -- ---- what follows on them

  -- the fault of records behind these is theirs, where they stand
  pub fault_behind : (more : Records) → piece_fault moments old.place (records ++ more)
      ≡ piece_fault moments new.place more
  fault_behind more = in_turn moments old.place.last old.place.next old.place.begun records more
      ∙ ap (λ (x : Option Fault). option_or x
      (piece_fault moments (place_behind moments old.place records) more)) says.fine
      ∙ ap (λ (p : Position). piece_fault moments p more) (sym reported.place)

  pub too_many_in_all : (more : Records) → HasTooManyRows moments new.place more
      → HasTooManyRows moments old.place (records ++ more)
  too_many_in_all more many = too_many_behind moments old.place records more says.fine
      (subst (λ (p : Position). HasTooManyRows moments p more) reported.place many)

  module _ {more : Records} {mid last : Standing} {later : List ℕ} (behind : IsReported script more mid last later)
    where
      -- both, where the later ones stand behind the others but for bare rows
      pub joined : mid.place ≡ record new.place { bare = mid.place.bare } → (both : Standing)
          → both.place ≡ place_behind moments old.place (records ++ more)
          → both.faults + mid.faults ≡ new.faults + last.faults
          → IsReported script (records ++ more) old both (text ++ later)
      joined meets both place faults =
          let there = behind.report in
          let begun : mid.place.begun ≡ has_begun old.place.begun records =
          ap (λ (p : Position). p.begun) meets ∙ ap (λ (p : Position). p.begun) reported.place in
          record {
            report = record {
              fine = fault_behind more ∙ ap (λ (p : Position). piece_fault moments p more) (sym meets) ∙ there.fine;
              rows = says.rows ++ there.rows;
              decisions = says.decisions ++ there.decisions;
              said = map-append row_fields says.rows there.rows
                  ∙ ap (λ (l : List RowFields). l ++ map row_fields there.rows) says.said
                  ∙ ap (λ (l : List RowFields).
                  filter_map (row_of_record moments) (row_records old.place.begun records) ++ l)
                  (there.said ∙ ap (λ (b : Bool). filter_map (row_of_record moments) (row_records b more)) begun)
                  ∙ sym (rows_in_two moments old.place.begun records more);
              decided = all_zipped script says.rows there.rows says.decisions there.decisions says.decided there.decided;
              report = ap (λ (l : List ℕ). l ++ later) says.report
                  ∙ ap (λ (l : List ℕ). report_text_from old.place.next says.rows says.decisions ++ l)
                  (there.report ∙ ap (λ (n : ℕ). report_text_from n there.rows there.decisions)
                  (ap (λ (p : Position). p.next) meets ∙ numbered))
                  ∙ sym (report_goes_on says.rows there.rows says.decisions there.decisions old.place.next one_each);
            };
            place = place;
            counted =
                let all : refused_count (says.decisions ++ there.decisions)
                ≡ refused_count says.decisions + refused_count there.decisions =
                sum_by-append (λ (d : Decision). cond (not d.allowed) 1 0) says.decisions there.decisions in
                let here = reported.counted in
                let others = behind.counted in
                omega arith;
          }

  pub one_after : {more : Records} {last : Standing} {later : List ℕ} → IsReported script more new last later
      → IsReported script (records ++ more) old last (text ++ later)
  one_after {more = more} {last = last} behind = joined behind refl last
      (behind.place ∙ ap (λ (p : Position). place_behind moments p more) reported.place
      ∙ sym (places_in_turn moments old.place records more)) (omega arith)
