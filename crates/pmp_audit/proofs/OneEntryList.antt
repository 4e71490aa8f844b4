-- A script has one entry list.
use Rattle.std.proofs.Common.{◌≡◌, ℕ, zero, suc, ◌+◌, ◌<◌, List, length, map, take, Option, refl, sym, ap, subst}
use Rattle.std.proofs.Common.{◌∙◌, arith}
use Rattle.std.specs.List.{range_with_len, slice_index_or}
use Rattle.pmp_core.specs.declared.event.Event.{Event}
use Rattle.pmp_core.specs.declared.span.Span.{Span}
use Rattle.pmp_core.specs.RegisterFile.{RegisterFile, is_frozen, is_held}
use Rattle.pmp_core.specs.SpanLaw.{OneSpanLaw}
use Rattle.pmp_core.proofs.Decisions.{least_once}
use Rattle.pmp_text.specs.declared.lines.since.Since.{Since}
use Rattle.pmp_text.specs.Cells.{RowValue}
use Rattle.pmp_text.specs.Contents.{ScriptContents}
use Rattle.pmp_text.specs.EntryRows.{entry_row, no_since}
use Rattle.pmp_text.specs.Reports.{file_of_script}
use Rattle.pmp_audit.specs.EntryList.{IsEntryList}
use Rattle.pmp_audit.specs.Laws.{OneEntryListLaw}
use Rattle.pmp_audit.specs.AskedFile.{IsAsked}
use Rattle.pmp_audit.proofs.LastingMoments.{one_count}
use Rattle.pmp_audit.specs.Since.{IsFrom, IsSince}
use Rattle.pmp_core.specs.RegisterFile.{IsLegal}
use Rattle.pmp_text.proofs.Starts.{legal_start}
use Rattle.pmp_audit.proofs.EntriesSince.{same_entries}

-- rows that are alike, place by place
same_pieces : (one other : ℕ → RowValue) (from count : ℕ) → ((i : ℕ) → i < from + count → one i ≡ other i)
    → map one (range_with_len from count) ≡ map other (range_with_len from count)
same_pieces one other from zero same = refl
same_pieces one other from (suc count) same =
    let first = same from (omega arith) in
    let rest = same_pieces one other (from + 1) count (λ i below. same i (omega arith)) in
    cc

one_since : (start : RegisterFile) (batches : List (List Event)) (i : ℕ) (one other : Since) → IsSince start batches i one
    → IsSince start batches i other → one ≡ other
one_since start batches i one other is also =
    ap (λ (k : Option ℕ). record one { frozen = k })
    (least_once (IsFrom is_frozen start batches i) one.frozen other.frozen is.frozen also.frozen)
    ∙ ap (λ (k : Option ℕ). record other { held = k })
    (least_once (IsFrom is_held start batches i) one.held other.held is.held also.held)

module _ (one_span : OneSpanLaw) where
  module _ (script : ScriptContents) (legal : IsLegal script.start) (done : ℕ) (text other : List RowValue)
      (one : IsEntryList script done text) (two : IsEntryList script done other) where
    abbrev file_shown : RegisterFile
    file_shown = file_of_script script done

    abbrev row_shown : (i : ℕ) → Option Span → Since → RowValue
    row_shown i = entry_row file_shown i

    same_row : (i : ℕ) → i < length file_shown.entries
        → row_shown i (one.rows_are.span i) (slice_index_or one.since i no_since)
        ≡ row_shown i (two.rows_are.span i) (slice_index_or two.since i no_since)
    same_row i below =
        let start = script.start in
        let batches = take done script.batches in
        let inside : i < start.profile.entries = omega (arith, below, same_entries start legal batches file_shown refl) in
        let span = one_span file_shown i _ _ (one.rows_are.spans i below) (two.rows_are.spans i below) in
        let since = one_since start batches i _ _ (one.since_are i inside) (two.since_are i inside) in
        ap (λ (s : Option Span). row_shown i s (slice_index_or one.since i no_since)) span
        ∙ ap (λ (s : Since). row_shown i (two.rows_are.span i) s) since

    same_list : text ≡ other
    same_list =
        one.rows_are.rows_are
        ∙ same_pieces (λ i. row_shown i (one.rows_are.span i) (slice_index_or one.since i no_since))
        (λ i. row_shown i (two.rows_are.span i) (slice_index_or two.since i no_since)) 0 (length file_shown.entries)
        (λ i below. same_row i (omega arith))
        ∙ sym two.rows_are.rows_are

  pub one_entry_list : OneEntryListLaw
  one_entry_list script after text other one two =
      let same : two.contents ≡ one.contents = let both = sym two.script_means ∙ one.script_means in cc in
      let asked = subst (λ (s : ScriptContents). IsAsked after s two.done) same two.asked in
      let done = one_count one.contents after two.done one.done asked one.asked in
      let in_one = subst (λ (s : ScriptContents). IsEntryList s two.done other) same two.said_is in
      let two_is = subst (λ (n : ℕ). IsEntryList one.contents n other) done in_one in
      same_list one.contents (legal_start script one.contents one.script_means) one.done text other one.said_is two_is
