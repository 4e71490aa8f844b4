-- Where a long audit stops, and where it ends.
use Rattle.std.proofs.Common.{◌≡◌, ◌⊎◌, ℕ, ◌-◌, true, false, List, [], ◌++◌}
use Rattle.std.proofs.Common.{Option, Some, None, Ok, Err, refl, sym, ap, subst, ◌∙◌, inl, inr}
use Rattle.std.proofs.Common.{append_assoc, append-nil, arith, length}
use Rattle.std.specs.Io.KnownBytes.{Appends}
use Rattle.std.proofs.KnownBytes.{Appends-trans}
use Rattle.pmp_text.specs.declared.fault.Fault.{Fault}
use Rattle.pmp_text.specs.declared.refusal.Refusal.TheVariants.{BadHeader}
use Rattle.pmp_text.specs.declared.trace.rows.Position.{Position}
use Rattle.pmp_text.specs.Bytes.{AppendsBeginning}
use Rattle.pmp_text.specs.Contents.{ScriptContents}
use Rattle.pmp_text.specs.LongTraces.{HasTooManyRows, Records, beginning, long_meaning, piece_fault}
use Rattle.pmp_text.specs.LongTraces.{too_long_for_rows}
use Rattle.pmp_text.specs.Scripts.{script_meaning}
use Rattle.pmp_text.specs.Tables.{records_of}
use Rattle.pmp_text.specs.Flaws.{at_row, as_whole}
use Rattle.pmp_text.specs.Moments.{KnownMoments, moments_in}
use Rattle.pmp_audit.specs.declared.standing.Standing.{Standing}
use Rattle.pmp_audit.specs.declared.trace_audit.AuditSummary.{AuditSummary}
use Rattle.pmp_audit.specs.LongAudit.{IsTooLong, LongAuditSays, StopsLong, WroteFront, no_input}
use Rattle.pmp_audit.specs.LongPieces.{IsReported, PieceFails}
use Rattle.pmp_audit.specs.Report.{refused_count}
use Rattle.pmp_audit.proofs.PieceTexts.{bare_rows_behind, fault_behind, numbered, one_after, one_each, start}
use Rattle.pmp_audit.proofs.PieceTexts.{too_many_in_all}
use Rattle.pmp_text.proofs.WholeTraces.{faulty_records, fine_records, no_records}
use Rattle.pmp_audit.proofs.LongSteps.{front_of}
use Rattle.pmp_text.specs.Outcomes.{no_output}
use Rattle.pmp_text.specs.declared.fault.Source.TheVariants as source

-- the piece stands behind these records of the trace, whatever follows it
pub record IsPieceOf (moments : KnownMoments) (place : Position) (records : Records) (piece trace : List ℕ) : Type 0 where
  pub tail : Records
  pub are : records_of trace ≡ records ++ tail
  pub stays : (fault : Fault) → piece_fault moments place (records_of piece) ≡ Some fault
      → piece_fault moments place tail ≡ Some fault
  pub fronts : (front behind : Records) → records_of piece ≡ front ++ behind → piece_fault moments place front ≡ None
      → (others : Records) × (tail ≡ front ++ others)

module _ (script : List ℕ) {contents : ScriptContents} (means : script_meaning script ≡ Ok contents) (limit : ℕ)
    {first : ℕ} {records : Records} {old : Standing} {text : List ℕ}
    (stands : IsReported contents records (start first) old text) (out_old out_mid : Option (List ℕ))
    (written : Appends out_old out_mid text) where
  abbrev moments : KnownMoments
  moments = moments_in contents

  -- nothing more was written
  module _ (trace : List ℕ) (behind : Records) (are : records_of trace ≡ records ++ behind) where
    pub wrote_front : WroteFront limit script first trace out_old out_mid
    wrote_front = (text, front_of means stands trace behind are, written)

    pub no_input_there : StopsLong limit script first trace out_old out_mid no_input
    no_input_there =
        inr (inl (record { contents = contents; script_means = means; why = inr (inl refl) }, wrote_front))

    pub too_long : IsTooLong limit moments first trace
        → StopsLong limit script first trace out_old out_mid too_long_for_rows
    too_long long =
        inr (inl (record { contents = contents; script_means = means; why = inr (inr (refl, long)) }, wrote_front))

  -- ---- a piece that isn't written

  module _ (piece trace : List ℕ) (here : IsPieceOf (moments_in contents) old.place records piece trace) where
    faulty : (fault : Fault) → piece_fault moments old.place (records_of piece) ≡ Some fault
        → long_meaning moments first (records_of trace) ≡ Err fault
    faulty fault found = faulty_records moments first (records_of trace) fault
        (ap (piece_fault moments (beginning first)) here.are ∙ fault_behind stands here.tail ∙ here.stays fault found)

    too_many : HasTooManyRows moments old.place (records_of piece)
        → HasTooManyRows moments (beginning first) (records_of trace)
    too_many many =
        let (others, tail_is) = here.fronts many.front many.behind many.are many.fine in
        let tail : HasTooManyRows moments old.place here.tail = record {
          front = many.front;
          behind = others;
          are = tail_is;
          fine = many.fine;
          many = many.many;
        } in
        subst (HasTooManyRows moments (beginning first)) (sym here.are) (too_many_in_all stands here.tail tail)

    abbrev Why : Fault → Type 0
    Why fault = (long_meaning moments first (records_of trace) ≡ Err fault) ⊎ (fault ≡ no_input)
        ⊎ ((fault ≡ too_long_for_rows) × IsTooLong limit moments first trace)

    why : (fault : Fault) → (piece_fault moments old.place (records_of piece) ≡ Some fault)
        ⊎ ((fault ≡ too_long_for_rows) × HasTooManyRows moments old.place (records_of piece))
        → Why fault
    why fault (inl found) = inl (faulty fault found)
    why fault (inr (long, many)) = inr (inr (long, inr (inl (too_many many))))

    pub piece_fails : (fault : Fault) → PieceFails contents (records_of piece) old fault
        → StopsLong limit script first trace out_old out_mid fault
    piece_fails fault (inl memory) = inr (inr (inl (memory, inr (wrote_front trace here.tail here.are))))
    piece_fails fault (inr fails) = inr (inl (
      record { contents = contents; script_means = means; why = why fault fails },
      wrote_front trace here.tail here.are,
    ))

    pub cut_short : (out_new : Option (List ℕ)) (new : Standing) (more : List ℕ)
        → IsReported contents (records_of piece) old new more → AppendsBeginning out_mid out_new more
        → StopsLong limit script first trace out_old out_new no_output
    cut_short out_new new more reported (front, rest, split, wrote) =
        let (behind, tail_is) =
        here.fronts (records_of piece) [] (sym (append-nil (records_of piece))) reported.report.fine in
        let are : records_of trace ≡ (records ++ records_of piece) ++ behind =
        here.are ∙ ap (λ (l : Records). records ++ l) tail_is ∙ sym (append_assoc records (records_of piece) behind)
        in inr (inr (inr (
          refl,
          (
            text ++ more,
            front_of means (one_after stands reported) trace behind are,
            (
              text ++ front,
              rest,
              ap (λ (l : List ℕ). text ++ l) split ∙ sym (append_assoc text front rest),
              Appends-trans _ _ _ _ _ written wrote,
            ),
          ),
        )))

  -- ---- the end of the trace

  module _ (trace : List ℕ) (are : records_of trace ≡ records) where
    pub says_all : (summary : AuditSummary) → old.place.begun ≡ true
        → summary ≡ record { rows = old.place.next - first; faults = old.faults; bare = old.place.bare }
        → LongAuditSays script first trace summary text
    says_all summary begun is =
        let done = stands.report in
        let number = numbered stands in
        let same = one_each stands in
        let count : old.place.next - first ≡ length done.decisions = omega arith in
        let refused : old.faults ≡ refused_count done.decisions = let counted = stands.counted in omega arith in
        let read = sym (ap (λ (p : Position). p.begun) stands.place) ∙ begun in
        record {
          contents = contents;
          script_means = means;
          report = record {
            rows = done.rows;
            decisions = done.decisions;
            records_mean = ap (long_meaning moments first) are
                ∙ fine_records moments first records done.fine read ∙ ap Ok (sym done.said);
            decided = done.decided;
            report = done.report;
          };
          counted = is
              ∙ (λ i. record {
                rows = count i;
                faults = refused i;
                bare = bare_rows_behind stands i;
              });
        }

    pub no_header : old.place.begun ≡ false
        → long_meaning moments first (records_of trace) ≡ Err (at_row source.Trace 0 (as_whole BadHeader))
    no_header begun = ap (long_meaning moments first) (are
        ∙ no_records records (sym (ap (λ (p : Position). p.begun) stands.place) ∙ begun))
