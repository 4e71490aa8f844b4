-- What one turn of a long audit comes to, where it is the last one: its piece, in the whole trace.
use Rattle.std.proofs.Common.{◌≡◌, ◌⊎◌, Some, None, ℕ, ◌-◌, ◌^◌, ◌≤◌, ◌∷◌, ap, append_assoc}
use Rattle.std.proofs.Common.{true, false, List, ◌++◌, unwrap_or, Option, Result, Ok, Err}
use Rattle.std.proofs.Common.{IfOk, IfErr, refl, sym, ◌∙◌, inl, inr, append-nil, arith, []}
use Rattle.std.specs.Prelude.{IfSome, MatchResult}
use Rattle.std.specs.Io.KnownBytes.{Appends, Consumes}
use Rattle.std.proofs.KnownBytes.{Appends-trans, Consumes-trans, Keeps-refl}
use Rattle.std.proofs.lemmas.List.{length-append}
use Rattle.pmp_text.specs.declared.fault.Fault.{Fault}
use Rattle.pmp_text.specs.declared.input.InputFault.{InputFault}
use Rattle.pmp_text.specs.declared.input.InputFault.TheVariants as input
use Rattle.pmp_text.specs.declared.refusal.Refusal.TheVariants.{BadHeader}
use Rattle.pmp_text.specs.Bytes.{AppendsBeginning}
use Rattle.pmp_text.specs.Contents.{ScriptContents}
use Rattle.pmp_text.specs.Cutting.{IsCut, IsFront, IsLast}
use Rattle.pmp_text.specs.LongTraces.{HasLongLine, piece_fault, too_long_for_rows}
use Rattle.pmp_text.specs.Outcomes.{no_memory, no_output}
use Rattle.pmp_text.specs.Scripts.{script_meaning}
use Rattle.pmp_text.specs.Tables.{records_of}
use Rattle.pmp_text.specs.Flaws.{as_whole, at_row}
use Rattle.pmp_text.proofs.PieceFaults as pieces
use Rattle.pmp_text.specs.Moments.{moments_in}
use Rattle.pmp_audit.specs.declared.standing.Standing.{Standing}
use Rattle.pmp_audit.specs.declared.trace_audit.AuditSummary.{AuditSummary}
use Rattle.pmp_audit.specs.Answers.{IsWritten}
use Rattle.pmp_audit.specs.LongAudit.{LongAuditSays, StopsLong}
use Rattle.pmp_audit.specs.LongPieces.{IsReported, PieceFails}
use Rattle.pmp_audit.proofs.PieceTexts.{one_after, start}
use Rattle.pmp_audit.proofs.LongSteps.{Going, none_left, whole_trace}
use Rattle.pmp_audit.proofs.LongStops.{IsPieceOf, cut_short, no_header, no_input_there, piece_fails, says_all, too_long}
use Rattle.pmp_audit.proofs.LongStops.{wrote_front}
use Rattle.pmp_text.specs.Inputs.{input_fault}
use Rattle.pmp_text.specs.declared.fault.Source.TheVariants as source

-- ---- no script

any_trace : (known : Option (List ℕ)) → IfSome known (λ those. unwrap_or known [] ≡ those)
any_trace None = tt
any_trace (Some those) = refl

module _ (limit : ℕ) (script : List ℕ) (first : ℕ) (in_old out : Option (List ℕ)) where
  refused : (fault : Fault) → (script_meaning script ≡ Err fault) ⊎ (fault ≡ no_memory)
      → StopsLong limit script first (unwrap_or in_old []) out out fault
  refused fault (inl means) = inl (means, Keeps-refl out)
  refused fault (inr memory) = inr (inr (inl (memory, inl (Keeps-refl out))))

  pub script_stops : (fault : Fault) → (script_meaning script ≡ Err fault) ⊎ (fault ≡ no_memory)
      → (trace : List ℕ) × IfSome in_old (λ those. trace ≡ those)
      × StopsLong limit script first trace out out fault
  script_stops fault why = (unwrap_or in_old [], any_trace in_old, refused fault why)

known_as : (known : Option (List ℕ)) (one other : List ℕ) → one ≡ other → IfSome known (λ those. one ≡ those)
    → IfSome known (λ those. other ≡ those)
known_as None one other same is = tt
known_as (Some those) one other same is = sym same ∙ is

-- ---- one turn

module _ {script : ScriptContents} {first count : ℕ} {in_old in_mid : Option (List ℕ)} {held : List ℕ}
    {out_old out_mid : Option (List ℕ)} {old : Standing}
    (going : Going script first count in_old in_mid held out_old out_mid old) (limit : ℕ) (in_new : Option (List ℕ))
  where
    -- ---- no byte more was taken

    abbrev pub trace_held : List ℕ
    trace_held = going.done ++ (held ++ unwrap_or in_mid [])

    pub held_known : IfSome in_old (λ those. trace_held ≡ those)
    held_known = known_as in_old _ trace_held (append_assoc going.done held (unwrap_or in_mid []))
        (whole_trace in_old in_mid (going.done ++ held) going.consumed)

    -- ---- these bytes were taken

    module _ (taken : List ℕ) (consumed : Consumes in_mid in_new taken) where
      abbrev pub trace_taken : List ℕ
      trace_taken = going.done ++ (held ++ (taken ++ unwrap_or in_new []))

      pub taken_known : IfSome in_old (λ those. trace_taken ≡ those)
      taken_known = known_as in_old _ trace_taken
          (append_assoc (going.done ++ held) taken (unwrap_or in_new [])
          ∙ append_assoc going.done held (taken ++ unwrap_or in_new []))
          (whole_trace in_old in_new ((going.done ++ held) ++ taken)
          (Consumes-trans _ _ _ _ _ going.consumed consumed))

      pub long_in_all : (most : ℕ) → HasLongLine (held ++ taken) most → HasLongLine trace_taken most
      long_in_all most (front, line, behind, is, none, long) =
          let rest = unwrap_or in_new [] in (
            going.done ++ front,
            line,
            behind ++ rest,
            ap (λ (l : List ℕ). going.done ++ l) (sym (append_assoc held taken rest)
                ∙ ap (λ (l : List ℕ). l ++ rest) is ∙ append_assoc front (line ++ behind) rest
                ∙ ap (λ (l : List ℕ). front ++ l) (append_assoc line behind rest))
                ∙ sym (append_assoc going.done front (line ++ (behind ++ rest))),
            none,
            long,
          )

    module _ (left piece : List ℕ) (cut : IsFront limit held in_mid in_new left piece) where
      pub front_piece : IsPieceOf (moments_in script) old.place going.records piece
          (trace_taken cut.taken cut.consumed)
      front_piece =
          let rest = unwrap_or in_new [] in
          let moments = moments_in script in
          let later = cut.behind ++ rest in
          let joined : held ++ (cut.taken ++ rest) ≡ cut.before ++ cut.line_end ∷ later =
          sym (append_assoc held cut.taken rest) ∙ ap (λ (l : List ℕ). l ++ rest) cut.split
          ∙ append_assoc cut.before (cut.line_end ∷ cut.behind) rest in
          let found_in = ap (λ (l : List ℕ). piece_fault moments old.place (records_of l)) (sym cut.piece_is) in
          record {
            tail = records_of (cut.before ++ cut.line_end ∷ later);
            are = going.apart (cut.taken ++ rest) ∙ ap (λ (l : List ℕ). going.records ++ records_of l) joined;
            stays = λ fault found.
                pieces.fault_stays moments old.place cut.before cut.line_end cut.ends fault (found_in ∙ found)
                later;
            fronts = λ front behind are fine.
                pieces.front_stays moments old.place cut.before cut.line_end cut.ends front behind
                (ap records_of (sym cut.piece_is) ∙ are) fine later;
          }

    module _ (piece : List ℕ) (cut : IsLast limit held in_mid in_new piece) where
      abbrev pub trace_all : List ℕ
      trace_all = going.done ++ (held ++ cut.taken)

      pub all_known : IfSome in_old (λ those. trace_all ≡ those)
      all_known = known_as in_old _ trace_all
          (ap (λ (l : List ℕ). ((going.done ++ held) ++ cut.taken) ++ l) (none_left in_new cut.ended)
          ∙ append-nil ((going.done ++ held) ++ cut.taken) ∙ append_assoc going.done held cut.taken)
          (whole_trace in_old in_new ((going.done ++ held) ++ cut.taken)
          (Consumes-trans _ _ _ _ _ going.consumed cut.consumed))

      pub all_are : records_of trace_all ≡ going.records ++ records_of piece
      all_are = going.apart cut.taken ∙ ap (λ (l : List ℕ). going.records ++ records_of l) (sym cut.piece_is)

      pub last_piece : IsPieceOf (moments_in script) old.place going.records piece trace_all
      last_piece = record {
        tail = records_of piece;
        are = all_are;
        stays = λ fault found. found;
        fronts = λ front behind are fine. (behind, are);
      }

    -- the audit stops so, whatever text means the script
    abbrev pub Stops : Option (List ℕ) → Fault → Type 0
    Stops out_new fault = (text : List ℕ) → script_meaning text ≡ Ok script → (trace : List ℕ)
        × IfSome in_old (λ those. trace ≡ those) × StopsLong limit text first trace out_old out_new fault

    -- ---- a piece that isn't written

    -- a whole trace of which this is the next piece
    pub record HasPiece (piece : List ℕ) : Type 0 where
      trace : List ℕ
      known : IfSome in_old (λ those. trace ≡ those)
      here : IsPieceOf (moments_in script) old.place going.records piece trace

    pub has_front : (left piece : List ℕ) → IsFront limit held in_mid in_new left piece → HasPiece piece
    has_front left piece cut = record {
      trace = trace_taken cut.taken cut.consumed;
      known = taken_known cut.taken cut.consumed;
      here = front_piece left piece cut;
    }

    pub has_last : (piece : List ℕ) → IsLast limit held in_mid in_new piece → HasPiece piece
    has_last piece cut =
        record { trace = trace_all piece cut; known = all_known piece cut; here = last_piece piece cut }

    module _ (piece : List ℕ) (has : HasPiece piece) where
      pub fails : (fault : Fault) → PieceFails script (records_of piece) old fault → Stops out_mid fault
      fails fault why = λ text means. (
        has.trace,
        has.known,
        piece_fails text means limit going.stands out_old out_mid going.written piece has.trace has.here fault why,
      )

      pub stops_short : (new : Standing) (more : List ℕ) → IsReported script (records_of piece) old new more
          → (out_new : Option (List ℕ)) → AppendsBeginning out_mid out_new more → Stops out_new no_output
      stops_short new more reported out_new wrote = λ text means. (
        has.trace,
        has.known,
        cut_short text means limit going.stands out_old out_mid going.written piece has.trace has.here out_new new more
            reported wrote,
      )

    -- ---- no piece

    pub cut_stops : (left : List ℕ) (fault : InputFault) → IsCut limit held in_mid in_new left (Err fault)
        → Stops out_mid (input_fault source.Trace fault)
    cut_stops left input.TooLong uncut = λ text means. (
      trace_taken uncut.taken uncut.consumed,
      taken_known uncut.taken uncut.consumed,
      too_long text means limit going.stands out_old out_mid going.written _ _
          (going.apart (uncut.taken ++ unwrap_or in_new []))
          (inl (long_in_all uncut.taken uncut.consumed (limit - 1) uncut.line)),
    )
    cut_stops left input.Input uncut = λ text means. (
      trace_held,
      held_known,
      no_input_there text means limit going.stands out_old out_mid going.written _ _ (going.apart (unwrap_or in_mid [])),
    )
    cut_stops left input.Memory uncut = λ text means. (
      trace_held,
      held_known,
      inr (inr (inl (
        refl,
        inr (wrote_front text means limit going.stands out_old out_mid going.written _ _
            (going.apart (unwrap_or in_mid []))),
      ))),
    )

    pub no_turn : 2 ^ 64 - 1 ≤ count → Stops out_mid too_long_for_rows
    no_turn turns = λ text means. (
      trace_held,
      held_known,
      too_long text means limit going.stands out_old out_mid going.written _ _ (going.apart (unwrap_or in_mid []))
          (inr (inr (let many = going.many in
          let size = length-append going.done (held ++ unwrap_or in_mid []) in omega arith))),
    )

    -- ---- the last piece

    module _ (piece : List ℕ) (cut : IsLast limit held in_mid in_new piece) {new : Standing} {more : List ℕ}
        (reported : IsReported script (records_of piece) old new more) (out_new : Option (List ℕ))
        (wrote : Appends out_mid out_new more) where
      all_read : IsReported script (going.records ++ records_of piece) (start first) new (going.text ++ more)
      all_read = one_after going.stands reported

      all_written : Appends out_old out_new (going.text ++ more)
      all_written = Appends-trans _ _ _ _ _ going.written wrote

      abbrev pub Ends : Result AuditSummary Fault → Type 0
      Ends result = MatchResult result
          (λ summary. (new.place.begun ≡ true)
          × (summary ≡ record { rows = new.place.next - first; faults = new.faults; bare = new.place.bare }))
          (λ fault. (new.place.begun ≡ false) × (fault ≡ at_row source.Trace 0 (as_whole BadHeader)))

      pub ends_well : (result : Result AuditSummary Fault) → Ends result → (text : List ℕ)
          → script_meaning text ≡ Ok script → IfOk result (λ summary. (trace : List ℕ)
          × IfSome in_old (λ those. trace ≡ those) × IsWritten (LongAuditSays text first trace) out_old out_new summary)
      ends_well (Err fault) ends text means = tt
      ends_well (Ok summary) (begun, is) text means = (
        trace_all piece cut,
        all_known piece cut,
        record {
          text = going.text ++ more;
          says = says_all text means limit all_read out_old out_new all_written _ (all_are piece cut) summary begun is;
          written = all_written;
        },
      )

      pub ends_badly : (result : Result AuditSummary Fault) → Ends result → (text : List ℕ)
          → script_meaning text ≡ Ok script → IfErr result (λ fault. (trace : List ℕ)
          × IfSome in_old (λ those. trace ≡ those) × StopsLong limit text first trace out_old out_new fault)
      ends_badly (Ok summary) ends text means = tt
      ends_badly (Err fault) (begun, is) text means =
          let are = all_are piece cut in (
            trace_all piece cut,
            all_known piece cut,
            rw is (inr (inl (
              record {
                contents = script;
                script_means = means;
                why = inl (no_header text means limit all_read out_old out_new all_written _ are begun);
              },
              wrote_front text means limit all_read out_old out_new all_written _ []
                  (are ∙ sym (append-nil (going.records ++ records_of piece))),
            ))),
          )
