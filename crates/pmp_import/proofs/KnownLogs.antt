-- What is known of a log that is taken piece by piece.
use Rattle.std.proofs.Common.{◌≡◌, ℕ, ◌+◌, ◌-◌, ◌^◌, ◌≤◌, List, [], ◌∷◌, ◌++◌, length, unwrap_or, Option, Some, None}
use Rattle.std.proofs.Common.{Result, Err, refl, sym, ap, ◌∙◌, subst, inl, inr, append_assoc, append-nil, arith}
use Rattle.std.specs.Prelude.{◌⊎◌}
use Rattle.std.specs.Io.KnownBytes.{Consumes, IsAtEnd}
use Rattle.std.proofs.KnownBytes.{Consumes-nil, Consumes-trans}
use Rattle.std.proofs.lemmas.List.{length-append}
use Rattle.pmp_text.specs.declared.input.InputFault.{InputFault}
use Rattle.pmp_text.specs.declared.input.InputFault.TheVariants as input
use Rattle.pmp_text.specs.Inputs.{refusal_of_input}
use Rattle.pmp_text.specs.declared.refusal.Refusal.TheVariants.{Input, Memory, TooLong}
use Rattle.pmp_text.specs.Cutting.{AreLines, IsLast, IsLineCut}
use Rattle.pmp_text.specs.Lines.{lines}
use Rattle.pmp_text.proofs.WholeLines.{AreWhole, both_whole, ended_whole, none_whole}
use Rattle.pmp_text.specs.declared.fault.Fault.{Fault}
use Rattle.pmp_import.specs.declared.whole_log.TheConstants.{MOST_LINES}
use Rattle.pmp_import.specs.Imported.{at, stop_at}
use Rattle.pmp_import.specs.Imports.{AreFine, AreWholeLines, IsLog, Stops, no_input, no_memory, refused, too_long}
use Rattle.pmp_import.specs.Imports.{uncounted}
use Rattle.pmp_import.specs.Surveys.{one_more}
use Rattle.pmp_text.specs.Outcomes as outcome

abbrev pub Bytes : Type 0
Bytes = Option (List ℕ)

-- what is left, where that is known
abbrev pub rest_of : Bytes → List ℕ
rest_of left = unwrap_or left []

log_of : (had left : Bytes) (bytes : List ℕ) → Consumes had left bytes → IsLog had (bytes ++ rest_of left)
log_of None left bytes taken = tt
log_of (Some those) None bytes taken = absurd taken
log_of (Some those) (Some left) bytes taken = sym taken

none_left : (had left : Bytes) (bytes : List ℕ) → Consumes had left bytes → IsAtEnd left → IsLog had bytes
none_left None left bytes taken ended = tt
none_left (Some those) None bytes taken ended = absurd taken
none_left (Some those) (Some left) bytes taken ended = sym (taken ∙ ap (λ (l : List ℕ). bytes ++ l) ended ∙ append-nil bytes)

pub no_lines : lines [] ≡ []
unfolding lines
no_lines = refl

-- a reading of the log, which begins with these whole lines, stops
pub record Stopped {X : Type 0} (comes_to : List (List ℕ) → Result X Fault) (had : Bytes) (done : List ℕ)
    (fault : Fault) : Type 0
  where
    pub log : List ℕ
    pub is_log : IsLog had log
    pub behind : List (List ℕ)
    pub log_has : lines log ≡ lines done ++ behind
    pub stops : Stops comes_to log fault

-- so many pieces were taken, which are whole lines, and these bytes are held of what follows
pub record Taken (count : ℕ) (had mid : Bytes) (done held : List ℕ) : Type 0 where
  pub consumed : Consumes had mid (done ++ held)
  pub whole : AreWhole done
  pub ended : AreWholeLines done
  pub many : count ≤ length done
  pub short : length held ≤ MOST_LINES

pub none_taken : (had : Bytes) (held : List ℕ) → held ≡ [] → Taken 0 had had [] held
none_taken had held none = record {
  consumed = rw none (Consumes-nil had);
  whole = none_whole;
  ended = inl refl;
  many = omega arith;
  short = rw none (omega arith);
}

module _ {count : ℕ} {had mid : Bytes} {done held : List ℕ} (so_far : Taken count had mid done held) where
  -- the log, where these bytes are taken then
  is_taken : (new : Bytes) (taken : List ℕ) → Consumes mid new taken
      → IsLog had (done ++ ((held ++ taken) ++ rest_of new))
  is_taken new taken consumed =
      subst (λ (log : List ℕ). IsLog had log) (ap (λ (l : List ℕ). l ++ rest_of new) (append_assoc done held taken)
      ∙ append_assoc done (held ++ taken) (rest_of new))
      (log_of had new ((done ++ held) ++ taken) (Consumes-trans _ _ _ _ _ so_far.consumed consumed))

  -- the reading may stop, whatever the log is
  pub any_time : {X : Type 0} (comes_to : List (List ℕ) → Result X Fault) (fault : Fault)
      → ((log : List ℕ) → Stops comes_to log fault) → Stopped comes_to had done fault
  any_time comes_to fault stops = record {
    log = (done ++ held) ++ rest_of mid;
    is_log = log_of had mid (done ++ held) so_far.consumed;
    behind = lines (held ++ rest_of mid);
    log_has = ap lines (append_assoc done held (rest_of mid)) ∙ so_far.whole.apart (held ++ rest_of mid);
    stops = stops ((done ++ held) ++ rest_of mid);
  }

  -- ---- whole lines

  module _ {new : Bytes} {left : List ℕ} (piece : List ℕ) (cut : AreLines MOST_LINES held mid new left piece) where
    are_whole : AreWhole piece
    are_whole = subst AreWhole (sym cut.ends) (ended_whole cut.before)

    pub one_taken : Taken (count + 1) had new (done ++ piece) left
    one_taken = record {
      consumed = subst (Consumes had new)
          (append_assoc done held cut.taken ∙ ap (λ (l : List ℕ). done ++ l) cut.split
          ∙ sym (append_assoc done piece left)) (Consumes-trans _ _ _ _ _ so_far.consumed cut.consumed);
      whole = both_whole done piece so_far.whole are_whole;
      ended = inr (
        done ++ cut.before,
        ap (λ (l : List ℕ). done ++ l) cut.ends
            ∙ sym (append_assoc done cut.before (10 ∷ [])),
      );
      many = let some = ap length cut.ends in
          let one = length-append cut.before (10 ∷ []) in
          let both = length-append done piece in
          let before = so_far.many in omega arith;
      short = cut.within;
    }

    joined : done ++ ((held ++ cut.taken) ++ rest_of new) ≡ done ++ (piece ++ (left ++ rest_of new))
    joined = ap (λ (l : List ℕ). done ++ (l ++ rest_of new)) cut.split
        ∙ ap (λ (l : List ℕ). done ++ l) (append_assoc piece left (rest_of new))

    piece_lines : lines (done ++ (piece ++ (left ++ rest_of new)))
        ≡ lines done ++ (lines piece ++ lines (left ++ rest_of new))
    piece_lines = so_far.whole.apart (piece ++ (left ++ rest_of new))
        ∙ ap (λ (l : List (List ℕ)). lines done ++ l) (are_whole.apart (left ++ rest_of new))

    -- one of these lines is at fault, or memory ran out
    pub piece_stops : {X : Type 0} (comes_to : List (List ℕ) → Result X Fault) (fault : Fault)
        → (fault ≡ outcome.no_memory)
        ⊎ (comes_to (lines done ++ (lines piece ++ lines (left ++ rest_of new))) ≡ Err fault)
        → Stopped comes_to had done fault
    piece_stops comes_to fault (inl memory) = rw memory (any_time comes_to outcome.no_memory (λ log. no_memory))
    piece_stops comes_to fault (inr stop) = record {
      log = done ++ (piece ++ (left ++ rest_of new));
      is_log = rw (← joined) (is_taken new cut.taken cut.consumed);
      behind = lines piece ++ lines (left ++ rest_of new);
      log_has = piece_lines;
      stops = refused fault (ap comes_to piece_lines ∙ stop);
    }

  -- ---- the last lines

  module _ {new : Bytes} (piece : List ℕ) (cut : IsLast MOST_LINES held mid new piece) where
    pub last_log : IsLog had (done ++ piece)
    last_log = rw cut.piece_is (subst (λ (log : List ℕ). IsLog had log) (append_assoc done held cut.taken)
        (none_left had new ((done ++ held) ++ cut.taken)
        (Consumes-trans _ _ _ _ _ so_far.consumed cut.consumed) cut.ended))

    pub last_lines : lines (done ++ piece) ≡ lines done ++ (lines piece ++ [])
    last_lines = so_far.whole.apart piece
        ∙ ap (λ (l : List (List ℕ)). lines done ++ l) (sym (append-nil (lines piece)))

    -- one of these lines is at fault, or none of all is the hart's, or memory ran out
    pub last_stops : {X : Type 0} (comes_to : List (List ℕ) → Result X Fault) (fault : Fault)
        → (fault ≡ outcome.no_memory) ⊎ (comes_to (lines done ++ (lines piece ++ [])) ≡ Err fault)
        → Stopped comes_to had done fault
    last_stops comes_to fault (inl memory) = rw memory (any_time comes_to outcome.no_memory (λ log. no_memory))
    last_stops comes_to fault (inr stop) = record {
      log = done ++ piece;
      is_log = last_log;
      behind = lines piece ++ [];
      log_has = last_lines;
      stops = refused fault (ap comes_to last_lines ∙ stop);
    }

  -- ---- no lines

  module _ {X : Type 0} (comes_to : List (List ℕ) → Result X Fault) where
    -- the next line has this number, and none before it is at fault
    pub cut_stops : (new : Bytes) (line : ℕ) (fault : InputFault) (left : List ℕ) → AreFine comes_to (lines done)
        → line ≡ one_more (length (lines done)) → IsLineCut MOST_LINES held mid new left (Err fault)
        → Stopped comes_to had done (stop_at line fault)
    cut_stops new line input.TooLong left fine next cut = record {
      log = done ++ ((held ++ cut.taken) ++ rest_of new);
      is_log = is_taken new cut.taken cut.consumed;
      behind = lines ((held ++ cut.taken) ++ rest_of new);
      log_has = so_far.whole.apart ((held ++ cut.taken) ++ rest_of new);
      stops = too_long line (record {
        front = done;
        line = held ++ cut.taken;
        behind = rest_of new;
        log_is = refl;
        whole = so_far.ended;
        fine = fine;
        number_is = next;
        unended = cut.unended;
        long = cut.long;
      });
    }
    cut_stops new line input.Input left fine next cut = any_time comes_to (at 0 Input) (λ log. no_input)
    cut_stops new line input.Memory left fine next cut = any_time comes_to outcome.no_memory (λ log. no_memory)

    -- more pieces than can be counted
    pub count_stops : (line : ℕ) → 2 ^ 64 - 1 ≤ count → Stopped comes_to had done (at line TooLong)
    count_stops line many = record {
      log = done ++ (held ++ rest_of mid);
      is_log = rw (← append_assoc done held (rest_of mid)) (log_of had mid (done ++ held) so_far.consumed);
      behind = lines (held ++ rest_of mid);
      log_has = so_far.whole.apart (held ++ rest_of mid);
      stops = uncounted line (let before = so_far.many in
          let both = length-append done (held ++ rest_of mid) in omega arith);
    }
