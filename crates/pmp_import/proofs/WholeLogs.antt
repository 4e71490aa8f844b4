-- A log that is read, and its script written, piece by piece.
use Rattle.std.proofs.Common.{◌≡◌, ℕ, ◌+◌, ◌-◌, ◌^◌, ◌≤◌, List, [], ◌++◌, length, Some, None, Result, Ok, Err}
use Rattle.std.proofs.Common.{refl, sym, ap, ◌∙◌, subst, inl, inr, append_assoc, append-nil, arith}
use Rattle.std.specs.Prelude.{◌⊎◌}
use Rattle.std.specs.Io.KnownBytes.{Appends, Keeps}
use Rattle.std.proofs.KnownBytes.{Appends-nil, Appends-trans, Keeps-refl}
use Rattle.pmp_text.specs.declared.input.InputFault.{InputFault}
use Rattle.pmp_text.specs.declared.refusal.Refusal.TheVariants.{Memory, Output, TooLong}
use Rattle.pmp_text.specs.Bytes.{AppendsBeginning}
use Rattle.pmp_text.specs.Cutting.{AreLines, IsLast, IsLineCut}
use Rattle.pmp_text.specs.Inputs.{refusal_of_input}
use Rattle.pmp_text.specs.Lines.{lines}
use Rattle.pmp_text.specs.declared.fault.Fault.{Fault}
use Rattle.pmp_import.specs.declared.given.Given.{Given}
use Rattle.pmp_import.specs.declared.given.Walk.{Walk}
use Rattle.pmp_import.specs.declared.whole_log.TheConstants.{MOST_LINES}
use Rattle.pmp_import.specs.Imported.{at, beginning, front_text, head_text, imported, imported_from, is_open, lines_text}
use Rattle.pmp_import.specs.Imported.{publish_if, stop_at, with_front}
use Rattle.pmp_import.specs.Imports.{AreFine, CantImport, IsFrontOf, IsImported, WroteFront, cut_off, first_lines, no_memory}
use Rattle.pmp_import.specs.Imports.{no_output, nothing}
use Rattle.pmp_import.specs.Steps.{EndsWith, GoesOn, StopsAt, StopsAtEnd}
use Rattle.pmp_import.specs.Surveys.{one_more}
use Rattle.pmp_import.proofs.KnownLogs.{Bytes, Stopped, Taken, any_time, count_stops, cut_stops, last_lines, last_log}
use Rattle.pmp_import.proofs.KnownLogs.{last_stops, no_lines, none_taken, one_taken, piece_stops}
use Rattle.pmp_import.proofs.Readings.{goes_further, goes_none, of_no_line, with_both}
use Rattle.pmp_text.specs.Outcomes as outcome

-- so many pieces were read, these bytes are held of what follows, and this text isn't written yet
pub record Going (given : Given) (count : ℕ) (had mid : Bytes) (held : List ℕ) (out_old out_new : Bytes)
    (text : List ℕ) (walk : Walk) : Type 0
  where
    pub done : List ℕ
    pub taken : Taken count had mid done held
    pub part : List ℕ
    pub reads : GoesOn given beginning walk (lines done) (head_text given) (part ++ text)
    pub written : Appends out_old out_new part
    pub due : (part ≡ []) ⊎ (text ≡ [])

pub going_begins : (given : Given) (had : Bytes) (held : List ℕ) (out : Bytes) (text : List ℕ) (walk : Walk)
    → held ≡ [] → text ≡ head_text given → walk ≡ beginning → Going given 0 had had held out out text walk
going_begins given had held out text walk none head begins = record {
  done = [];
  taken = none_taken had held none;
  part = [];
  reads = rw (no_lines, begins, head) (goes_none given beginning (head_text given));
  written = Appends-nil out;
  due = inl refl;
}

-- nothing was read, for lack of memory
pub cant_begin : (given : Given) (had out : Bytes) → CantImport given had out out outcome.no_memory
cant_begin given had out =
    let stopped = any_time (none_taken had [] refl) (imported given) outcome.no_memory (λ log. no_memory) in record {
      log = stopped.log;
      is_log = stopped.is_log;
      stops = stopped.stops;
      wrote = nothing outcome.no_memory (Keeps-refl out);
    }

-- ---- what was written

-- these lines give this text
all_given : (given : Given) (walk : Walk) (front : List (List ℕ)) (text : List ℕ)
    → GoesOn given beginning walk front (head_text given) text → text ≡ front_text given front
all_given given walk front text reads =
    reads.appended ∙ ap (λ (l : List ℕ). head_text given ++ l)
    (sym (ap (lines_text given beginning) (sym (append-nil front)) ∙ reads.gives [] ∙ append-nil reads.text))

nothing_more : (old new : Bytes) → Appends old new [] → Keeps old new
nothing_more None new kept = tt
nothing_more (Some those) None kept = absurd kept
nothing_more (Some those) (Some new) kept = kept ∙ append-nil those

module _ (given : Given) (log front : List ℕ) (behind : List (List ℕ)) (log_has : lines log ≡ lines front ++ behind) where
  is_front : (text : List ℕ) → text ≡ front_text given (lines front) → IsFrontOf given log text
  is_front text gives = record { front = lines front; behind = behind; log_has = log_has; gives = gives }

  -- a part of what these lines give was written: none, or all
  wrote_part : (fault : Fault) (old new : Bytes) (part text : List ℕ) → Appends old new part
      → part ++ text ≡ front_text given (lines front) → (part ≡ []) ⊎ (text ≡ [])
      → WroteFront given log old new fault
  wrote_part fault old new part text written all (inl none) =
      nothing fault (nothing_more old new (subst (Appends old new) none written))
  wrote_part fault old new part text written all (inr none) = first_lines fault part
      (is_front part (sym (append-nil part) ∙ ap (λ (l : List ℕ). part ++ l) (sym none) ∙ all)) written

module _ {given : Given} {count : ℕ} {had mid : Bytes} {held : List ℕ} {out_old out_mid : Bytes} {text : List ℕ}
    {walk : Walk} (going : Going given count had mid held out_old out_mid text walk) where
  abbrev going_script : List ℕ
  going_script = going.part ++ text

  stops_here : (fault : Fault) → Stopped (imported given) had going.done fault
      → CantImport given had out_old out_mid fault
  stops_here fault stopped = record {
    log = stopped.log;
    is_log = stopped.is_log;
    stops = stopped.stops;
    wrote = wrote_part given stopped.log going.done stopped.behind stopped.log_has fault out_old out_mid going.part text
        going.written (all_given given walk (lines going.done) going_script going.reads) going.due;
  }

  -- a prefix of this text was written
  begins : (out_new : Bytes) (after : List ℕ) → AppendsBeginning out_mid out_new after
      → AppendsBeginning out_old out_new (going.part ++ after)
  begins out_new after (front, rest, is, wrote) = (
    going.part ++ front,
    rest,
    ap (λ (l : List ℕ). going.part ++ l) is ∙ sym (append_assoc going.part front rest),
    Appends-trans _ _ _ _ _ going.written wrote,
  )

  imported_on : (more : List (List ℕ))
      → imported given (lines going.done ++ more) ≡ with_front going_script (imported_from given walk more)
  imported_on more = ap (with_front (head_text given)) (going.reads.goes_on more)
      ∙ with_both (head_text given) going.reads.text (imported_from given walk more)
      ∙ ap (λ (front : List ℕ). with_front front (imported_from given walk more)) (sym going.reads.appended)

  are_fine : AreFine (imported given) (lines going.done)
  are_fine fault stop = of_no_line walk.is_found going_script (publish_if (is_open walk)) fault
      (sym (ap (imported given) (sym (append-nil (lines going.done))) ∙ imported_on []) ∙ stop)

  next_line : walk.line ≡ one_more (length (lines going.done))
  next_line = let next = going.reads.counted 0 refl in omega arith

  -- ---- no lines

  pub stops_at_cut : (new : Bytes) (fault : InputFault) (left : List ℕ)
      → IsLineCut MOST_LINES held mid new left (Err fault)
      → CantImport given had out_old out_mid (stop_at walk.line fault)
  stops_at_cut new fault left cut = stops_here (stop_at walk.line fault)
      (cut_stops going.taken (imported given) new walk.line fault left are_fine next_line cut)

  pub stops_at_count : 2 ^ 64 - 1 ≤ count → CantImport given had out_old out_mid (at walk.line TooLong)
  stops_at_count many =
      stops_here (at walk.line TooLong) (count_stops going.taken (imported given) walk.line many)

  -- ---- some lines

  stops_in : (piece : List ℕ) (fault : Fault) (more : List (List ℕ)) → StopsAt given walk (lines piece) fault
      → (fault ≡ outcome.no_memory) ⊎ (imported given (lines going.done ++ (lines piece ++ more)) ≡ Err fault)
  stops_in piece fault more (inl memory) = inl memory
  stops_in piece fault more (inr stop) =
      inr (imported_on (lines piece ++ more) ∙ ap (with_front going_script) (stop more))

  -- ---- whole lines

  module _ {new : Bytes} {left : List ℕ} (piece : List ℕ) (cut : AreLines MOST_LINES held mid new left piece) where
    reads_on : (later : Walk) (after : List ℕ) → GoesOn given walk later (lines piece) text after
        → GoesOn given beginning later (lines (going.done ++ piece)) (head_text given) (going.part ++ after)
    reads_on later after reads = rw (going.taken.whole.apart piece) (goes_further given going.reads (record {
      text = reads.text;
      appended = ap (λ (l : List ℕ). going.part ++ l) reads.appended
          ∙ sym (append_assoc going.part text reads.text);
      goes_on = reads.goes_on;
      gives = reads.gives;
      counted = reads.counted;
    }))

    pub goes_on : {out_new : Bytes} {later : Walk} {after : List ℕ} → GoesOn given walk later (lines piece) text after
        → Appends out_mid out_new after → Going given (count + 1) had new left out_old out_new [] later
    goes_on {later = later} {after = after} reads wrote = record {
      done = going.done ++ piece;
      taken = one_taken going.taken piece cut;
      part = going.part ++ after;
      reads = rw (append-nil (going.part ++ after)) (reads_on later after reads);
      written = Appends-trans _ _ _ _ _ going.written wrote;
      due = inr refl;
    }

    -- a prefix of what these lines give was written
    pub cant_write : {later : Walk} {after : List ℕ} (out_new : Bytes) → GoesOn given walk later (lines piece) text after
        → AppendsBeginning out_mid out_new after → CantImport given had out_old out_new outcome.no_output
    cant_write {later = later} {after = after} out_new reads wrote =
        let stopped = any_time (one_taken going.taken piece cut) (imported given) outcome.no_output (λ log. no_output) in
        record {
          log = stopped.log;
          is_log = stopped.is_log;
          stops = stopped.stops;
          wrote = cut_off (going.part ++ after)
              (inl (is_front given stopped.log (going.done ++ piece) stopped.behind stopped.log_has (going.part ++ after)
              (all_given given later (lines (going.done ++ piece)) (going.part ++ after) (reads_on later after reads))))
              (begins out_new after wrote);
        }

    pub stops_at : (fault : Fault) → StopsAt given walk (lines piece) fault
        → CantImport given had out_old out_mid fault
    stops_at fault stop =
        stops_here fault (piece_stops going.taken piece cut (imported given) fault (stops_in piece fault _ stop))

  -- ---- the last lines

  module _ {new : Bytes} (piece : List ℕ) (cut : IsLast MOST_LINES held mid new piece) where
    pub stops_at_last : (fault : Fault) → StopsAt given walk (lines piece) fault
        → CantImport given had out_old out_mid fault
    stops_at_last fault stop =
        stops_here fault (last_stops going.taken piece cut (imported given) fault (stops_in piece fault [] stop))

    module _ {later : Walk} {between : List ℕ} (reads : GoesOn given walk later (lines piece) text between) where
      all_lines : (rest : Result (List ℕ) Fault) → imported_from given later [] ≡ rest
          → imported given (lines going.done ++ (lines piece ++ []))
          ≡ with_front going_script (with_front reads.text rest)
      all_lines rest is = imported_on (lines piece ++ []) ∙ ap (with_front going_script) (reads.goes_on []
          ∙ ap (with_front reads.text) is)

      pub stops_at_end : (fault : Fault) → StopsAtEnd given later fault
          → CantImport given had out_old out_mid fault
      stops_at_end fault (inl memory) =
          stops_here fault (last_stops going.taken piece cut (imported given) fault (inl memory))
      stops_at_end fault (inr stop) =
          stops_here fault (last_stops going.taken piece cut (imported given) fault (inr (all_lines (Err fault) stop)))

      whole_script : (after : List ℕ) → EndsWith given later between after
          → imported given (lines (going.done ++ piece)) ≡ Ok (going.part ++ after)
      whole_script after end = ap (imported given) (last_lines going.taken piece cut) ∙ all_lines (Ok end.text) end.ends
          ∙ ap Ok (append_assoc going.part text (reads.text ++ end.text)
          ∙ ap (λ (l : List ℕ). going.part ++ l) (sym (append_assoc text reads.text end.text)
          ∙ ap (λ (l : List ℕ). l ++ end.text) (sym reads.appended) ∙ sym end.appended))

      pub ends_well : {after : List ℕ} {out_new : Bytes} → EndsWith given later between after
          → Appends out_mid out_new after → IsImported given had out_old out_new
      ends_well {after = after} end wrote = record {
        log = going.done ++ piece;
        is_log = last_log going.taken piece cut;
        script = going.part ++ after;
        gives = whole_script after end;
        written = Appends-trans _ _ _ _ _ going.written wrote;
      }

      -- a prefix of the script was written
      pub cant_write_last : {after : List ℕ} (out_new : Bytes) → EndsWith given later between after
          → AppendsBeginning out_mid out_new after → CantImport given had out_old out_new outcome.no_output
      cant_write_last {after = after} out_new end wrote = record {
        log = going.done ++ piece;
        is_log = last_log going.taken piece cut;
        stops = no_output;
        wrote = cut_off (going.part ++ after) (inr (whole_script after end)) (begins out_new after wrote);
      }
