-- A log that is looked at piece by piece.
use Rattle.std.proofs.Common.{◌≡◌, ℕ, ◌+◌, ◌-◌, ◌^◌, ◌≤◌, List, [], ◌++◌, length, Option, Ok, Err, refl, sym, ap}
use Rattle.std.proofs.Common.{◌∙◌, inr, append-nil, arith}
use Rattle.pmp_text.specs.declared.input.InputFault.{InputFault}
use Rattle.pmp_text.specs.declared.refusal.Refusal.TheVariants.{TooLong}
use Rattle.pmp_text.specs.Cutting.{AreLines, IsLast, IsLineCut}
use Rattle.pmp_text.specs.Inputs.{refusal_of_input}
use Rattle.pmp_text.specs.Lines.{lines}
use Rattle.pmp_text.specs.declared.fault.Fault.{Fault}
use Rattle.pmp_import.specs.declared.format.Format.{Format}
use Rattle.pmp_import.specs.declared.survey.Survey.{Survey}
use Rattle.pmp_import.specs.declared.whole_log.TheConstants.{MOST_LINES}
use Rattle.pmp_import.specs.Imported.{at, stop_at}
use Rattle.pmp_import.specs.Imports.{AreFine, CantSurvey, IsSurveyed}
use Rattle.pmp_import.specs.Steps.{FindsFault, FindsOn}
use Rattle.pmp_import.specs.Surveys.{nothing_found, one_more, surveyed}
use Rattle.pmp_import.proofs.KnownLogs.{Bytes, Stopped, Taken, count_stops, cut_stops, last_lines, last_log, last_stops}
use Rattle.pmp_import.proofs.KnownLogs.{no_lines, none_taken, one_taken, piece_stops}
use Rattle.pmp_import.proofs.Readings.{finds_further, finds_none}

-- so many pieces were looked at, and these bytes are held of what follows
pub record Looking (format : Format) (hart : Option ℕ) (count : ℕ) (had mid : Bytes) (held : List ℕ) (survey : Survey)
    : Type 0
  where
    pub done : List ℕ
    pub taken : Taken count had mid done held
    pub finds : FindsOn format (nothing_found hart) survey (lines done)

pub looking_begins : (format : Format) (hart : Option ℕ) (had : Bytes) (held : List ℕ) (survey : Survey)
    → held ≡ [] → survey ≡ nothing_found hart → Looking format hart 0 had had held survey
looking_begins format hart had held survey none begins = record {
  done = [];
  taken = none_taken had held none;
  finds = rw (no_lines, begins) (finds_none format (nothing_found hart));
}

cant_survey : {format : Format} {hart : Option ℕ} {had : Bytes} {done : List ℕ} {fault : Fault}
    → Stopped (surveyed format hart) had done fault → CantSurvey format hart had fault
cant_survey stopped = record { log = stopped.log; is_log = stopped.is_log; stops = stopped.stops }

module _ {format : Format} {hart : Option ℕ} {count : ℕ} {had mid : Bytes} {held : List ℕ} {survey : Survey}
    (looking : Looking format hart count had mid held survey) where
  stops_in : (piece : List ℕ) (fault : Fault) → FindsFault format survey (lines piece) fault
      → (more : List (List ℕ)) → surveyed format hart (lines looking.done ++ (lines piece ++ more)) ≡ Err fault
  stops_in piece fault stop more = looking.finds.finds_on (lines piece ++ more) ∙ stop more

  are_fine : AreFine (surveyed format hart) (lines looking.done)
  are_fine fault stop =
      let is : surveyed format hart (lines looking.done) ≡ Ok survey =
      ap (surveyed format hart) (sym (append-nil (lines looking.done))) ∙ looking.finds.finds_on [] in absurd cc

  next_line : survey.line ≡ one_more (length (lines looking.done))
  next_line = let next = looking.finds.counted 0 refl in omega arith

  -- ---- no lines

  pub cut_fault : (new : Bytes) (fault : InputFault) (left : List ℕ)
      → IsLineCut MOST_LINES held mid new left (Err fault)
      → CantSurvey format hart had (stop_at survey.line fault)
  cut_fault new fault left cut =
      cant_survey (cut_stops looking.taken (surveyed format hart) new survey.line fault left are_fine next_line cut)

  pub count_fault : 2 ^ 64 - 1 ≤ count → CantSurvey format hart had (at survey.line TooLong)
  count_fault many = cant_survey (count_stops looking.taken (surveyed format hart) survey.line many)

  -- ---- whole lines

  module _ {new : Bytes} {left : List ℕ} (piece : List ℕ) (cut : AreLines MOST_LINES held mid new left piece) where
    pub looks_on : {after : Survey} → FindsOn format survey after (lines piece)
        → Looking format hart (count + 1) had new left after
    looks_on finds = record {
      done = looking.done ++ piece;
      taken = one_taken looking.taken piece cut;
      finds = rw (looking.taken.whole.apart piece) (finds_further format looking.finds finds);
    }

    pub fault_at : (fault : Fault) → FindsFault format survey (lines piece) fault
        → CantSurvey format hart had fault
    fault_at fault stop = cant_survey
        (piece_stops looking.taken piece cut (surveyed format hart) fault (inr (stops_in piece fault stop _)))

  -- ---- the last lines

  module _ {new : Bytes} (piece : List ℕ) (cut : IsLast MOST_LINES held mid new piece) where
    pub fault_at_last : (fault : Fault) → FindsFault format survey (lines piece) fault
        → CantSurvey format hart had fault
    fault_at_last fault stop = cant_survey
        (last_stops looking.taken piece cut (surveyed format hart) fault (inr (stops_in piece fault stop [])))

    pub found_all : {after : Survey} → FindsOn format survey after (lines piece) → IsSurveyed format hart had after
    found_all finds = record {
      log = looking.done ++ piece;
      is_log = last_log looking.taken piece cut;
      found = ap (surveyed format hart) (last_lines looking.taken piece cut)
          ∙ looking.finds.finds_on (lines piece ++ []) ∙ finds.finds_on [];
    }
