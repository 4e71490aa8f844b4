-- A log of any length from a reader: what it has, and its script, which is written.
use Rattle.std.specs.Prelude.{◌≡◌, ◌⊎◌, ℕ, ◌-◌, ◌^◌, ◌≤◌, List, [], ◌∷◌, ◌++◌, length, Option, Result, Ok, Err, IfSome}
use Rattle.std.specs.Prelude.{false}
use Rattle.std.specs.List.{list_any}
use Rattle.std.specs.Io.KnownBytes.{Appends, Keeps}
use Rattle.pmp_text.specs.declared.refusal.Refusal.TheVariants.{Input, Memory, Output, TooLong}
use Rattle.pmp_text.specs.Bytes.{AppendsBeginning}
use Rattle.pmp_text.specs.Lines.{is_line_feed, lines}
use Rattle.pmp_text.specs.declared.fault.Fault.{Fault}
use Rattle.pmp_import.specs.declared.format.Format.{Format}
use Rattle.pmp_import.specs.declared.given.Given.{Given}
use Rattle.pmp_import.specs.declared.survey.Survey.{Survey}
use Rattle.pmp_import.specs.declared.whole_log.TheConstants.{MOST_LINES}
use Rattle.pmp_import.specs.Imported.{at, front_text, imported}
use Rattle.pmp_import.specs.Surveys.{one_more, surveyed}
use Rattle.pmp_text.specs.FaultPlaces.{number_in}
use Rattle.pmp_text.specs.Outcomes as outcome

-- the log is what the reader had, as far as known
abbrev pub IsLog : (had : Option (List ℕ)) → (log : List ℕ) → Type 0
IsLog had log = IfSome had (λ those. log ≡ those)

-- ---- stops

-- the text is whole lines: it is empty, or ends with LF
abbrev pub AreWholeLines : List ℕ → Type 0
AreWholeLines text = (text ≡ []) ⊎ ((before : List ℕ) × (text ≡ before ++ 10 ∷ []))

-- none of these lines is at fault
abbrev pub AreFine : {X : Type 0} → (comes_to : List (List ℕ) → Result X Fault) → List (List ℕ) → Type 0
AreFine comes_to lines = (fault : Fault) → comes_to lines ≡ Err fault → number_in fault.place ≡ 0

-- the line with this number has at least `most` bytes, and none before it is at fault
pub record IsTooLong {X : Type 0} (comes_to : List (List ℕ) → Result X Fault) (most : ℕ) (log : List ℕ) (number : ℕ)
    : Type 0
  where
    pub front : List ℕ
    pub line : List ℕ
    pub behind : List ℕ
    pub log_is : log ≡ front ++ (line ++ behind)
    pub whole : AreWholeLines front
    pub fine : AreFine comes_to (lines front)
    pub number_is : number ≡ one_more (length (lines front))
    pub unended : list_any is_line_feed line ≡ false
    pub long : most ≤ length line

-- why a reading stops whose lines come to this
pub data Stops {X : Type 0} (comes_to : List (List ℕ) → Result X Fault) (log : List ℕ) : Fault → Type 0 where
  refused : (fault : Fault) → comes_to (lines log) ≡ Err fault → Stops comes_to log fault
  too_long : (number : ℕ) → IsTooLong comes_to MOST_LINES log number → Stops comes_to log (at number TooLong)
  uncounted : (number : ℕ) → 2 ^ 64 - 1 ≤ length log → Stops comes_to log (at number TooLong)
  no_memory : Stops comes_to log outcome.no_memory
  no_input : Stops comes_to log (at 0 Input)
  no_output : Stops comes_to log outcome.no_output

-- ---- the script

-- the log's script was written
pub record IsImported (given : Given) (had : Option (List ℕ)) (before after : Option (List ℕ)) : Type 0 where
  pub log : List ℕ
  pub is_log : IsLog had log
  pub script : List ℕ
  pub gives : imported given (lines log) ≡ Ok script
  pub written : Appends before after script

-- the text is what the first lines of the log give
pub record IsFrontOf (given : Given) (log text : List ℕ) : Type 0 where
  pub front : List (List ℕ)
  pub behind : List (List ℕ)
  pub log_has : lines log ≡ front ++ behind
  pub gives : text ≡ front_text given front

-- nothing was written, or what the first lines of the log give; if the output failed, a prefix of that or of the script
pub data WroteFront (given : Given) (log : List ℕ) (before after : Option (List ℕ)) : Fault → Type 0 where
  nothing : (fault : Fault) → Keeps before after → WroteFront given log before after fault
  first_lines : (fault : Fault) (text : List ℕ) → IsFrontOf given log text → Appends before after text
      → WroteFront given log before after fault
  cut_off : (text : List ℕ) → IsFrontOf given log text ⊎ (imported given (lines log) ≡ Ok text)
      → AppendsBeginning before after text → WroteFront given log before after outcome.no_output

-- at most a part of it was written
pub record CantImport (given : Given) (had : Option (List ℕ)) (before after : Option (List ℕ)) (fault : Fault)
    : Type 0
  where
    pub log : List ℕ
    pub is_log : IsLog had log
    pub stops : Stops (imported given) log fault
    pub wrote : WroteFront given log before after fault

-- ---- the survey

-- the log was surveyed, with this hart asked for
pub record IsSurveyed (format : Format) (hart : Option ℕ) (had : Option (List ℕ)) (survey : Survey) : Type 0 where
  pub log : List ℕ
  pub is_log : IsLog had log
  pub found : surveyed format hart (lines log) ≡ Ok survey

pub record CantSurvey (format : Format) (hart : Option ℕ) (had : Option (List ℕ)) (fault : Fault) : Type 0 where
  pub log : List ℕ
  pub is_log : IsLog had log
  pub stops : Stops (surveyed format hart) log fault
