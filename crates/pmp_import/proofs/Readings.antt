-- Readings of lines, one after the other.
use Rattle.std.proofs.Common.{◌≡◌, ℕ, ◌+◌, List, [], ◌∷◌, ◌++◌, length, Bool, true, false, cond, Result, Ok, Err, refl}
use Rattle.std.proofs.Common.{sym, ap, ◌∙◌, append_assoc, append-nil, arith}
use Rattle.std.proofs.lemmas.List.{length-append}
use Rattle.pmp_text.specs.declared.refusal.Refusal.{Refusal}
use Rattle.pmp_text.specs.declared.refusal.Refusal.TheVariants.{NoHart}
use Rattle.pmp_text.specs.declared.fault.Fault.{Fault}
use Rattle.pmp_import.specs.declared.given.Given.{Given}
use Rattle.pmp_import.specs.declared.given.Walk.{Walk}
use Rattle.pmp_import.specs.declared.said.Said.{Said}
use Rattle.pmp_import.specs.declared.said.Said.TheVariants.{Nothing, Reset, Hart, Register}
use Rattle.pmp_import.specs.declared.said.Told.{Told}
use Rattle.pmp_import.specs.Formats.{line_said}
use Rattle.pmp_import.specs.Imported as Imported
use Rattle.pmp_import.specs.Imported.{at, imported_from, is_of_hart, line_of, lines_text, said_text, with_front}
use Rattle.pmp_import.specs.declared.format.Format.{Format}
use Rattle.pmp_import.specs.declared.survey.Survey.{Survey}
use Rattle.pmp_import.specs.Steps.{FindsOn, GoesOn}
use Rattle.pmp_import.specs.Surveys.{behind_line, one_more, surveyed_from}
use Rattle.pmp_text.specs.FaultPlaces.{number_in}

pub with_both : (one other : List ℕ) (read : Result (List ℕ) Fault)
    → with_front one (with_front other read) ≡ with_front (one ++ other) read
with_both one other (Ok text) = ap Ok (sym (append_assoc one other text))
with_both one other (Err fault) = refl

with_none : (read : Result (List ℕ) Fault) → read ≡ with_front [] read
with_none (Ok text) = refl
with_none (Err fault) = refl

-- the end of a log is no line's fault
pub of_no_line : (found : Bool) (front text : List ℕ) (fault : Fault)
    → with_front front (cond found (Ok text) (Err (at 0 NoHart))) ≡ Err fault → number_in fault.place ≡ 0
of_no_line true front text fault e = absurd cc
of_no_line false front text fault e =
    let same : at 0 NoHart ≡ fault = cc in ap (λ (it : Fault). number_in it.place) (sym same)

-- ---- the numbers of lines

two_more : (count : ℕ) → one_more (one_more count) ≡ one_more (count + 1)
two_more count = omega arith

next_line : (line later count : ℕ) → later ≡ one_more line → line ≡ one_more count → later ≡ one_more (count + 1)
next_line line later count is here = is ∙ ap one_more here ∙ two_more count

module _ (given : Given) (walk : Walk) where
  line_told : (told : Told) (ours : Bool)
      → (cond ours (Imported.behind_told given walk told) (Imported.behind_line walk)).line ≡ one_more walk.line
  line_told told true = refl
  line_told told false = refl

  line_behind : (said : Said) → (Imported.behind_said given walk said).line ≡ one_more walk.line
  line_behind (Register told) = line_told told (is_of_hart given walk told)
  line_behind (Hart hart) = refl
  line_behind Reset = refl
  line_behind Nothing = refl

  -- ---- one line

  abbrev imported_by : (more : List (List ℕ)) → Result Said Refusal → Result (List ℕ) Fault
  imported_by more (Ok said) =
      with_front (said_text given walk said) (imported_from given (Imported.behind_said given walk said) more)
  imported_by more (Err refusal) = Err (at walk.line refusal)

  abbrev text_by : (more : List (List ℕ)) → Result Said Refusal → List ℕ
  text_by more (Ok said) =
      said_text given walk said ++ lines_text given (Imported.behind_said given walk said) more
  text_by more (Err refusal) = []

  pub goes_line : {line : List ℕ} {said : Said} {later : Walk} {before after : List ℕ}
      → line_of given walk line ≡ Ok said → later ≡ Imported.behind_said given walk said
      → after ≡ before ++ said_text given walk said → GoesOn given walk later (line ∷ []) before after
  goes_line {said = said} means is appended = rw is (record {
    text = said_text given walk said;
    appended = appended;
    goes_on = λ more. ap (imported_by more) means;
    gives = λ more. ap (text_by more) means;
    counted = λ count. next_line walk.line _ count (line_behind said);
  })

-- ---- many lines

module _ (given : Given) where
  pub goes_none : (walk : Walk) (text : List ℕ) → GoesOn given walk walk [] text text
  goes_none walk text = record {
    text = [];
    appended = sym (append-nil text);
    goes_on = λ more. with_none (imported_from given walk more);
    gives = λ more. refl;
    counted = λ count here. omega arith;
  }

  module _ {old mid : Walk} {lines : List (List ℕ)} {before between : List ℕ}
      (one : GoesOn given old mid lines before between) where
    pub goes_further : {new : Walk} {others : List (List ℕ)} {after : List ℕ}
        → GoesOn given mid new others between after → GoesOn given old new (lines ++ others) before after
    goes_further {new = new} {others = others} other = record {
      text = one.text ++ other.text;
      appended = other.appended ∙ ap (λ (l : List ℕ). l ++ other.text) one.appended
          ∙ append_assoc before one.text other.text;
      goes_on = λ more.
          ap (imported_from given old) (append_assoc lines others more) ∙ one.goes_on (others ++ more)
          ∙ ap (with_front one.text) (other.goes_on more)
          ∙ with_both one.text other.text (imported_from given new more);
      gives = λ more. ap (lines_text given old) (append_assoc lines others more) ∙ one.gives (others ++ more)
          ∙ ap (λ (l : List ℕ). one.text ++ l) (other.gives more)
          ∙ sym (append_assoc one.text other.text (lines_text given new more));
      counted = λ count here.
          let both = length-append lines others in
          let there = other.counted (count + length lines) (one.counted count here) in omega arith;
    }

-- ---- the first reading

module _ (format : Format) where
  pub finds_none : (survey : Survey) → FindsOn format survey survey []
  finds_none survey = record { finds_on = λ more. refl; counted = λ count here. omega arith }

  abbrev surveyed_by : (survey : Survey) (more : List (List ℕ)) → Result Said Refusal → Result Survey Fault
  surveyed_by survey more (Ok said) = surveyed_from format (behind_line survey said) more
  surveyed_by survey more (Err refusal) = Err (at survey.line refusal)

  pub finds_line : {line : List ℕ} {survey later : Survey} {said : Said}
      → line_said format line ≡ Ok said → later ≡ behind_line survey said → FindsOn format survey later (line ∷ [])
  finds_line {survey = survey} means is = rw is (record {
    finds_on = λ more. ap (surveyed_by survey more) means;
    counted = λ count. next_line survey.line _ count refl;
  })

  module _ {old mid : Survey} {lines : List (List ℕ)} (one : FindsOn format old mid lines) where
    pub finds_further : {new : Survey} {others : List (List ℕ)} → FindsOn format mid new others
        → FindsOn format old new (lines ++ others)
    finds_further {others = others} other = record {
      finds_on = λ more. ap (surveyed_from format old) (append_assoc lines others more) ∙ one.finds_on (others ++ more)
          ∙ other.finds_on more;
      counted = λ count here.
          let both = length-append lines others in
          let there = other.counted (count + length lines) (one.counted count here) in omega arith;
    }
