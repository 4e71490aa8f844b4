-- A log that is at hand, read as a whole.
use Rattle.std.proofs.Common.{◌≡◌, ℕ, List, [], ◌++◌, Result, Ok, Err, refl, sym, ap, ◌∙◌, inl, inr}
use Rattle.std.proofs.Common.{append_assoc, append-nil}
use Rattle.pmp_text.specs.declared.fault.Fault.{Fault}
use Rattle.pmp_import.specs.declared.format.Format.{Format}
use Rattle.pmp_import.specs.declared.given.Given.{Given}
use Rattle.pmp_import.specs.declared.given.Walk.{Walk}
use Rattle.pmp_import.specs.declared.options.Options.{Options}
use Rattle.pmp_import.specs.declared.survey.Survey.{Survey}
use Rattle.pmp_import.specs.Imported.{beginning, head_text, imported, imported_from, with_front}
use Rattle.pmp_import.specs.LogTexts.{GivesNone, IsScriptOf, given_by, script_by}
use Rattle.pmp_import.specs.Steps.{AppendsScript, EndsWith, FindsFault, FindsOn, GoesOn, HasNoScript, StopsAt}
use Rattle.pmp_import.specs.Steps.{StopsAtEnd}
use Rattle.pmp_import.specs.Surveys.{given_for, nothing_found, surveyed}

-- what is given is by what was found
pub known : (format : Format) (options : Options) (lines : List (List ℕ)) (survey : Survey)
    → FindsOn format (nothing_found options.hart) survey lines
    → given_by format options lines ≡ given_for format options survey
known format options lines survey finds =
    let is : surveyed format options.hart lines ≡ Ok survey =
    ap (surveyed format options.hart) (sym (append-nil lines)) ∙ finds.finds_on [] in rw (is, given_by) refl

pub unknown : (format : Format) (options : Options) (lines : List (List ℕ)) (fault : Fault)
    → FindsFault format (nothing_found options.hart) lines fault → given_by format options lines ≡ Err fault
unknown format options lines fault stops =
    let is : surveyed format options.hart lines ≡ Err fault =
    ap (surveyed format options.hart) (sym (append-nil lines)) ∙ stops [] in rw (is, given_by) refl

-- with what is given, the script is that of the lines
module _ (format : Format) (options : Options) (lines : List (List ℕ)) (given : Given)
    (is_given : given_by format options lines ≡ Ok given) where
  by_given : script_by format options lines ≡ imported given lines
  by_given = rw (is_given, script_by) refl

  pub is_script : (before after : List ℕ) → AppendsScript given lines before after
      → IsScriptOf format options lines before after
  is_script before after appends = record {
    script = appends.script;
    gives = by_given ∙ appends.gives;
    appended = appends.appended;
  }

  pub gives_none : (fault : Fault) → HasNoScript given lines fault → GivesNone format options lines fault
  gives_none fault (inl memory) = inl memory
  gives_none fault (inr none) = inr (by_given ∙ none)

module _ (given : Given) (lines : List (List ℕ)) where
  pub stops_first : (fault : Fault) → StopsAt given beginning lines fault → HasNoScript given lines fault
  stops_first fault (inl memory) = inl memory
  stops_first fault (inr stops) = inr (ap (with_front (head_text given))
      (ap (imported_from given beginning) (sym (append-nil lines)) ∙ stops []))

  module _ (walk : Walk) (head all : List ℕ) (reads : GoesOn given beginning walk lines head all) where
    read : (rest : Result (List ℕ) Fault) → imported_from given walk [] ≡ rest
        → imported given lines ≡ with_front (head_text given) (with_front reads.text rest)
    read rest is = ap (with_front (head_text given))
        (ap (imported_from given beginning) (sym (append-nil lines)) ∙ reads.goes_on []
        ∙ ap (with_front reads.text) is)

    pub stops_last : (fault : Fault) → StopsAtEnd given walk fault → HasNoScript given lines fault
    stops_last fault (inl memory) = inl memory
    stops_last fault (inr stops) = inr (read (Err fault) stops)

    pub appends_script : (start after : List ℕ) → head ≡ start ++ head_text given → EndsWith given walk all after
        → AppendsScript given lines start after
    appends_script start after begins ends = record {
      script = head_text given ++ (reads.text ++ ends.text);
      gives = read (Ok ends.text) ends.ends;
      appended = rw (ends.appended, reads.appended, begins) (simp append_assoc);
    }
