-- A log in which nothing at fault was found has a script.
use Rattle.std.proofs.Common.{◌≡◌, ℕ, ◌^◌, List, [], ◌∷◌, Bool, true, false, cond, Option, Some, None, Result}
use Rattle.std.proofs.Common.{Ok, Err, refl, sym, ap, ◌∙◌, unwrap_or, nat_eq, subst, true≢false}
use Rattle.std.proofs.Math.Bool.{or-false, or-true}
use Rattle.std.specs.Result.{IsOk}
use Rattle.std.specs.Prelude.{nat_le, option_map, is_some}
use Rattle.std.specs.Option.{option_or}
use Rattle.std.proofs.lemmas.Bool.{eqb-true, eq-eqb}
use Rattle.pmp_text.specs.declared.refusal.Refusal.{Refusal}
use Rattle.pmp_text.specs.declared.refusal.Refusal.TheVariants.{BadNumber, NoHart, OddCfg}
use Rattle.pmp_text.specs.declared.fault.Fault.{Fault}
use Rattle.pmp_import.specs.declared.format.Format.{Format}
use Rattle.pmp_import.specs.declared.given.Given.{Given}
use Rattle.pmp_import.specs.declared.given.Walk.{Walk}
use Rattle.pmp_import.specs.declared.said.Said.{Said}
use Rattle.pmp_import.specs.declared.said.Said.TheVariants.{Nothing, Reset, Hart, Register}
use Rattle.pmp_import.specs.declared.said.Told.{Told}
use Rattle.pmp_import.specs.declared.survey.Survey.{Survey}
use Rattle.pmp_import.specs.Formats.{line_said}
use Rattle.pmp_import.specs.Imported
use Rattle.pmp_import.specs.Imported.{at, beginning, foreign, imported, imported_from, is_of_hart, is_read}
use Rattle.pmp_import.specs.Imported.{line_fault, said_text, unless, with_front}
use Rattle.pmp_import.specs.Surveys.{behind_found, behind_line, first_line, given_unless, hart_of, is_own}
use Rattle.pmp_import.specs.Surveys.{nothing_found, survey_fault, surveyed, surveyed_from, with_told}
use Rattle.pmp_import.specs.Laws.{SurveyedLaw}

-- ---- what was found stays found

record Grows (old new : Survey) : Type 0 where
  pub wide : (line : ℕ) → old.wide ≡ Some line → new.wide ≡ Some line
  pub of_rv32 : (line : ℕ) → old.of_rv32 ≡ Some line → new.of_rv32 ≡ Some line
  pub hart : (hart : ℕ) → old.hart ≡ Some hart → new.hart ≡ Some hart

same : (survey : Survey) → Grows survey survey
same survey = record { wide = λ line e. e; of_rv32 = λ line e. e; hart = λ hart e. e }

further : {old mid new : Survey} → Grows old mid → Grows mid new → Grows old new
further one other = record {
  wide = λ line e. other.wide line (one.wide line e);
  of_rv32 = λ line e. other.of_rv32 line (one.of_rv32 line e);
  hart = λ hart e. other.hart hart (one.hart hart e);
}

-- a survey of which a line was looked at, or not, and its hart was counted, or not
abbrev behind : (reads own : Bool) → Survey → Told → (hart : ℕ) → Survey
behind reads own survey told hart =
    let seen = cond own (with_told survey told) survey in cond reads seen (behind_found seen hart)

told_grows : (reads own : Bool) (survey : Survey) (told : Told) (hart : ℕ)
    → Grows survey (behind reads own survey told hart)
told_grows true true survey told hart =
    record { wide = λ line e. rw e refl; of_rv32 = λ line e. rw e refl; hart = λ it e. e }
told_grows true false survey told hart = same survey
told_grows false true survey told hart =
    record { wide = λ line e. rw e refl; of_rv32 = λ line e. rw e refl; hart = λ it e. rw e refl }
told_grows false false survey told hart =
    record { wide = λ line e. e; of_rv32 = λ line e. e; hart = λ it e. rw e refl }

line_grows : (survey : Survey) (said : Said) → Grows survey (behind_line survey said)
line_grows survey (Register told) =
    let hart = hart_of survey told in
    let grows = told_grows (is_read told.how) (is_own survey hart) survey told hart in
    record { wide = grows.wide; of_rv32 = grows.of_rv32; hart = grows.hart }
line_grows survey (Hart hart) = record { wide = λ line e. e; of_rv32 = λ line e. e; hart = λ hart e. e }
line_grows survey Reset = record { wide = λ line e. e; of_rv32 = λ line e. e; hart = λ hart e. e }
line_grows survey Nothing = record { wide = λ line e. e; of_rv32 = λ line e. e; hart = λ hart e. e }

module _ (format : Format) where
  by_line : (survey final : Survey) (more : List (List ℕ)) (read : Result Said Refusal)
      → ((said : Said) → surveyed_from format (behind_line survey said) more ≡ Ok final
      → Grows (behind_line survey said) final)
      → ◌≡◌ {A = Result Survey Fault} (elim read [
        | Ok said ↦ surveyed_from format (behind_line survey said) more
        | Err refusal ↦ Err (at survey.line refusal)
      ]) (Ok final) → Grows survey final
  by_line survey final more (Ok said) later e = further (line_grows survey said) (later said e)
  by_line survey final more (Err refusal) later e = absurd cc

  all_grow : (lines : List (List ℕ)) (survey final : Survey) → surveyed_from format survey lines ≡ Ok final
      → Grows survey final
  all_grow [] survey final e = let is : survey ≡ final = cc in subst (Grows survey) is (same survey)
  all_grow (line ∷ more) survey final e =
      by_line survey final more (line_said format line) (λ said. all_grow more (behind_line survey said) final) e

-- ---- two readings side by side

-- the survey stands where the import does
record Agrees (survey : Survey) (walk : Walk) : Type 0 where
  pub shown : survey.shown ≡ walk.shown
  pub found : walk.is_found ≡ false → survey.own ≡ 0

-- what is given is of the hart that was found, and no line at fault was
record IsFine (given : Given) (final : Survey) : Type 0 where
  pub hart : given.hart ≡ unwrap_or final.hart 0
  pub wide : given.is_rv32 ≡ true → final.wide ≡ None
  pub of_rv32 : given.is_rv32 ≡ false → final.of_rv32 ≡ None
  pub own : final.own ≡ 0 → ⊥

module _ (given : Given) (final : Survey) (fine : IsFine given final) where
  -- the hart of the script is the survey's own
  own_by : (known : Option ℕ) (hart : ℕ) → ((it : ℕ) → known ≡ Some it → given.hart ≡ it)
      → nat_eq hart given.hart ≡ true → nat_eq (unwrap_or known hart) hart ≡ true
  own_by None hart is e = eq-eqb hart hart refl
  own_by (Some it) hart is e =
      let one : given.hart ≡ it = is it refl in
      let other : hart ≡ given.hart = eqb-true hart given.hart e in
      eq-eqb it hart (sym (other ∙ one))

  hart_is : (survey : Survey) → Grows survey final → (it : ℕ) → survey.hart ≡ Some it → given.hart ≡ it
  hart_is survey grows it e = fine.hart ∙ ap (λ (h : Option ℕ). unwrap_or h 0) (grows.hart it e)

  is_ours : (survey : Survey) (walk : Walk) (told : Told) → survey.shown ≡ walk.shown → Grows survey final
      → is_of_hart given walk told ≡ true → is_own survey (hart_of survey told) ≡ true
  is_ours survey walk told shown grows e =
      own_by survey.hart (hart_of survey told) (hart_is survey grows) (rw shown e)

  -- ---- a line

  -- there is no line of a kind of which none was found
  none_there : (first later : Option ℕ) (line : ℕ) (is_one : Bool)
      → ((it : ℕ) → first_line first is_one line ≡ Some it → later ≡ Some it) → later ≡ None → is_one ≡ false
  none_there first later line false grows none = refl
  none_there None later line true grows none = let found : later ≡ Some line = grows line refl in absurd cc
  none_there (Some it) later line true grows none = let found : later ≡ Some it = grows it refl in absurd cc

  -- what a line tells of the hart is looked at, whether it is read or written
  looked_at : (reads own : Bool) (survey : Survey) (told : Told) (hart : ℕ) → own ≡ true
      → ((behind reads own survey told hart).wide ≡ (with_told survey told).wide)
      × ((behind reads own survey told hart).of_rv32 ≡ (with_told survey told).of_rv32)
  looked_at true true survey told hart e = (refl, refl)
  looked_at false true survey told hart e = (refl, refl)
  looked_at reads false survey told hart e = absurd cc

  no_fault : (is_rv32 : Bool) (told : Told) → (is_rv32 ≡ true → nat_le (2 ^ 32) told.value ≡ false)
      → (is_rv32 ≡ false → told.is_rv32 ≡ false) → foreign is_rv32 told ≡ None
  no_fault true told wide rv32 = rw (wide refl) refl
  no_fault false told wide rv32 = rw (rv32 refl) refl

  line_is_fine : (survey : Survey) (walk : Walk) (told : Told) → survey.shown ≡ walk.shown
      → Grows survey final → Grows (behind_line survey (Register told)) final
      → (ours : Bool) → is_of_hart given walk told ≡ ours
      → cond ours (foreign given.is_rv32 told) None ≡ None
  line_is_fine survey walk told shown now later false e = refl
  line_is_fine survey walk told shown now later true e =
      let hart = hart_of survey told in
      let seen = looked_at (is_read told.how) (is_own survey hart) survey told hart
      (is_ours survey walk told shown now e) in
      no_fault given.is_rv32 told
      (λ is. none_there survey.wide final.wide survey.line (nat_le (2 ^ 32) told.value)
      (λ it found. later.wide it (seen.0 ∙ found)) (fine.wide is))
      (λ is. none_there survey.of_rv32 final.of_rv32 survey.line told.is_rv32
      (λ it found. later.of_rv32 it (seen.1 ∙ found)) (fine.of_rv32 is))

  fine_line : (survey : Survey) (walk : Walk) (said : Said) → survey.shown ≡ walk.shown
      → Grows survey final → Grows (behind_line survey said) final → line_fault given walk said ≡ None
  fine_line survey walk (Register told) shown now later =
      line_is_fine survey walk told shown now later (is_of_hart given walk told) refl
  fine_line survey walk (Hart hart) shown now later = refl
  fine_line survey walk Reset shown now later = refl
  fine_line survey walk Nothing shown now later = refl

  -- ---- where both stand behind a line

  known_hart : (first : Option ℕ) (hart : ℕ) → nat_eq (unwrap_or first hart) hart ≡ true
      → option_or first (Some hart) ≡ Some hart
  known_hart None hart e = refl
  known_hart (Some it) hart e = ap Some (eqb-true it hart e)

  seen_own : (own : Bool) (survey : Survey) (told : Told) → (cond own (with_told survey told) survey).own ≡ survey.own
  seen_own true survey told = refl
  seen_own false survey told = refl

  module _ (survey : Survey) (walk : Walk) (told : Told) (agrees : Agrees survey walk)
      (now : Grows survey final) (later : Grows (behind_line survey (Register told)) final) where
    found_before : (ours : Bool) → is_of_hart given walk told ≡ ours → is_read told.how ≡ true
        → (Imported.behind_said given walk (Register told)).is_found ≡ false → walk.is_found ≡ false
    found_before true is reads lacks = sym (or-false walk.is_found) ∙ (rw (is, reads) at lacks)
    found_before false is reads lacks = rw is at lacks

    -- the survey's own hart is the script's
    given_is : is_read told.how ≡ false → is_own survey (hart_of survey told) ≡ true → given.hart ≡ hart_of survey told
    given_is reads own =
        let known : (behind_line survey (Register told)).hart ≡ Some (hart_of survey told) =
        rw (reads, own) (known_hart survey.hart (hart_of survey told) own) in
        fine.hart ∙ ap (λ (h : Option ℕ). unwrap_or h 0) (later.hart (hart_of survey told) known)

    found_then : (own ours : Bool) → is_own survey (hart_of survey told) ≡ own → is_of_hart given walk told ≡ ours
        → is_read told.how ≡ false → (Imported.behind_said given walk (Register told)).is_found ≡ false
        → (behind_line survey (Register told)).own ≡ 0
    found_then true ours own is reads lacks =
        let ours_is : is_of_hart given walk told ≡ true =
        rw (← agrees.shown) (eq-eqb _ _ (sym (given_is reads own))) in
        absurd (true≢false (sym (or-true walk.is_found) ∙ (rw (ours_is, reads) at lacks)))
    found_then false true own is reads lacks =
        let owned = is_ours survey walk told agrees.shown now is in absurd cc
    found_then false false own is reads lacks = rw (reads, own, own) (agrees.found (rw is at lacks))

    found_by : (reads : Bool) → is_read told.how ≡ reads
        → (Imported.behind_said given walk (Register told)).is_found ≡ false
        → (behind_line survey (Register told)).own ≡ 0
    found_by true reads lacks = rw reads (seen_own (is_own survey (hart_of survey told)) survey told
        ∙ agrees.found (found_before (is_of_hart given walk told) refl reads lacks))
    found_by false reads lacks =
        found_then (is_own survey (hart_of survey told)) (is_of_hart given walk told) refl refl reads lacks

    shown_there : (reads own : Bool) (hart : ℕ) → (behind reads own survey told hart).shown ≡ survey.shown
    shown_there true true hart = refl
    shown_there true false hart = refl
    shown_there false true hart = refl
    shown_there false false hart = refl

    shown_here : (ours : Bool)
        → (cond ours (Imported.behind_told given walk told) (Imported.behind_line walk)).shown ≡ walk.shown
    shown_here true = refl
    shown_here false = refl

    agree_told : Agrees (behind_line survey (Register told)) (Imported.behind_said given walk (Register told))
    agree_told = record {
      shown = shown_there (is_read told.how) (is_own survey (hart_of survey told)) (hart_of survey told)
          ∙ agrees.shown ∙ sym (shown_here (is_of_hart given walk told));
      found = found_by (is_read told.how) refl;
    }

  agree_behind : (survey : Survey) (walk : Walk) (said : Said) → Agrees survey walk → Grows survey final
      → Grows (behind_line survey said) final
      → Agrees (behind_line survey said) (Imported.behind_said given walk said)
  agree_behind survey walk (Register told) agrees now later = agree_told survey walk told agrees now later
  agree_behind survey walk (Hart hart) agrees now later = record { shown = refl; found = agrees.found }
  agree_behind survey walk Reset agrees now later = record { shown = agrees.shown; found = agrees.found }
  agree_behind survey walk Nothing agrees now later = record { shown = agrees.shown; found = agrees.found }

  -- ---- all lines

  front_ok : (front : List ℕ) (read : Result (List ℕ) Fault) → IsOk read → IsOk (with_front front read)
  front_ok front (Ok text) ok = ok
  front_ok front (Err fault) ok = ok

  at_end : (found : Bool) (walk : Walk) → walk.is_found ≡ found → (walk.is_found ≡ false → ⊥)
      → IsOk (imported_from given walk [])
  at_end true walk is some = rw is refl
  at_end false walk is some = absurd (some is)

  abbrev checked : Walk → Result Said Refusal → Result Said Refusal
  checked walk (Ok said) = unless (line_fault given walk said) said
  checked walk (Err refusal) = Err refusal

  abbrev outcome : Walk → List (List ℕ) → Result Said Refusal → Result (List ℕ) Fault
  outcome walk more (Ok said) = with_front (said_text given walk said)
      (imported_from given (Imported.behind_said given walk said) more)
  outcome walk more (Err refusal) = Err (at walk.line refusal)

  by_said : (survey : Survey) (walk : Walk) (more : List (List ℕ)) (read : Result Said Refusal)
      → ((said : Said) → surveyed_from given.format (behind_line survey said) more ≡ Ok final
      → (line_fault given walk said ≡ None) × IsOk (imported_from given (Imported.behind_said given walk said) more))
      → ◌≡◌ {A = Result Survey Fault} (elim read [
        | Ok said ↦ surveyed_from given.format (behind_line survey said) more
        | Err refusal ↦ Err (at survey.line refusal)
      ]) (Ok final)
      → IsOk (outcome walk more (checked walk read))
  by_said survey walk more (Ok said) later e = let (none, ok) = later said e in rw none (front_ok _ _ ok)
  by_said survey walk more (Err refusal) later e = absurd cc

  all_lines : (lines : List (List ℕ)) (survey : Survey) (walk : Walk) → Agrees survey walk
      → surveyed_from given.format survey lines ≡ Ok final → IsOk (imported_from given walk lines)
  all_lines [] survey walk agrees e =
      let is : survey ≡ final = cc in
      at_end walk.is_found walk refl (λ lacks. fine.own (ap (λ (it : Survey). it.own) (sym is) ∙ agrees.found lacks))
  all_lines (line ∷ more) survey walk agrees e =
      let now = all_grow given.format (line ∷ more) survey final e in
      by_said survey walk more (line_said given.format line) (λ said found.
      let later = all_grow given.format more (behind_line survey said) final found in (
        fine_line survey walk said agrees.shown now later,
        all_lines more (behind_line survey said) (Imported.behind_said given walk said)
            (agree_behind survey walk said agrees now later) found,
      )) e

-- ---- what is given

none_of : (f : ℕ → Fault) (first : Option ℕ) (rest : Option Fault)
    → option_or (option_map f first) rest ≡ None → (first ≡ None) × (rest ≡ None)
none_of f None rest e = (refl, e)
none_of f (Some line) rest e = absurd cc

some_own : (own : ℕ) → cond (nat_eq own 0) (Some (at 0 NoHart)) None ≡ None → own ≡ 0 → ⊥
some_own own e none = let is : nat_eq own 0 ≡ true = eq-eqb own 0 none in absurd cc

module _ (survey : Survey) (given : Given) (hart : given.hart ≡ unwrap_or survey.hart 0) where
  is_fine : (is_rv32 : Bool) → given.is_rv32 ≡ is_rv32 → survey_fault is_rv32 survey ≡ None → IsFine given survey
  is_fine true is e = let (wide, own) = none_of (λ line. at line BadNumber) survey.wide _ e in record {
    hart = hart;
    wide = λ _. wide;
    of_rv32 = λ other. absurd cc;
    own = some_own survey.own own;
  }
  is_fine false is e = let (of_rv32, own) = none_of (λ line. at line OddCfg) survey.of_rv32 _ e in record {
    hart = hart;
    wide = λ other. absurd cc;
    of_rv32 = λ _. of_rv32;
    own = some_own survey.own own;
  }

by_fault : (survey : Survey) (made given : Given) (lines : List (List ℕ)) (fault : Option Fault)
    → survey_fault made.is_rv32 survey ≡ fault → made.hart ≡ unwrap_or survey.hart 0 → (hart : Option ℕ)
    → surveyed made.format hart lines ≡ Ok survey → given_unless fault made ≡ Ok given
    → IsOk (imported given lines)
by_fault survey made given lines None none is hart found e =
    let same_given : made ≡ given = cc in
    subst (λ (it : Given). IsOk (imported it lines)) same_given
    (front_ok made survey (is_fine survey made is made.is_rv32 refl none) _ _
    (all_lines made survey (is_fine survey made is made.is_rv32 refl none) lines (nothing_found hart) beginning
    (record { shown = refl; found = λ lacks. refl }) found))
by_fault survey made given lines (Some fault) some is hart found e = absurd cc

pub surveyed_has_script : SurveyedLaw
surveyed_has_script format options lines survey given found gives =
    by_fault survey _ given lines (survey_fault (unwrap_or options.is_rv32 (is_some survey.of_rv32)) survey) refl refl
    options.hart found gives
