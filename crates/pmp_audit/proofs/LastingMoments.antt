-- From when on a thing lasts, publication by publication.
use Rattle.std.proofs.Common.{◌≡◌, ℕ, ◌+◌, ◌≤◌, Bool, true, false, not, List, Option, Some, None, Ok, refl, sym, ap}
use Rattle.std.proofs.Common.{subst}
use Rattle.std.proofs.Common.{◌-◌, ◌∙◌, inl, inr, arith, length}
use Rattle.std.proofs.lemmas.Bool.{cases_lt, false≢true}
use Rattle.pmp_text.specs.declared.moments.Lasting.{Lasting}
use Rattle.pmp_text.specs.declared.moments.When.{When}
use Rattle.pmp_text.specs.declared.moments.When.TheVariants.{Labelled, Number}
use Rattle.pmp_text.specs.Moments.{KnownMoments, when_place}
use Rattle.pmp_text.specs.Contents.{ScriptContents}
use Rattle.pmp_text.specs.Reports.{file_of_script}
use Rattle.pmp_text.specs.declared.mark.Mark.{Mark}
use Rattle.pmp_audit.specs.AskedFile.{IsAsked}
use Rattle.pmp_audit.specs.LastingStep.{lasting_with, since}
use Rattle.pmp_audit.specs.Moments.{AllLast, AreMoments, LastsFrom, MayLast}

module _ (holds : ℕ → Bool) where
  -- ---- one moment more

  lasts_at_first : (now : Bool) → holds 0 ≡ now → LastsFrom holds 0 (since None now 0)
  lasts_at_first false is = is
  lasts_at_first true is = (
    omega arith,
    λ done from to. let same : 0 ≡ done = omega arith in subst (λ (n : ℕ). holds n ≡ true) same is,
    λ done next. absurd (omega arith),
  )

  lasts_more : (last : ℕ) (found : Option ℕ) (now : Bool) → holds (last + 1) ≡ now → LastsFrom holds last found
      → LastsFrom holds (last + 1) (since found now (last + 1))
  lasts_more last found false is before = is
  lasts_more last None true is before = (
    omega arith,
    λ done from to. let same : last + 1 ≡ done = omega arith in subst (λ (n : ℕ). holds n ≡ true) same is,
    λ done next. let same : last ≡ done = omega arith in subst (λ (n : ℕ). holds n ≡ false) same before,
  )
  lasts_more last (Some first) true is (inside, all, fresh) = (
    omega arith,
    λ done from to. elim (cases_lt last done) [
      | inr by ↦ all done from by
      | inl now ↦ let same : last + 1 ≡ done = omega arith in subst (λ (n : ℕ). holds n ≡ true) same is
    ],
    fresh,
  )

  -- ---- there is one answer

  not_before : (last first second : ℕ) → LastsFrom holds last (Some first) → LastsFrom holds last (Some second)
      → second ≤ first
  not_before last first second (inside, all, fresh) (inside_too, all_too, fresh_too) =
      elim (cases_lt first second) [
        | inr by ↦ by
        | inl earlier ↦
            let back : (second - 1) + 1 ≡ second = omega arith in
            absurd (false≢true (sym (fresh_too (second - 1) back) ∙ all (second - 1) (omega arith) (omega arith)))
      ]

  lasts_once : (last : ℕ) (one other : Option ℕ) → LastsFrom holds last one → LastsFrom holds last other → one ≡ other
  lasts_once last None None is too = refl
  lasts_once last None (Some first) is (inside, all, fresh) =
      absurd (false≢true (sym is ∙ all last inside (omega arith)))
  lasts_once last (Some first) None (inside, all, fresh) too =
      absurd (false≢true (sym too ∙ all last inside (omega arith)))
  lasts_once last (Some one) (Some other) is too =
      let here = not_before last one other is too in
      let there = not_before last other one too is in
      let same : one ≡ other = omega arith in
      ap Some same

module _ (script : ScriptContents) where
  abbrev mml_at : ℕ → Bool
  mml_at done = (file_of_script script done).mseccfg.mml

  abbrev mmwp_at : ℕ → Bool
  mmwp_at done = (file_of_script script done).mseccfg.mmwp

  abbrev clear_at : ℕ → Bool
  clear_at done = not (file_of_script script done).mseccfg.rlb

  pub all_at_first : (nothing : Lasting) → nothing.mml ≡ None → nothing.mmwp ≡ None → nothing.rlb_clear ≡ None
      → AllLast script 0 (lasting_with nothing (file_of_script script 0) 0)
  all_at_first nothing mml mmwp clear = record {
    mml = rw mml (lasts_at_first mml_at (mml_at 0) refl);
    mmwp = rw mmwp (lasts_at_first mmwp_at (mmwp_at 0) refl);
    rlb_clear = rw clear (lasts_at_first clear_at (clear_at 0) refl);
  }

  pub all_more : (last : ℕ) (lasting : Lasting) → AllLast script last lasting
      → AllLast script (last + 1) (lasting_with lasting (file_of_script script (last + 1)) (last + 1))
  all_more last lasting before = record {
    mml = lasts_more mml_at last lasting.mml (mml_at (last + 1)) refl before.mml;
    mmwp = lasts_more mmwp_at last lasting.mmwp (mmwp_at (last + 1)) refl before.mmwp;
    rlb_clear = lasts_more clear_at last lasting.rlb_clear (clear_at (last + 1)) refl before.rlb_clear;
  }

  all_once : (last : ℕ) (one other : Lasting) → AllLast script last one → AllLast script last other → one ≡ other
  all_once last one other is too =
      let mml = lasts_once mml_at last one.mml other.mml is.mml too.mml in
      let mmwp = lasts_once mmwp_at last one.mmwp other.mmwp is.mmwp too.mmwp in
      let clear = lasts_once clear_at last one.rlb_clear other.rlb_clear is.rlb_clear too.rlb_clear in
      (λ i. record { mml = mml i; mmwp = mmwp i; rlb_clear = clear i })

  lasting_once : (marks : Option (List Mark)) (one other : Option Lasting) → MayLast marks script one
      → MayLast marks script other → one ≡ other
  lasting_once None one other is too = is ∙ sym too
  lasting_once (Some marks) None other is too = absurd is
  lasting_once (Some marks) (Some one) None is too = absurd too
  lasting_once (Some marks) (Some one) (Some other) is too = ap Some (all_once (length script.batches) one other is too)

-- a script's moments are these
pub one_moments : (script : ScriptContents) (one other : KnownMoments) → AreMoments script one → AreMoments script other
    → one ≡ other
one_moments script one other is too =
    let publications = is.publications ∙ sym too.publications in
    let marks = is.marks ∙ sym too.marks in
    let lasting = lasting_once script script.marks one.lasting other.lasting is.lasting too.lasting in
    (λ i. record { publications = publications i; marks = marks i; lasting = lasting i })

-- so many publications are asked for
module _ (script : ScriptContents) where
  same_place : (when : When) (one other : KnownMoments) (done too_done : ℕ) → one ≡ other
      → when_place one when ≡ Ok done → when_place other when ≡ Ok too_done → done ≡ too_done
  same_place when one other done too_done same is too =
      let both : Ok done ≡ Ok too_done = sym is ∙ ap (λ (m : KnownMoments). when_place m when) same ∙ too in cc

  pub one_count : (after : Option When) (done other : ℕ) → IsAsked after script done → IsAsked after script other
      → done ≡ other
  one_count None done other is too = is ∙ sym too
  one_count (Some (Number number)) done other is too = is ∙ sym too
  one_count (Some (Labelled label)) done other (one, are, is) (another, are_too, too) =
      same_place (Labelled label) one another done other (one_moments script one another are are_too) is too
