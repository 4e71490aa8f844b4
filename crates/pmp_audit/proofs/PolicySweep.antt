-- The verdict on a row, state by state.
use Rattle.std.proofs.Common.{◌≡◌, ◌≢◌, ℕ, ◌+◌, ◌<◌, ◌≤◌, List, Option, None, Some, drop, get_or, set, take}
use Rattle.std.proofs.Common.{◌-◌, ◌∙◌, ap, subst, suc, sym, arith, inl, inr, refl}
use Rattle.std.specs.Option.{option_map}
use Rattle.std.specs.Prelude.{All, is_some, false, length}
use Rattle.std.proofs.lemmas.Bool.{cases_lt, false≢true}
use Rattle.std.proofs.lemmas.List.{drop-set-lt, drop_more, take_more_set}
use Rattle.std.proofs.lemmas.List.Elements.{All-push}
use Rattle.pmp_core.specs.Decision.{IsByteOf}
use Rattle.pmp_core.specs.Moved.{AreAlikeBeside, IsMoved}
use Rattle.pmp_core.specs.RegisterFile.{RegisterFile}
use Rattle.pmp_map.specs.declared.run.Run.{Run}
use Rattle.pmp_text.specs.declared.lines.verdict.Breach.{Breach}
use Rattle.pmp_text.specs.declared.moments.Coming.{Coming}
use Rattle.pmp_text.specs.declared.moments.Coming.TheVariants as coming
use Rattle.pmp_text.specs.declared.policy.Demand.{Demand}
use Rattle.pmp_text.specs.declared.policy.Demand.TheVariants.{Never, Always, Held}
use Rattle.pmp_text.specs.declared.policy.PolicyRow.{PolicyRow}
use Rattle.pmp_audit.specs.PolicyCheck.{IsBroken, IsFirstBreach, IsFirstIn, IsFirstNotHeld, IsFirstOf}
use Rattle.pmp_audit.specs.PolicyCheck.{IsBreachOf, IsNotHeld, IsVerdict, IsVerdictBy, IsVerdictOn, state_after}
use Rattle.pmp_audit.specs.PolicyCheck.{step_count}
use Rattle.pmp_text.specs.Contents.{ScriptContents}
use Rattle.pmp_audit.specs.declared.policy_check.steps.Pace.{Pace}
use Rattle.pmp_audit.specs.declared.policy_check.steps.State.{State}
use Rattle.pmp_audit.specs.declared.policy_check.sweep.Judged.{Judged}
use Rattle.pmp_audit.specs.PolicySweep.{IsJudged, IsStateOf, IsVerdictBefore, told_of, verdict_on}
use Rattle.pmp_audit.proofs.PolicySteps.{no_fewer}

-- ---- from one state to the next

-- what breaks a row in a file breaks it in one that decides alike beside bytes of which it has none
module _ (before after : RegisterFile) (moved : Option _) (row : PolicyRow) (alike : AreAlikeBeside before after moved)
    (clear : (byte : ℕ) → row.first ≤ byte → byte ≤ row.last → ¬ (IsMoved moved byte)) where
  broken_before : (byte : ℕ) → row.first ≤ byte → byte ≤ row.last → IsBroken after row byte → IsBroken before row byte
  broken_before byte from to (mode, kind, named, has, (access, decision, is, decided, same)) =
      let begins = is.start_is in
      let long = is.length_is in
      let apart : (other : ℕ) → IsByteOf access other → ¬ (IsMoved moved other) =
      λ other here. clear other (omega (arith, here.0)) (omega (arith, here.1)) in
      (mode, kind, named, has, (access, decision, is, (alike access apart decision).1 decided, same))

  pub still_none : IsFirstIn before row None → IsFirstIn after row None
  still_none none byte from to broken = none byte from to (broken_before byte from to broken)

-- one state more without a breach
none_before : (state : ℕ → RegisterFile) (row : PolicyRow) (from done : ℕ)
    → ((k : ℕ) → from ≤ k → k < done → IsFirstIn (state k) row None) → IsFirstIn (state done) row None
    → (k : ℕ) → from ≤ k → k < done + 1 → IsFirstIn (state k) row None
none_before state row from done before here k after below = elim (cases_lt k done) [
  | inl earlier ↦ before k after earlier
  | inr now ↦ let same : done ≡ k = omega arith in
      subst (λ (n : ℕ). IsFirstIn (state n) row None) same here
]

module _ {states : ℕ → RegisterFile} {row : PolicyRow} {from to : ℕ} where
  -- ---- a breach

  verdict_by : (demand : Demand) (breach : Breach) → IsFirstBreach states row from to breach
      → IsVerdictBy demand states row from to (Some breach)
  verdict_by Never breach is = is
  verdict_by Always breach is = is
  verdict_by Held breach is = inl (refl, is)

  stays_broken : (done : ℕ) (breach : Breach) → IsFirstBreach states row from to breach
      → IsVerdictBefore states row from to done (Some breach)
  stays_broken done breach is = record { asking = λ _. is; asked = λ _. verdict_by row.demand breach is }

  module _ {done : ℕ} (after : from ≤ done) (until : done ≤ to)
      (before : IsVerdictBefore states row from to done None) where
    pub breaks : (breach : Breach) → breach.done ≡ done → IsFirstIn (states done) row (Some breach.run)
        → IsVerdictBefore states row from to (done + 1) (Some breach)
    breaks breach now here = stays_broken (done + 1) breach (record {
      after = omega arith;
      until = omega arith;
      before = λ k above below. before.asking until k above (omega arith);
      here = subst (λ (n : ℕ). IsFirstIn (states n) row (Some breach.run)) (sym now) here;
    })

    -- ---- no breach

    module _ (here : IsFirstIn (states done) row None) where
      none_until : (k : ℕ) → from ≤ k → k < done + 1 → IsFirstIn (states k) row None
      none_until = none_before states row from done (before.asking until) here

      none_by : (demand : Demand) → to ≡ done → (demand ≢ Held) → IsVerdictBy demand states row from to None
      none_by Never last other = λ k above below. none_until k above (omega arith)
      none_by Always last other = λ k above below. none_until k above (omega arith)
      none_by Held last other = absurd (other refl)

      pub holds_on : (row.demand ≡ Held → done ≢ to) → IsVerdictBefore states row from to (done + 1) None
      holds_on other = record {
        asking = λ _. none_until;
        asked = λ past.
            let last : to ≡ done = omega arith in
            none_by row.demand last (λ held. other held (omega arith));
      }

      held_by : (demand : Demand) (verdict : Option Breach) → demand ≡ Held → to ≡ done
          → IsFirstNotHeld states row to verdict → IsVerdictBy demand states row from to verdict
      held_by Never verdict other last is = absurd cc
      held_by Always verdict other last is = absurd cc
      held_by Held verdict same last is = inr (λ k above below. none_until k above (omega arith), is)

      -- in the last state the hold is asked for
      pub held_or_not : (verdict : Option Breach) → row.demand ≡ Held → to ≡ done
          → IsFirstNotHeld states row to verdict → IsVerdictBefore states row from to (done + 1) verdict
      held_or_not verdict held last is = record {
        asking = λ more. absurd (omega arith);
        asked = λ _. held_by row.demand verdict held last is;
      }

  -- ---- a state of which the row doesn't ask

  pub unasked : (done : ℕ) (verdict : Option Breach) → from ≤ to → IsVerdictBefore states row from to done verdict
      → (is_some verdict ≡ false → from ≤ done → done ≤ to → ⊥)
      → IsVerdictBefore states row from to (done + 1) verdict
  unasked done (Some breach) forward before not = elim (cases_lt to done) [
    | inl past ↦ record { asking = λ more. absurd (omega arith); asked = λ _. before.asked past }
    | inr by ↦ stays_broken (done + 1) breach (before.asking by)
  ]
  unasked done None forward before not = elim (cases_lt to done) [
    | inl past ↦ record { asking = λ more. absurd (omega arith); asked = λ _. before.asked past }
    | inr by ↦ elim (cases_lt done from) [
      | inl early ↦ record {
        asking = λ more k above below. absurd (omega arith);
        asked = λ past. absurd (omega arith);
      }
      | inr late ↦ absurd (not refl late by)
    ]
  ]

none_by_test : (verdict : Option Breach) → is_some verdict ≡ false → verdict ≡ None
none_by_test None none = refl
none_by_test (Some breach) some = absurd (false≢true (sym some))

-- ---- a row

module _ {states : ℕ → RegisterFile} {state : State} {row : PolicyRow} {from to : ℕ} (is : IsStateOf states state)
    (before : IsVerdictBefore states row from to state.done None) (until : state.done ≤ to) where
  -- what the row knows of the state before, if it asked of it
  abbrev Known : Type 0
  Known = from < state.done
      → (file : RegisterFile) × AreAlikeBeside file state.file state.moved × IsFirstIn file row None

  known : Known
  known later = (
    states (state.done - 1),
    is.moved (state.done - 1) (omega arith),
    before.asking until (state.done - 1) (omega arith) (omega arith),
  )

  -- what was so found in the file was found in the state
  pub here : (found : Option Run) → (Known → IsFirstIn state.file row found) → IsFirstIn (states state.done) row found
  here found first = subst (λ (f : RegisterFile). IsFirstIn f row found) is.file (first known)

  -- and what isn't held there isn't in the last state
  pub loose : state.done ≡ to → (found : Option Run)
      → IsFirstOf state.file (IsNotHeld state.file row) row found
      → IsFirstNotHeld states row to (option_map (λ run. record { done = state.done; run = run }) found)
  loose last None first = subst (λ (f : RegisterFile). IsFirstOf f (IsNotHeld f row) row None)
      (is.file ∙ ap states last) first
  loose last (Some run) first = (
    last,
    subst (λ (f : RegisterFile). IsFirstOf f (IsNotHeld f row) row (Some run)) (is.file ∙ ap states last) first,
  )

-- what is told of a row by its breach
told_so : (coming : Coming) (IsSo : Option Breach → Type 0) (breach : Option Breach) → IsSo breach
    → IsVerdictOn coming IsSo (verdict_on coming breach)
told_so coming.Met IsSo None is = is
told_so coming.Met IsSo (Some breach) is = is
told_so coming.Unmet IsSo breach is = refl
told_so coming.Waived IsSo breach is = refl

module _ (pace : Pace) (script : ScriptContents) (judged : Judged) (done : ℕ)
    (is : IsJudged pace script done judged) where
  forward : judged.from ≤ judged.to
  forward = let fewer = no_fewer pace script.batches judged.row.from judged.row.to judged.row.forward in
      omega (arith, is.from, is.to)

  pub open_before : is_some judged.verdict ≡ false
      → IsVerdictBefore (state_after pace script) judged.row judged.from judged.to done None
  open_before none = rw (none_by_test judged.verdict none) at is.verdict

  pub with_verdict : (verdict : Option Breach)
      → IsVerdictBefore (state_after pace script) judged.row judged.from judged.to (done + 1) verdict
      → IsJudged pace script (done + 1) (record judged { verdict = verdict })
  with_verdict verdict now = record { within = is.within; from = is.from; to = is.to; verdict = now }

  pub not_asked : (is_some judged.verdict ≡ false → judged.from ≤ done → done ≤ judged.to → ⊥)
      → IsJudged pace script (done + 1) judged
  not_asked not = record {
    within = is.within;
    from = is.from;
    to = is.to;
    verdict = unasked done judged.verdict forward is.verdict not;
  }

  -- once all states have gone by
  pub whole_verdict : step_count pace script.batches (length script.batches) < done
      → IsVerdict pace script judged.row (told_of judged)
  whole_verdict past =
      let fewer = no_fewer pace script.batches judged.row.to (length script.batches) is.within in
      told_so judged.row.coming (IsBreachOf pace script judged.row) judged.verdict
      (rw (is.from, is.to) at (is.verdict.asked (omega (arith, is.to, fewer, past))))

-- ---- all rows

-- the one at place i is asked, of which P is known, and then Q
module _ (P Q : Judged → Type 0) (rows : List Judged) (i : ℕ) (inside : i < length rows) (asked : Judged)
    (one : P (get_or rows i asked) → Q asked) where
  pub one_asked : All Q (take i rows) × All P (drop i rows)
      → All Q (take (i + 1) (set rows i asked)) × All P (drop (i + 1) (set rows i asked))
  one_asked (before, after) =
      let left = rw (drop_more rows i asked inside) at after in (
        rw (take_more_set rows i asked inside)
            (All-push Q (take i rows) asked before (one (left 0 asked (omega arith)))),
        rw (drop-set-lt (i + 1) rows i asked (omega arith)) (λ k d here. left (suc k) d (omega arith)),
      )
