-- A script and a policy have one answer.
use mathlib.Core.HLevel.{is_prop→PathP}
use Rattle.std.proofs.Common.{◌≡◌, ℕ, ◌+◌, ◌<◌, ◌≤◌, map, Option, Some, None, refl, sym, ap, subst, ◌∙◌}
use Rattle.std.proofs.Common.{inl, inr, arith}
use Rattle.std.proofs.Math.Bridge.{le_prop}
use Rattle.std.proofs.lemmas.Bool.{cases_lt, false≢true}
use Rattle.std.proofs.lemmas.Option.{none-some}
use Rattle.std.specs.Prelude.{IsSome, zip}
use Rattle.pmp_core.specs.declared.access.TheConstants.{ADDRESS_LIMIT}
use Rattle.pmp_core.specs.Matching.{Matches}
use Rattle.pmp_core.specs.RegisterFile.{RegisterFile}
use Rattle.pmp_core.proofs.Decisions.{least_once}
use Rattle.pmp_map.specs.declared.run.Run.{Run}
use Rattle.pmp_text.specs.declared.lines.verdict.Breach.{Breach}
use Rattle.pmp_text.specs.declared.lines.verdict.Verdict.{Verdict}
use Rattle.pmp_text.specs.declared.lines.verdict.Verdict.TheVariants.{Broken, Holds, Unmet}
use Rattle.pmp_text.specs.declared.moments.Coming.{Coming}
use Rattle.pmp_text.specs.declared.moments.Coming.TheVariants as coming
use Rattle.pmp_text.specs.declared.policy.Demand.{Demand}
use Rattle.pmp_text.specs.declared.policy.Demand.TheVariants.{Never, Always, Held}
use Rattle.pmp_text.specs.declared.policy.PolicyRow.{PolicyRow}
use Rattle.pmp_text.specs.Labels.{policy_labels}
use Rattle.pmp_text.specs.Policies.{policy_fields}
use Rattle.pmp_audit.specs.Laws.{OnePolicyAnswerLaw}
use Rattle.pmp_audit.specs.PolicyCheck.{IsBroken, IsFirstBreach, IsFirstIn, IsFirstNotHeld, IsFirstOf, IsFirstOfAll}
use Rattle.pmp_audit.specs.PolicyCheck.{IsFirstRun, IsNotHeld}
use Rattle.pmp_audit.specs.PolicyCheck.{IsBreachOf, IsVerdict, IsVerdictBy, IsVerdictOn, state_after, step_count}
use Rattle.pmp_audit.specs.PolicyTexts.{policy_summary, all_told_rows}
use Rattle.pmp_audit.specs.PolicyBreaches.{IsTold}
use Rattle.pmp_audit.proofs.OneListOfBreaches.{told_alike}
use Rattle.pmp_audit.proofs.Lists.{one_by_map, one_list}
use Rattle.pmp_audit.proofs.LastingMoments.{one_moments}

-- ---- one run

same_run : (one other : Run) → one.first ≡ other.first → one.last ≡ other.last → one.owner ≡ other.owner → one ≡ other
same_run one other first last owner = λ i. record { first = first i; last = last i; owner = owner i }

module _ (file : RegisterFile) (IsSo : ℕ → Type 0) (row : PolicyRow) where
  abbrev First : Run → Type 0
  First run = IsFirstRun file IsSo row run

  begins_by : (one other : Run) → First one → First other → one.first ≤ other.first
  begins_by one other is too = elim (cases_lt other.first one.first) [
    | inr by ↦ by
    | inl before ↦ absurd (is.first other.first too.from before (too.all other.first (omega arith, too.proper)))
  ]

  module _ (one other : Run) (is : First one) (too : First other) where
    same_first : one.first ≡ other.first
    same_first = let here = begins_by one other is too in let there = begins_by other one too is in omega arith

    same_owner : one.owner ≡ other.owner
    same_owner = least_once (λ i. Matches file i one.first) one.owner other.owner
        (is.owned one.first (omega arith, is.proper))
        (too.owned one.first (omega (arith, same_first), omega (arith, same_first, too.proper)))

    ends_by : other.last ≤ one.last
    ends_by = elim (cases_lt one.last other.last) [
      | inr by ↦ by
      | inl before ↦
          absurd (is.apart (omega (arith, before, too.to)) other.owner
          (too.owned (one.last + 1) (omega (arith, same_first, is.proper), omega (arith, before))) same_owner)
    ]

  same_runs : (one other : Run) → First one → First other → one ≡ other
  same_runs one other is too =
      let here = ends_by one other is too in
      let there = ends_by other one too is in
      same_run one other (same_first one other is too) (omega arith) (same_owner one other is too)

  pub one_first : (one other : Option Run) → IsFirstOf file IsSo row one → IsFirstOf file IsSo row other
      → one ≡ other
  one_first None None is too = refl
  one_first None (Some run) is too =
      absurd (is run.first too.from (omega (arith, too.proper, too.to)) (too.all run.first (omega arith, too.proper)))
  one_first (Some run) None is too =
      absurd (too run.first is.from (omega (arith, is.proper, is.to)) (is.all run.first (omega arith, is.proper)))
  one_first (Some one) (Some other) is too = ap Some (same_runs one other is too)

-- ---- one verdict

same_breach : (one other : Breach) → one.done ≡ other.done → one.run ≡ other.run → one ≡ other
same_breach one other done run = λ i. record { done = done i; run = run i }

module _ (state : ℕ → RegisterFile) (row : PolicyRow) (from to : ℕ) where
  none_there : (done : ℕ) (run : Run) → IsFirstIn (state done) row None → IsFirstIn (state done) row (Some run) → ⊥
  none_there done run none some = none run.first some.from (omega (arith, some.proper, some.to))
      (some.all run.first (omega arith, some.proper))

  breaks_by : (one other : Breach) → IsFirstBreach state row from to one → IsFirstBreach state row from to other
      → one.done ≤ other.done
  breaks_by one other is too = elim (cases_lt other.done one.done) [
    | inr by ↦ by
    | inl before ↦ absurd (none_there other.done other.run (is.before other.done too.after before) too.here)
  ]

  same_breaches : (one other : Breach) → IsFirstBreach state row from to one → IsFirstBreach state row from to other
      → one ≡ other
  same_breaches one other is too =
      let here = breaks_by one other is too in
      let there = breaks_by other one too is in
      let done : one.done ≡ other.done = omega arith in
      let moved = subst (λ (n : ℕ). IsFirstIn (state n) row (Some one.run)) done is.here in
      let runs = one_first (state other.done) (IsBroken (state other.done) row) row (Some one.run)
      (Some other.run) moved too.here in
      same_breach one other done cc

  one_of_all : (one other : Option Breach) → IsFirstOfAll state row from to one → IsFirstOfAll state row from to other
      → one ≡ other
  one_of_all None None is too = refl
  one_of_all None (Some breach) is too =
      absurd (none_there breach.done breach.run (is breach.done too.after too.until) too.here)
  one_of_all (Some breach) None is too =
      absurd (none_there breach.done breach.run (too breach.done is.after is.until) is.here)
  one_of_all (Some one) (Some other) is too = ap Some (same_breaches one other is too)

  one_loose : (one other : Option Breach) → IsFirstNotHeld state row to one → IsFirstNotHeld state row to other
      → one ≡ other
  one_loose None None is too = refl
  one_loose None (Some breach) is too =
      absurd (none-some breach.run
      (one_first (state to) (IsNotHeld (state to) row) row None (Some breach.run) is too.1))
  one_loose (Some breach) None is too =
      absurd (none-some breach.run
      (one_first (state to) (IsNotHeld (state to) row) row None (Some breach.run) too is.1))
  one_loose (Some one) (Some other) is too =
      let runs = one_first (state to) (IsNotHeld (state to) row) row (Some one.run) (Some other.run) is.1 too.1 in
      ap Some (same_breach one other (is.0 ∙ sym too.0) cc)

  -- a row without a breach has none
  never_both : (verdict : Option Breach) → IsSome verdict → IsFirstOfAll state row from to verdict
      → IsFirstOfAll state row from to None → ⊥
  never_both None some is none = absurd (false≢true some)
  never_both (Some breach) some is none =
      none_there breach.done breach.run (none breach.done is.after is.until) is.here

  one_verdict_by : (demand : Demand) (one other : Option Breach) → IsVerdictBy demand state row from to one
      → IsVerdictBy demand state row from to other → one ≡ other
  one_verdict_by Never one other is too = one_of_all one other is too
  one_verdict_by Always one other is too = one_of_all one other is too
  one_verdict_by Held one other (inl is) (inl too) = one_of_all one other is.1 too.1
  one_verdict_by Held one other (inl is) (inr too) = absurd (never_both one is.0 is.1 too.0)
  one_verdict_by Held one other (inr is) (inl too) = absurd (never_both other too.0 too.1 is.0)
  one_verdict_by Held one other (inr is) (inr too) = one_loose one other is.1 too.1

one_told : (coming : Coming) (IsSo : Option Breach → Type 0)
    → ((one other : Option Breach) → IsSo one → IsSo other → one ≡ other) → (one other : Verdict)
    → IsVerdictOn coming IsSo one → IsVerdictOn coming IsSo other → one ≡ other
one_told coming.Met IsSo once Holds Holds is too = refl
one_told coming.Met IsSo once Holds (Broken breach) is too = absurd (none-some breach (once None (Some breach) is too))
one_told coming.Met IsSo once (Broken breach) Holds is too = absurd (none-some breach (once None (Some breach) too is))
one_told coming.Met IsSo once (Broken one) (Broken other) is too =
    let same = once (Some one) (Some other) is too in
    let breach : one ≡ other = cc in
    ap Broken breach
one_told coming.Met IsSo once (Unmet waived) other is too = absurd is
one_told coming.Met IsSo once Holds (Unmet waived) is too = absurd too
one_told coming.Met IsSo once (Broken breach) (Unmet waived) is too = absurd too
one_told coming.Unmet IsSo once one other is too = is ∙ sym too
one_told coming.Waived IsSo once one other is too = is ∙ sym too

-- ---- a row is what a policy says of it

same_row : (one other : PolicyRow) → policy_fields one ≡ policy_fields other → one ≡ other
same_row one other same = λ i. record {
  from = (same i).from;
  to = (same i).to;
  modes = (same i).modes;
  kinds = (same i).kinds;
  first = (same i).first;
  last = (same i).last;
  demand = (same i).demand;
  coming = (same i).coming;
  is_bare = (same i).is_bare;
  forward = is_prop→PathP (λ j. (same j).from ≤ (same j).to) (λ j. le_prop) one.forward other.forward i;
  ordered = is_prop→PathP (λ j. (same j).first ≤ (same j).last) (λ j. le_prop) one.ordered other.ordered i;
  inside = is_prop→PathP (λ j. (same j).last < ADDRESS_LIMIT) (λ j. le_prop) one.inside other.inside i;
}

-- ---- the law

pub one_policy_answer : OnePolicyAnswerLaw
one_policy_answer breaches pace script policy one other text another said too =
    let contents : said.contents ≡ too.contents = cc (said.script_means, too.script_means) in
    let moments : said.moments ≡ too.moments =
    one_moments too.contents said.moments too.moments (rw contents at said.moments_are) too.moments_are in
    let fields : map policy_fields said.rows ≡ map policy_fields too.rows =
    cc (moments, said.policy_means, too.policy_means) in
    let rows = one_by_map policy_fields same_row said.rows too.rows fields in
    let judged = rw (contents, rows) at said.judged in
    let verdicts = one_list (IsVerdict pace too.contents)
    (λ row. one_told row.coming (IsBreachOf pace too.contents row)
    (one_verdict_by (state_after pace too.contents) row (step_count pace too.contents.batches row.from)
    (step_count pace too.contents.batches row.to) row.demand)) too.rows said.verdicts too.verdicts judged too.judged in
    let told = one_list (λ (row, verdict). IsTold breaches pace too.contents row verdict)
    (λ (row, verdict). told_alike breaches pace too.contents row verdict) (zip too.rows too.verdicts) said.told too.told
    (rw (contents, rows, verdicts) at said.told_are) too.told_are in (
      said.counted ∙ ap (λ rows. policy_summary rows said.verdicts) rows ∙ ap (policy_summary too.rows) verdicts
          ∙ sym too.counted,
      said.answer_is ∙ ap (all_told_rows (policy_labels policy)) told ∙ sym too.answer_is,
    )
