-- A script has one draft of a policy, and breaks no row of it.
use Rattle.std.proofs.Common.{◌≡◌, ℕ, List, [], ◌∷◌, ◌++◌, map, refl, sym, ap, ◌∙◌}
use Rattle.std.specs.Prelude.{count_by, zip}
use Rattle.std.specs.List.{AllByRecursion, AllZip, flat_map}
use Rattle.std.proofs.lemmas.List.Elements.{recursion_from_All}
use Rattle.pmp_core.specs.declared.access.Kind.{Kind}
use Rattle.pmp_core.specs.declared.access.Kind.TheVariants.{Fetch, Load, Store}
use Rattle.pmp_core.specs.declared.access.Mode.{Mode}
use Rattle.pmp_core.specs.declared.access.Mode.TheVariants.{M, U}
use Rattle.pmp_core.specs.RegisterFile.{RegisterFile}
use Rattle.pmp_text.specs.declared.lines.verdict.Verdict.TheVariants.{Holds}
use Rattle.pmp_text.specs.declared.policy.PolicyRow.{PolicyRow}
use Rattle.pmp_text.specs.Contents.{ScriptContents}
use Rattle.pmp_text.specs.Labels.{policy_labels}
use Rattle.pmp_text.specs.Verdicts.{is_breach}
use Rattle.pmp_lint.specs.EndState.{end_of}
use Rattle.pmp_audit.specs.declared.policy_check.steps.Pace.{Pace}
use Rattle.pmp_audit.specs.Laws.{DraftHoldsLaw, OneDraftLaw}
use Rattle.pmp_audit.specs.declared.policy_check.Breaches.{Breaches}
use Rattle.pmp_audit.specs.declared.policy_check.Breaches.TheVariants as breaches
use Rattle.pmp_audit.specs.PolicyBreaches.{IsTold}
use Rattle.pmp_audit.specs.PolicyCheck.{IsVerdict}
use Rattle.pmp_audit.specs.PolicyTexts.{all_told_rows, policy_summary}
use Rattle.pmp_audit.specs.PolicyDraft.{AreNeverRows, IsDraftText, IsModeText, header_text, last_moment, never_row}
use Rattle.pmp_audit.proofs.OneClosedList.{one_closed_list}
use Rattle.pmp_audit.proofs.OnePolicyAnswer.{one_policy_answer}

module _ (file : RegisterFile) (moment : List ℕ) where
  same_rows : (mode : Mode) (kind : Kind) (one other : List ℕ) → AreNeverRows file moment mode kind one
      → AreNeverRows file moment mode kind other → one ≡ other
  same_rows mode kind one other is too =
      is.rows
      ∙ ap (flat_map (never_row moment mode kind))
      (one_closed_list file mode kind 0 is.ranges too.ranges is.ranges_are too.ranges_are)
      ∙ sym too.rows

  same_mode : (mode : Mode) (one other : List ℕ) → IsModeText file moment mode one → IsModeText file moment mode other
      → one ≡ other
  same_mode mode one other is too =
      let fetches = same_rows mode Fetch is.fetches too.fetches is.fetches_are too.fetches_are in
      let loads = same_rows mode Load is.loads too.loads is.loads_are too.loads_are in
      let stores = same_rows mode Store is.stores too.stores is.stores_are too.stores_are in
      is.text_is ∙ cc (fetches, loads, stores) ∙ sym too.text_is

  same_draft : (one other : List ℕ) → IsDraftText file moment one → IsDraftText file moment other → one ≡ other
  same_draft one other is too =
      let machine = same_mode M is.machine too.machine is.machine_is too.machine_is in
      let others = same_mode U is.others too.others is.others_is too.others_is in
      is.text_is ∙ ap (λ (l : List ℕ). header_text ++ (l ++ is.others)) machine
      ∙ ap (λ (l : List ℕ). header_text ++ (too.machine ++ l)) others ∙ sym too.text_is

pub one_draft : OneDraftLaw
one_draft script one other is too =
    let contents : is.contents ≡ too.contents = cc (is.script_means, too.script_means) in
    same_draft (end_of too.contents) (last_moment too.contents) one other (rw contents at is.text_is) too.text_is

-- ---- no row is broken

module _ (pace : Pace) (script : ScriptContents) where
  all_verdicts : (rows : List PolicyRow) → AllByRecursion (λ row. IsVerdict pace script row Holds) rows
      → AllZip (IsVerdict pace script) rows (map (λ (_ : PolicyRow). Holds) rows)
  all_verdicts [] are = tt
  all_verdicts (row ∷ more) (is, rest) = (is, all_verdicts more rest)

told_once : (breaches : Breaches) (pace : Pace) (script : ScriptContents) (row : PolicyRow)
    → IsTold breaches pace script row Holds (Holds ∷ [])
told_once breaches.First pace script row = refl
told_once breaches.All pace script row = refl

all_told : (breaches : Breaches) (pace : Pace) (script : ScriptContents) (rows : List PolicyRow)
    → AllZip (λ (row, verdict). IsTold breaches pace script row verdict)
    (zip rows (map (λ (_ : PolicyRow). Holds) rows)) (map (λ (_ : PolicyRow). Holds ∷ []) rows)
all_told breaches pace script [] = tt
all_told breaches pace script (row ∷ rows) = (told_once breaches pace script row, all_told breaches pace script rows)

none_broken : (rows : List PolicyRow) → count_by is_breach (map (λ (_ : PolicyRow). Holds) rows) ≡ 0
none_broken [] = refl
none_broken (row ∷ more) = none_broken more

pub unbroken_draft : DraftHoldsLaw
unbroken_draft breaches pace script draft summary answer is said =
    let contents : said.contents ≡ is.contents = cc (said.script_means, is.script_means) in
    let moments = rw contents at said.moments_are in
    let rows = is.holds.rows in
    let verdicts = map (λ (_ : PolicyRow). Holds) rows in
    let one = one_policy_answer breaches pace script draft summary (policy_summary rows verdicts) answer
    (all_told_rows (policy_labels draft) (map (λ (_ : PolicyRow). Holds ∷ []) rows)) said (record {
      contents = is.contents;
      script_means = is.script_means;
      moments = said.moments;
      moments_are = moments;
      rows = rows;
      policy_means = is.holds.policy_means said.moments moments;
      verdicts = verdicts;
      judged = all_verdicts pace is.contents rows
          (recursion_from_All (λ row. IsVerdict pace is.contents row Holds) rows (is.holds.hold pace));
      told = map (λ (_ : PolicyRow). Holds ∷ []) rows;
      told_are = all_told breaches pace is.contents rows;
      answer_is = refl;
      counted = refl;
    }) in
    ap (λ summary. summary.broken) one.0 ∙ none_broken rows
