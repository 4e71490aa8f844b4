-- The verdicts on a policy's rows, one after another.
use Rattle.std.proofs.Common.{◌≡◌, ℕ, ◌+◌, ◌<◌, cond, List, [], ◌∷◌, ◌++◌, length, map, None, Ok, Some}
use Rattle.std.proofs.Common.{get_or, suc, take, refl, sym, ap, ◌∙◌, arith}
use Rattle.std.specs.Prelude.{All, count_by, slice_get, zip}
use Rattle.std.specs.List.{AllZip, enumerate_from, flat_map, position_from}
use Rattle.std.specs.Option.{option_or}
use Rattle.std.proofs.lemmas.List.{flat_map_more, length-append, length-map, map-append, take_more}
use Rattle.std.proofs.lemmas.List.Sums.{sum_by_push}
use Rattle.std.proofs.lemmas.Slice.Zip.{AllZip-long}
use Rattle.pmp_text.specs.declared.lines.verdict.Verdict.{Verdict}
use Rattle.pmp_text.specs.Moments.{KnownMoments}
use Rattle.pmp_text.specs.declared.policy.PolicyRow.{PolicyRow}
use Rattle.pmp_text.specs.Cells.{RowValue}
use Rattle.pmp_text.specs.Contents.{ScriptContents}
use Rattle.pmp_text.specs.Labels.{LabelText, policy_labels}
use Rattle.pmp_text.specs.Policies.{policy_fields, policy_meaning}
use Rattle.pmp_text.specs.Scripts.{script_meaning}
use Rattle.pmp_text.specs.Verdicts.{is_breach}
use Rattle.pmp_text.proofs.Numbered.{enumerate_from-push}
use Rattle.pmp_text.proofs.PieceFaults.{position_apart}
use Rattle.pmp_audit.specs.declared.policy_check.PolicySummary.{PolicySummary}
use Rattle.pmp_audit.specs.declared.policy_check.steps.Pace.{Pace}
use Rattle.pmp_audit.specs.declared.policy_check.Breaches.{Breaches}
use Rattle.pmp_audit.specs.Answers.{AreAdded}
use Rattle.pmp_audit.specs.PolicyBreaches.{IsTold}
use Rattle.pmp_audit.specs.PolicyCheck.{IsVerdict}
use Rattle.pmp_audit.specs.declared.policy_check.sweep.Judged.{Judged}
use Rattle.pmp_audit.specs.Moments.{AreMoments}
use Rattle.pmp_audit.specs.PolicyRows.{AreWritten, IsToldOf}
use Rattle.pmp_audit.specs.PolicySweep.{rows_of, told_of, verdicts_of}
use Rattle.pmp_audit.specs.PolicyTexts.{PolicySays, all_told_rows, policy_summary, told_rows}
use Rattle.pmp_audit.proofs.Lists.{one_more_beside}

-- what is told of the row at this place
abbrev rows_at : List LabelText → (index : ℕ) → List Verdict → List RowValue
rows_at labels index told = told_rows (index + 1) (slice_get labels index) told

told_rows-push : (labels : List LabelText) (all : List (List Verdict)) (told : List Verdict)
    → all_told_rows labels (all ++ told ∷ []) ≡ all_told_rows labels all ++ rows_at labels (length all) told
unfolding all_told_rows
told_rows-push labels all told =
    let line : ℕ × List Verdict → List RowValue = λ (index, v). rows_at labels index v in
    let index : 0 + length all ≡ length all = omega arith in
    ap (flat_map line) (enumerate_from-push 0 all told)
    ∙ sym (flat_map_more line [] (enumerate_from 0 all) (0 + length all, told))
    ∙ ap (λ (n : ℕ). all_told_rows labels all ++ rows_at labels n told) index

same_summary : (one other : PolicySummary) → one.rows ≡ other.rows → one.broken ≡ other.broken
    → one.bare ≡ other.bare → one ≡ other
same_summary one other rows broken bare =
    (λ i. record { rows = rows i; broken = broken i; bare = bare i })

bare_push : (rows : List PolicyRow) (row : PolicyRow)
    → option_or (position_from (λ row. row.is_bare) 1 rows) (cond row.is_bare (Some (length rows + 1)) None)
    ≡ position_from (λ row. row.is_bare) 1 (rows ++ row ∷ [])
bare_push rows row =
    let number : length rows + 1 ≡ 1 + length rows = omega arith in
    ap (λ (n : ℕ). option_or (position_from (λ row. row.is_bare) 1 rows) (cond row.is_bare (Some n) None)) number
    ∙ sym (position_apart (λ (r : PolicyRow). r.is_bare) rows (row ∷ []) 1)

pub none_written : {A : Type 0} (Adds : List RowValue → A → A → Type 0) (none : (rows : A) → Adds [] rows rows)
    (Is : Judged → List Verdict → Type 0) (labels : List LabelText) (held : A) (summary : PolicySummary)
    → summary.rows ≡ 0 → summary.broken ≡ 0 → summary.bare ≡ None → AreWritten Adds Is [] labels held held summary
unfolding all_told_rows
none_written Adds none Is labels held summary rows broken bare = record {
  told = [];
  told_are = tt;
  added = none held;
  counted = same_summary summary (policy_summary [] []) rows broken bare;
}

module _ {A : Type 0} (Adds : List RowValue → A → A → Type 0)
    (both : (one other : List RowValue) (first second third : A) → Adds one first second → Adds other second third
    → Adds (one ++ other) first third)
    (Is : Judged → List Verdict → Type 0) (judged : List Judged) (labels : List LabelText)
    (before held : A) (summary : PolicySummary) (so_far : AreWritten Adds Is judged labels before held summary) where
  abbrev asked : List PolicyRow
  asked = rows_of judged

  abbrev verdicts : List Verdict
  verdicts = verdicts_of judged

  verdicts_so_far : summary.rows ≡ length verdicts
  verdicts_so_far = ap (λ (s : PolicySummary). s.rows) so_far.counted

  pub rows_so_far : summary.rows ≡ length judged
  rows_so_far = verdicts_so_far ∙ length-map judged told_of

  module _ (one : Judged) (after : A) (more : PolicySummary) where
    abbrev pub IsCounted : Type 0
    IsCounted = (more.rows ≡ summary.rows + 1) × (more.broken ≡ summary.broken + cond (is_breach (told_of one)) 1 0)
        × (more.bare ≡ option_or summary.bare (cond one.row.is_bare (Some (summary.rows + 1)) None))

    counted : IsCounted → more ≡ policy_summary (asked ++ one.row ∷ []) (verdicts ++ told_of one ∷ [])
    counted (one_more, broken, bare) =
        let many : more.rows ≡ length (verdicts ++ told_of one ∷ []) =
        one_more ∙ ap (λ (n : ℕ). n + 1) verdicts_so_far ∙ sym (length-append verdicts (told_of one ∷ [])) in
        let faults : more.broken ≡ count_by is_breach (verdicts ++ told_of one ∷ []) = broken
        ∙ ap (λ (s : PolicySummary). s.broken + cond (is_breach (told_of one)) 1 0) so_far.counted
        ∙ sym (sum_by_push (λ (v : Verdict). cond (is_breach v) 1 0) verdicts (told_of one)) in
        let long : summary.rows ≡ length asked = rows_so_far ∙ sym (length-map judged (λ one. one.row)) in
        let first : more.bare ≡ position_from (λ row. row.is_bare) 1 (asked ++ one.row ∷ []) = bare
        ∙ (λ i. option_or (so_far.counted i).bare (cond one.row.is_bare (Some (long i + 1)) None))
        ∙ bare_push asked one.row in
        same_summary more (policy_summary (asked ++ one.row ∷ []) (verdicts ++ told_of one ∷ [])) many faults first

    pub one_written : (told : List Verdict) → Is one told
        → Adds (told_rows more.rows (slice_get labels summary.rows) told) held after → IsCounted
        → AreWritten Adds Is (judged ++ one ∷ []) labels before after more
    one_written told is added all =
        let rows_more = sym (map-append (λ (j : Judged). j.row) judged (one ∷ [])) in
        let verdicts_more = sym (map-append told_of judged (one ∷ [])) in
        let place : summary.rows ≡ length so_far.told =
        rows_so_far ∙ sym (AllZip-long Is judged so_far.told so_far.told_are) in
        let same : told_rows more.rows (slice_get labels summary.rows) told ≡ rows_at labels (length so_far.told) told =
        ap (λ (n : ℕ). told_rows n (slice_get labels summary.rows) told) all.0
        ∙ ap (λ (n : ℕ). rows_at labels n told) place in
        record {
          told = so_far.told ++ told ∷ [];
          told_are = one_more_beside Is judged so_far.told one told so_far.told_are is;
          added = rw (told_rows-push labels so_far.told told) (both _ _ _ _ _ so_far.added (rw same at added));
          counted = counted all ∙ (λ i. policy_summary (rows_more i) (verdicts_more i));
        }

-- the rows before place i, and the one there
module _ (judged : List Judged) (i : ℕ) (one : Judged) (inside : i < length judged)
    (is : one ≡ get_or judged i one) where
  pub one_row_more : take (i + 1) judged ≡ take i judged ++ one ∷ []
  one_row_more = take_more judged i one inside ∙ ap (λ (j : Judged). take i judged ++ j ∷ []) (sym is)

each_judged : (R : PolicyRow → Verdict → Type 0) (judged : List Judged)
    → All (λ one. R one.row (told_of one)) judged → AllZip R (rows_of judged) (verdicts_of judged)
each_judged R [] all = tt
each_judged R (one ∷ judged) all = (
  all 0 one (omega arith),
  each_judged R judged (λ k d inside. all (suc k) d (omega arith)),
)

-- what is told of each row, beside the row and its verdict
each_told : (R : PolicyRow → Verdict → List Verdict → Type 0) (judged : List Judged) (told : List (List Verdict))
    → AllZip (λ one. R one.row (told_of one)) judged told
    → AllZip (λ (row, verdict). R row verdict) (zip (rows_of judged) (verdicts_of judged)) told
each_told R [] [] are = tt
each_told R [] (some ∷ told) are = absurd are
each_told R (one ∷ judged) [] are = absurd are
each_told R (one ∷ judged) (some ∷ told) are = (are.0, each_told R judged told are.1)

pub policy_says : (breaches : Breaches) (pace : Pace) (script policy : List ℕ) (contents : ScriptContents)
    (rows : List PolicyRow) (judged : List Judged) (summary : PolicySummary) (moments : KnownMoments)
    → script_meaning script ≡ Ok contents → AreMoments contents moments
    → policy_meaning moments policy ≡ Ok (map policy_fields rows) → rows_of judged ≡ rows
    → All (λ one. IsVerdict pace contents one.row (told_of one)) judged
    → {A : Type 0} (Adds : List RowValue → A → A → Type 0) (before after : A)
    → AreWritten Adds (IsToldOf breaches pace contents) judged (policy_labels policy) before after summary
    → AreAdded Adds (PolicySays breaches pace script policy) before after summary
policy_says breaches pace script policy contents rows judged summary moments script_means moments_are policy_means same
    all Adds before after written = record {
      rows = all_told_rows (policy_labels policy) written.told;
      added = written.added;
      says =
          record {
            contents = contents;
            script_means = script_means;
            moments = moments;
            moments_are = moments_are;
            rows = rows_of judged;
            policy_means = policy_means ∙ ap (λ (l : List PolicyRow). Ok (map policy_fields l)) (sym same);
            verdicts = verdicts_of judged;
            judged = each_judged (IsVerdict pace contents) judged all;
            told = written.told;
            told_are = each_told (IsTold breaches pace contents) judged written.told written.told_are;
            answer_is = refl;
            counted = written.counted;
          };
    }
