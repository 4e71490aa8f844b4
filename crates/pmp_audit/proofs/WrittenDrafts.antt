-- A draft that was appended is what its script's draft is, unless it is too long.
use Rattle.std.proofs.Common.{◌≡◌, ℕ, ◌+◌, ◌-◌, ◌≤◌, List, Result, Ok, Err, length, ap, ◌∙◌}
use Rattle.std.proofs.Common.{arith, true≢false}
use Rattle.std.specs.Prelude.{IfOk, false, is_err}
use Rattle.std.proofs.lemmas.List.{length-append}
use Rattle.pmp_text.specs.declared.trace.reader.TheConstants.{MAX_TRACE}
use Rattle.pmp_text.specs.Contents.{ScriptContents}
use Rattle.pmp_text.specs.Scripts.{script_meaning}
use Rattle.pmp_text.specs.Sizes.{IsInLimits}
use Rattle.pmp_lint.specs.EndState.{end_of}
use Rattle.pmp_audit.specs.Answers.{IsAppended}
use Rattle.pmp_audit.specs.PolicyDraft.{IsDraftOf, IsDraftText, last_moment}
use Rattle.pmp_audit.proofs.DraftHolds.{draft_holds}

module _ (script : List ℕ) (contents : ScriptContents) (means : script_meaning script ≡ Ok contents)
    (limits : IsInLimits contents.batches) (before after : List ℕ) where
  abbrev Drafted : Type 0
  Drafted = IsAppended (λ (_ : Unit {0}). IsDraftText (end_of contents) (last_moment contents)) before after tt

  pub drafted : Drafted → length after - length before ≤ MAX_TRACE
      → IsAppended (λ (_ : Unit {0}). IsDraftOf script) before after tt
  drafted it short =
      let longer : length after ≡ length before + length it.text =
      ap (λ (l : List ℕ). length l) it.appended ∙ length-append before it.text in
      record {
        text = it.text;
        says = record {
          contents = contents;
          script_means = means;
          text_is = it.says;
          holds = draft_holds contents (omega (arith, limits.publications)) it.text it.says
              (omega (arith, longer, short));
        };
        appended = it.appended;
      }

-- it is there if making it gave no error
pub made_good : {E : Type 0} (Is : Type 0) (made : Result (Unit {0}) E) → is_err made ≡ false → IfOk made (λ _. Is) → Is
made_good Is (Ok done) fine is = is
made_good Is (Err fault) wrong is = absurd (true≢false wrong)
