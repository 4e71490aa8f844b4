use Rattle.std.proofs.Common.{None}
use Rattle.std.proofs.Common.{◌≡◌, ◌<◌, ◌∙◌, List, [], ◌∷◌, ap, arith, get_or, length, refl, subst, sym}
use Rattle.std.proofs.lemmas.List.{get_or-map}
use Rattle.pmp_text.specs.declared.policy.PolicyRow.{PolicyRow}
use Rattle.pmp_text.specs.Verdicts.{verdict_row}
use Rattle.pmp_audit.specs.declared.policy_check.sweep.Judged.{Judged}
use Rattle.pmp_audit.specs.PolicyCheck.{IsVerdict}
use Rattle.pmp_audit.proofs.policy_check.append_verdict.Goals as goal

pub returns-clause-ok : goal.returns-clause-ok
returns-clause-ok g c =
    let all = c.judge.new.rows in
    let one = get_or all 0 c.index-judged-0.result in
    let row = c.in-Ok.row in
    let inside : 0 < length all = omega (arith, c.judge.auto.rows) in
    let same : one.row ≡ row = sym (get_or-map (λ (j : Judged). j.row) all 0 c.index-judged-0.result row inside)
    ∙ ap (λ (l : List PolicyRow). get_or l 0 row) c.judge.ensures.rows ∙ c.new-2.ensures.row in
    let told = c.told-verdict.ensures in
    record {
      rows = verdict_row c.args.number c.told-verdict.result None ∷ [];
      says = record {
        contents = c.in_ok-script.script;
        script_means = c.in_ok-script.ensures;
        row = row;
        row_is = c.in-Ok.ensures.ok.1;
        proper = rw (← c.batches.ensures) c.in-Ok.ensures.ok.0;
        judged = subst (λ (r : PolicyRow). IsVerdict c.args.pace c.in_ok-script.script r c.told-verdict.result) same
            (rw told (c.judge.ensures.judged 0 c.index-judged-0.result inside));
        answer_is = refl;
      };
      added = c.in_ok-add_verdict.ensures.ok;
    }
