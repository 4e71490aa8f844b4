-- A row of a policy has one list of breaches.
use Rattle.std.proofs.Common.{◌≡◌, ◌∙◌, ℕ, zero, suc, ◌+◌, List, [], ◌∷◌, ◌++◌, ap, arith, filter_map, map, sym}
use Rattle.pmp_core.specs.RegisterFile.{RegisterFile}
use Rattle.pmp_map.specs.declared.run.Run.{Run}
use Rattle.pmp_map.proofs.OneList.{one_list_of_runs}
use Rattle.pmp_text.specs.declared.lines.verdict.Breach.{Breach}
use Rattle.pmp_text.specs.declared.lines.verdict.Verdict.{Verdict}
use Rattle.pmp_text.specs.declared.lines.verdict.Verdict.TheVariants.{Broken, Holds, Unmet}
use Rattle.pmp_text.specs.declared.policy.Demand.{Demand}
use Rattle.pmp_text.specs.declared.policy.Demand.TheVariants.{Never, Always, Held}
use Rattle.pmp_text.specs.declared.policy.PolicyRow.{PolicyRow}
use Rattle.pmp_text.specs.Contents.{ScriptContents}
use Rattle.pmp_audit.specs.declared.policy_check.Breaches.{Breaches}
use Rattle.pmp_audit.specs.declared.policy_check.Breaches.TheVariants as breaches
use Rattle.pmp_audit.specs.declared.policy_check.question.Question.{Question}
use Rattle.pmp_audit.specs.declared.policy_check.question.Question.TheVariants as question
use Rattle.pmp_audit.specs.declared.policy_check.steps.Pace.{Pace}
use Rattle.pmp_audit.specs.PolicyBreaches.{AreBegun, AreBreachesOf, AreHits, AreLoose, IsTold, begun, hit_of}
use Rattle.pmp_audit.specs.PolicyCheck.{state_after, step_count}

one_list_of_hits : (question : Question) (file : RegisterFile) (row : PolicyRow) (one other : List Run)
    → AreHits question file row one → AreHits question file row other → one ≡ other
one_list_of_hits question file row one other (runs, are, is) (others, too, same) =
    is ∙ ap (filter_map (hit_of question file row)) (one_list_of_runs file runs others are too) ∙ sym same

one_list_begun : (states : ℕ → RegisterFile) (row : PolicyRow) (from more : ℕ) (one other : List Breach)
    → AreBegun states row from more one → AreBegun states row from more other → one ≡ other
unfolding AreBegun
one_list_begun states row from zero one other (hits, are, is) (others, too, same) =
    is ∙ ap (begun from []) (one_list_of_hits question.IsBroken (states from) row hits others are too) ∙ sym same
one_list_begun states row from (suc more) one other (front, before, now, first, old, new, is)
    (front_too, before_too, now_too, first_too, old_too, new_too, same) =
    let fronts = one_list_begun states row from more front front_too first first_too in
    let olds = one_list_of_hits question.IsBroken (states (from + more)) row before before_too old old_too in
    let news = one_list_of_hits question.IsBroken (states (from + suc more)) row now now_too new new_too in
    is ∙ (λ i. fronts i ++ begun (from + suc more) (olds i) (news i)) ∙ sym same

one_list_loose : (demand : Demand) (found : List Breach) (last : RegisterFile) (row : PolicyRow) (to : ℕ)
    (one other : List Breach) → AreLoose demand found last row to one → AreLoose demand found last row to other
    → one ≡ other
one_list_loose Never found last row to one other is too = is ∙ sym too
one_list_loose Always found last row to one other is too = is ∙ sym too
one_list_loose Held (breach ∷ found) last row to one other is too = is ∙ sym too
one_list_loose Held [] last row to one other (loose, are, is) (others, too, same) =
    is ∙ ap (begun to []) (one_list_of_hits question.IsNotHeld last row loose others are too) ∙ sym same

one_list_of_breaches : (pace : Pace) (script : ScriptContents) (row : PolicyRow) (one other : List Breach)
    → AreBreachesOf pace script row one → AreBreachesOf pace script row other → one ≡ other
one_list_of_breaches pace script row one other is too =
    let states = state_after pace script in
    let from = step_count pace script.batches row.from in
    let to = step_count pace script.batches row.to in
    let more : is.found_are.more ≡ too.found_are.more = omega (arith, is.found_are.until, too.found_are.until) in
    let found : is.found ≡ too.found = one_list_begun states row from too.found_are.more is.found too.found
    (rw more at is.found_are.begun) too.found_are.begun in
    let loose : is.loose ≡ too.loose = one_list_loose row.demand too.found (states to) row to is.loose too.loose
    (rw found at is.loose_are) too.loose_are in
    is.all_is ∙ (λ i. found i ++ loose i) ∙ sym too.all_is

-- one list is told of a row with a verdict
pub told_alike : (breaches : Breaches) (pace : Pace) (script : ScriptContents) (row : PolicyRow) (verdict : Verdict)
    (one other : List Verdict) → IsTold breaches pace script row verdict one
    → IsTold breaches pace script row verdict other → one ≡ other
told_alike breaches.First pace script row verdict one other is too = is ∙ sym too
told_alike breaches.All pace script row Holds one other is too = is ∙ sym too
told_alike breaches.All pace script row (Unmet waived) one other is too = is ∙ sym too
told_alike breaches.All pace script row (Broken first) one other (all, are, is) (others, too, same) =
    is ∙ ap (map Broken) (one_list_of_breaches pace script row all others are too) ∙ sym same
