-- A script has one list of findings.
use Rattle.std.proofs.Common.{◌≡◌, ◌∙◌, sym, refl, ap, ap₂, ℕ, zero, suc, ◌+◌, ◌≤◌, List, [], ◌∷◌, ◌++◌, length, arith, inl, inr, rules}
use Rattle.std.proofs.lemmas.Bool.{cases_lt}
use Rattle.pmp_core.specs.declared.access.TheConstants.{ADDRESS_LIMIT}
use Rattle.pmp_core.specs.RegisterFile.{RegisterFile}
use Rattle.pmp_map.specs.declared.run.Run.{Run}
use Rattle.pmp_map.proofs.OneList.{one_list_of_runs}
use Rattle.pmp_text.specs.Contents.{ScriptContents}
use Rattle.pmp_text.specs.Reports.{file_of_script}
use Rattle.pmp_lint.specs.declared.finding.Finding.{Finding}
use Rattle.pmp_lint.specs.declared.stretch.Stretch.{Stretch}
use Rattle.pmp_lint.specs.EndState.{end_of}
use Rattle.pmp_lint.specs.Events.{Happening, file_after, happenings_in}
use Rattle.pmp_lint.specs.LateWrites.{late_writes}
use Rattle.pmp_lint.specs.OpenBetween.{AreFoundBetween, AreOfEvents, AreOpenBetween, AreStretchesFrom, IsStretch, of_stretches}
use Rattle.pmp_lint.specs.Report.{OneListOfFindingsLaw, of_locks, of_runs}
use Rattle.pmp_lint.proofs.Stretches.{opened_once}

same_fields : (one other : Stretch) → one.first ≡ other.first → one.last ≡ other.last
    → one.is_opened ≡ other.is_opened → one ≡ other
same_fields one other first last opened = search rules

module _ (before during after : RegisterFile) where
  -- a range ends no sooner than another that begins with it
  not_sooner : (one other : Stretch) → IsStretch before during after one → IsStretch before during after other
      → one.first ≡ other.first → other.last ≤ one.last
  not_sooner one other p q begin = elim (cases_lt one.last other.last) [
    | inr le ↦ le
    | inl sooner ↦
        let here = p.alike one.first (omega arith) p.proper in
        let there = q.alike one.first (omega (arith, begin)) (omega (arith, begin, p.proper, sooner)) in
        let same = opened_once before during after one.first one.is_opened other.is_opened here there in
        let next = q.alike (one.last + 1) (omega (arith, begin, p.proper)) (omega (arith, sooner)) in
        absurd (p.longest (omega (arith, q.below, sooner)) (rw same next))
  ]

  same_stretch : (one other : Stretch) → IsStretch before during after one → IsStretch before during after other
      → one.first ≡ other.first → one ≡ other
  same_stretch one other p q begin =
      let here = p.alike one.first (omega arith) p.proper in
      let there = q.alike one.first (omega (arith, begin)) (omega (arith, begin, q.proper)) in
      let same = opened_once before during after one.first one.is_opened other.is_opened here there in
      same_fields one other begin
      (omega (arith, not_sooner one other p q begin, not_sooner other one q p (sym begin))) same

  one_list : (first end : ℕ) (one other : List Stretch) → AreStretchesFrom before during after first end one
      → AreStretchesFrom before during after first end other → end ≡ ADDRESS_LIMIT → one ≡ other
  one_list first end [] [] p q whole = refl
  one_list first end [] (stretch ∷ other) p q whole =
      absurd (omega (arith, p, whole, q.0, q.1.proper, q.1.below))
  one_list first end (stretch ∷ one) [] p q whole =
      absurd (omega (arith, q, whole, p.0, p.1.proper, p.1.below))
  one_list first end (stretch ∷ one) (next ∷ other) p q whole =
      let same : stretch ≡ next = same_stretch stretch next p.1 q.1 (p.0 ∙ sym q.0) in
      let rest = one_list (stretch.last + 1) end one other p.2 (rw (← same) at q.2) whole in
      ap₂ (λ (r : Stretch) (l : List Stretch). r ∷ l) same rest

  found_once : (line : ℕ) (one other : List Finding) → AreFoundBetween before during after line one
      → AreFoundBetween before during after line other → one ≡ other
  found_once line one other p q =
      p.found
      ∙ ap (of_stretches line) (one_list 0 ADDRESS_LIMIT p.stretches q.stretches p.stretches_are q.stretches_are refl)
      ∙ sym q.found

joined_once : (a b c d one other : List Finding) → one ≡ a ++ b → other ≡ c ++ d → a ≡ c → b ≡ d → one ≡ other
joined_once a b c d one other p q first rest =
    p ∙ ap₂ (λ (x y : List Finding). x ++ y) first rest ∙ sym q

events_once : (before after : RegisterFile) (all : List Happening) (one other : List Finding)
    → AreOfEvents before after all one → AreOfEvents before after all other → one ≡ other
events_once before after [] one other p q = p ∙ sym q
events_once before after (it ∷ more) one other p q =
    joined_once p.first p.rest q.first q.rest one other p.joined q.joined
    (found_once before (file_after it) after it.line p.first q.first p.first_are q.first_are)
    (events_once before after more p.rest q.rest p.rest_are q.rest_are)

openings_once : (script : ScriptContents) (count : ℕ) (one other : List Finding) → AreOpenBetween script count one
    → AreOpenBetween script count other → one ≡ other
openings_once script zero one other p q = p ∙ sym q
openings_once script (suc n) one other p q =
    joined_once p.first p.rest q.first q.rest one other p.joined q.joined
    (openings_once script n p.first q.first p.first_are q.first_are)
    (events_once (file_of_script script n) (file_of_script script (n + 1)) (happenings_in script n) p.rest q.rest
    p.rest_are q.rest_are)

pub findings_once : OneListOfFindingsLaw
findings_once script one other p q =
    let late = late_writes script (length script.batches) in
    let runs = one_list_of_runs (end_of script) p.runs q.runs p.runs_are q.runs_are in
    let between = openings_once script (length script.batches) p.between q.between p.between_are q.between_are in
    p.all
    ∙ ap₂ (λ (r : List Run) (b : List Finding). of_locks script ++ of_runs script r ++ b ++ late) runs between
    ∙ sym q.all
