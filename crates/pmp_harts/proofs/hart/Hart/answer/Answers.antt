use Rattle.std.proofs.Common.{◌≡◌, IfSome, ap, sym, subst, ◌∙◌, refl, rules}
use Rattle.std.proofs.lemmas.List.Elements.{All-set}
use Rattle.pmp_core.specs.Ranges.{decision_of}
use Rattle.pmp_share.specs.declared.knowledge.Known.{Known}
use Rattle.pmp_share.specs.Batches.{StartsWith}
use Rattle.pmp_share.specs.Known.{file_of}
use Rattle.pmp_harts.specs.Tlb.{IsBehind}
use Rattle.pmp_harts.specs.Pages.{allows_at}
use Rattle.pmp_harts.proofs.Behind.{GoesOn, goes_on_twice, stay_behind, same_file, filled}
use Rattle.pmp_harts.proofs.hart.Hart.answer.Goals as goal
use Rattle.pmp_harts.proofs.hart.Hart.answer.Goals.{After-count-events, After-allows-allowed, After-rights, After-decide-events}
use Rattle.pmp_harts.proofs.hart.Hart.answer.Goals.{then-access-start+in_default+in_default-2, else-access-start}

-- ---- the checker

counted : (c : After-count-events) → GoesOn c.self.inside.checker c.count-events.new.self
counted c = (c.count-events.ensures.look.unit, c.count-events.ensures.look.begins)

filled_in : (c : After-rights) → GoesOn c.self.inside.checker c.rights.new.self
filled_in c = goes_on_twice c.self.inside.checker c.count-events.new.self c.rights.new.self
    (c.count-events.ensures.look.unit, c.count-events.ensures.look.begins) (c.rights.ensures.look.unit, c.rights.ensures.look.begins)

-- where it decides, it may have been asked for rights before, and the TLB is as it was
asked : (c : After-decide-events) → GoesOn c.self.inside.checker c.if-access-start.self-inside.checker
    × (c.if-access-start.self-inside.tlb ≡ c.self.inside.tlb)
asked c = elim c.if-access-start.branch [
  | then-access-start+in_default+in_default-2 w ↦ rw w.self-inside-is (
    goes_on_twice c.self.inside.checker c.count-events.new.self w.rights.new.self
        (c.count-events.ensures.look.unit, c.count-events.ensures.look.begins) (w.rights.ensures.look.unit, w.rights.ensures.look.begins),
    refl,
  )
  | else-access-start w ↦ rw w.self-inside-is ((c.count-events.ensures.look.unit, c.count-events.ensures.look.begins), refl)
]

decided : (c : After-decide-events) → GoesOn c.self.inside.checker c.decide-events.new.self
decided c = goes_on_twice c.self.inside.checker c.if-access-start.self-inside.checker c.decide-events.new.self
    (asked c).0 (c.decide-events.ensures.look.unit, c.decide-events.ensures.look.begins)

-- ---- by the TLB

held : (c : After-allows-allowed) → IsBehind c.self.inside.checker c.in-Some.page
held c = subst (λ place. IfSome place (IsBehind c.self.inside.checker)) c.in-Some.is
    (c.self.invariant _ c.index-self-place.result (search rules))

events : (c : After-allows-allowed) → c.in-Some.page.events ≡ c.count-events.result
events c = search rules

by_page : (c : After-allows-allowed) → c.allows-allowed.result ≡ allows_at c.count-events.new.self c.args.access.now
by_page c =
    let file : file_of c.count-events.new.self ≡ file_of c.in-Some.page.seen.value =
    same_file _ _ (c.count-events.ensures.look.unit, c.count-events.ensures.look.begins) c.law_same_events.ensures
    c.in-Some.page (held c) (sym c.count-events.ensures.look.count ∙ sym (events c) ∙ c.in-Some.page.counted) in
    c.allows-allowed.ensures ∙ ap (λ file. (decision_of file c.args.access.now).allowed) (sym file)

pub told-requires-clause-decided : goal.told-requires-clause-decided
told-requires-clause-decided c = by_page c

pub invariant_of-self : goal.invariant_of-self
invariant_of-self c = stay_behind _ _ (counted (goal.at.invariant_of-self c).After-count-events) _ c.self.invariant

pub returns-then-access-start-clause-begins : goal.returns-then-access-start-clause-begins
returns-then-access-start-clause-begins c =
    subst (λ (old : Known). StartsWith c.count-events.new.self.list old.list) c.self.view_is
    c.count-events.ensures.look.begins

pub returns-then-access-start-clause-decided : goal.returns-then-access-start-clause-decided
returns-then-access-start-clause-decided c =
    c.told.ensures.1 ∙ by_page (goal.at.returns-then-access-start-clause-decided c).After-allows-allowed

-- ---- by the unit, with a page for the TLB

pub invariant_of-self-in-Some-default : goal.invariant_of-self-in-Some-default
invariant_of-self-in-Some-default c = All-set (λ place. IfSome place (IsBehind c.rights.new.self)) c.self.inside.tlb _ _
    (filled c.rights.new.self _ c.of.ensures)
    (stay_behind _ _ (filled_in (goal.at.invariant_of-self-in-Some-default c).After-rights) _ c.self.invariant)

pub returns-in-Some-default-clause-begins : goal.returns-in-Some-default-clause-begins
returns-in-Some-default-clause-begins c =
    subst (λ (old : Known). StartsWith c.rights.new.self.list old.list) c.self.view_is
    (filled_in (goal.at.returns-in-Some-default-clause-begins c).After-rights).1

-- ---- by the unit, without one

pub invariant_of-self-2 : goal.invariant_of-self-2
invariant_of-self-2 c =
    let after = (goal.at.invariant_of-self-2 c).After-decide-events in
    rw (asked after).1 (stay_behind _ _ (decided after) c.self.inside.tlb c.self.invariant)

pub returns-clause-begins : goal.returns-clause-begins
returns-clause-begins c =
    subst (λ (old : Known). StartsWith c.decide-events.new.self.list old.list) c.self.view_is
    (decided (goal.at.returns-clause-begins c).After-decide-events).1
