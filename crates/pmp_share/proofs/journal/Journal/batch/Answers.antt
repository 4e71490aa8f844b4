use Rattle.std.proofs.Common.{◌≡◌, ℕ, suc, ◌+◌, ◌-◌, ◌<◌, ◌++◌, ◌∷◌, [], length, take, drop, get_or, ap, sym, subst}
use Rattle.std.proofs.Common.{◌∙◌, arith, List}
use Rattle.pmp_core.specs.declared.event.Event.{Event}
use Rattle.pmp_share.specs.Batches.{Batches, event_count}
use Rattle.pmp_share.specs.Journals.{batches_of, IsCut}
use Rattle.pmp_share.proofs.JournalFacts.{end_is, end_at, length_ends, batch_is, batch_bounds}
use Rattle.pmp_share.proofs.journal.Journal.batch.Goals as goal
use Rattle.pmp_share.proofs.journal.Journal.batch.Goals.{After-own_end}

below : (ends : List ℕ) (events : List Event) (batches : Batches) (k : ℕ) → IsCut ends events
    → batches_of ends events ≡ batches → k < length batches → k < length ends
below ends events batches k is stand lt = omega (arith, length_ends ends events is, ap length stand)

pub end_of-requires : goal.end_of-requires
end_of-requires c =
    let lt = below _ _ _ c.args.index c.self.invariant c.self.view_is c.requires in
    omega (arith, lt, ap length c.as_slice-ends.ensures.value)

pub own_end-requires : goal.own_end-requires
own_end-requires c =
    let lt = below _ _ _ c.args.index c.self.invariant c.self.view_is c.requires in
    omega (arith, lt, ap length c.as_slice-ends.ensures.value)

start_is : (c : After-own_end) → c.end_of.result
    ≡ event_count (take c.args.index (batches_of c.self.inside.ends.items c.self.inside.events.items))
start_is c =
    let lt = below _ _ _ c.args.index c.self.invariant c.self.view_is c.requires in
    end_is c.self.inside.ends.items c.self.inside.events.items c.self.invariant c.args.index c.end_of.result
    (omega (arith, lt)) c.end_of.ensures.none
    (λ k e. c.end_of.ensures.last k e ∙ ap (λ (ends : List ℕ). get_or ends k 0) c.as_slice-ends.ensures.value)

end_is_at : (c : After-own_end) → c.own_end.result
    ≡ event_count (take (suc c.args.index) (batches_of c.self.inside.ends.items c.self.inside.events.items))
end_is_at c =
    c.own_end.ensures ∙ ap (λ (ends : List ℕ). get_or ends c.args.index 0) c.as_slice-ends.ensures.value
    ∙ end_at c.self.inside.ends.items c.self.inside.events.items c.self.invariant c.args.index
    (below _ _ _ c.args.index c.self.invariant c.self.view_is c.requires)

pub part_of-requires : goal.part_of-requires
part_of-requires c =
    let bounds = batch_bounds c.self.inside.ends.items c.self.inside.events.items c.self.invariant c.args.index
    c.end_of.result c.own_end.result (below _ _ _ c.args.index c.self.invariant c.self.view_is c.requires)
    (start_is (goal.at.part_of-requires c).After-own_end) (end_is_at (goal.at.part_of-requires c).After-own_end) in
    (bounds.0, rw c.as_slice-events.ensures.value bounds.1)

pub returns : goal.returns
returns c =
    let ends = c.self.inside.ends.items in
    let events = c.self.inside.events.items in
    let part = c.part_of.ensures
    ∙ ap (λ (es : List Event). take (c.own_end.result - c.end_of.result) (drop c.end_of.result es))
    c.as_slice-events.ensures.value in
    let main = batch_is ends events c.self.invariant c.args.index c.end_of.result c.own_end.result
    (below _ _ _ c.args.index c.self.invariant c.self.view_is c.requires)
    (start_is (goal.at.returns c).After-own_end) (end_is_at (goal.at.returns c).After-own_end) in
    let next : c.args.index + 1 ≡ suc c.args.index = omega arith in
    ap (λ (n : ℕ). take n c.args.self.now) next
    ∙ subst (λ (b : Batches). take (suc c.args.index) b ≡ take c.args.index b ++ c.part_of.result.now ∷ [])
    c.self.view_is (main ∙ ap (λ (es : List Event). take c.args.index (batches_of ends events) ++ es ∷ []) (sym part))
