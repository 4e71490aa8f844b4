use Rattle.std.proofs.Common.{[], ◌∷◌, ◌++◌, length, ap, ◌∙◌}
use Rattle.pmp_share.specs.Batches.{Batches}
use Rattle.pmp_share.specs.Journals.{batches_of}
use Rattle.pmp_share.proofs.JournalFacts.{Stands, push_stands, stands_for, stands_cut}
use Rattle.pmp_share.proofs.journal.Journal.push.Goals as goal
use Rattle.pmp_share.proofs.journal.Journal.push.Goals.{After-push_reserved}

stands : (c : After-push_reserved) → Stands c.push_reserved.new.self.items c.extend_from_slice.new.self.items
    (batches_of c.self.inside.ends.items c.self.inside.events.items ++ c.args.batch.now ∷ [])
stands c =
    let grown = c.in_ok-extend_from_slice.ensures.items in
    rw (c.push_reserved.ensures.items, c.reserve.ensures.items, grown)
    (push_stands c.self.inside.ends.items c.self.inside.events.items c.self.invariant c.args.batch.now _
    (ap length c.as_slice-end.ensures.value ∙ ap length grown))

pub invariant_of-self-2 : goal.invariant_of-self-2
invariant_of-self-2 c = stands_cut _ _ _ (stands (goal.at.invariant_of-self-2 c).After-push_reserved)

pub returns-clause-added : goal.returns-clause-added
returns-clause-added c =
    stands_for _ _ _ (stands c) ∙ ap (λ (b : Batches). b ++ c.args.batch.now ∷ []) c.self.view_is
