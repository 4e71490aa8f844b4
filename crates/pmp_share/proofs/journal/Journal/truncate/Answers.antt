use Rattle.std.proofs.Common.{◌≡◌, ℕ, ◌+◌, ◌<◌, List, take, length, get_or, ap, ◌∙◌, arith}
use Rattle.pmp_share.specs.Journals.{batches_of}
use Rattle.pmp_share.specs.Batches.{Batches}
use Rattle.pmp_share.proofs.JournalFacts.{Stands, take_stands, end_is, length_ends, stands_for, stands_cut}
use Rattle.pmp_share.proofs.journal.Journal.truncate.Goals as goal
use Rattle.pmp_share.proofs.journal.Journal.truncate.Goals.{After-truncate-2}

stands : (c : After-truncate-2) → Stands c.truncate-2.new.self.items c.truncate.new.self.items
    (take c.args.batches (batches_of c.self.inside.ends.items c.self.inside.events.items))
stands c =
    let inside = c.self.inside in
    let within : c.args.batches < length inside.ends.items =
    omega (arith, length_ends inside.ends.items inside.events.items c.self.invariant, ap length c.self.view_is) in
    let last : (k : ℕ) → c.args.batches ≡ k + 1 → c.end_of-events.result ≡ get_or inside.ends.items k 0 =
    λ k e. c.end_of-events.ensures.last k e ∙ ap (λ (ends : List ℕ). get_or ends k 0) c.as_slice.ensures.value in
    rw (c.truncate-2.ensures.items, c.truncate.ensures.items)
    (take_stands inside.ends.items inside.events.items c.self.invariant c.args.batches c.end_of-events.result
    (end_is inside.ends.items inside.events.items c.self.invariant c.args.batches c.end_of-events.result
    (omega (arith, within)) c.end_of-events.ensures.none last))

pub end_of-events-requires : goal.end_of-events-requires
end_of-events-requires c =
    let inside = c.self.inside in
    omega (
      arith,
      length_ends inside.ends.items inside.events.items c.self.invariant,
      ap length c.self.view_is,
      ap length c.as_slice.ensures.value,
    )

pub invariant_of-self : goal.invariant_of-self
invariant_of-self c = stands_cut _ _ _ (stands (goal.at.invariant_of-self c).After-truncate-2)

pub returns : goal.returns
returns c = stands_for _ _ _ (stands c) ∙ ap (λ (b : Batches). take c.args.batches b) c.self.view_is
