use Rattle.std.proofs.Common.{◌≡◌, ◌∙◌, ◌+◌, ap, sym, arith, length, refl}
use Rattle.pmp_core.specs.declared.hart.Profile.{Profile}
use Rattle.pmp_core.specs.Moved.{moved_among}
use Rattle.pmp_core.proofs.Moves.{alike_beside, more_among, none_among, same_fields, same_profile, within_among}
use Rattle.pmp_core.proofs.registers.Registers.moved_since.Goals as goal
use Rattle.pmp_core.proofs.registers.Registers.moved_since.Goals.{After-count-index-end}

pub loop-index-init : goal.loop-index-init
unfolding moved_among
loop-index-init c = record { moved = refl }

pub loop-index-preserved : goal.loop-index-preserved
loop-index-preserved c =
    let place : 0 + c.loop-index.index ≡ c.loop-index.index = omega arith in
    record {
      moved = c.joined-moved.ensures ∙ more_among c.args.before.now c.args.self.now 0 c.loop-index.index
          c.loop-index.moved c.moved_at.result c.loop-index.invariant.moved (rw place c.moved_at.ensures);
    }

same : (c : After-count-index-end) → c.args.self.now.profile ≡ c.args.before.now.profile
same c = sym c.hart.ensures ∙ same_profile _ _ (sym c.if-ne.ensures) ∙ c.hart-2.ensures

as_many : (c : After-count-index-end) → length c.args.self.now.entries ≡ length c.args.before.now.entries
as_many c = c.count.ensures.legal.count ∙ ap (λ (p : Profile). p.entries) (same c) ∙ sym c.count-2.ensures.legal.count

pub returns-clause-beside : goal.returns-clause-beside
returns-clause-beside c =
    let many = as_many (goal.at.returns-clause-beside c).After-count-index-end in
    alike_beside c.args.before.now c.args.self.now c.count-2.ensures.legal c.count.ensures.legal c.loop-index.moved
    many (sym c.fields.ensures ∙ same_fields _ _ (sym c.if-ne-2.ensures) ∙ c.fields-else-ne.ensures)
    (λ i inside.
    let place : 0 + i ≡ i = omega arith in
    rw c.loop-index.invariant.moved (rw place at (within_among c.args.before.now c.args.self.now
    c.count-2.ensures.legal c.count.ensures.legal 0 c.loop-index.index i (omega (
      arith,
      inside,
      c.loop-index-test.false,
      c.count-index-end.ensures.count,
      many,
    )))))

pub returns-clause-none : goal.returns-clause-none
returns-clause-none c equal =
    c.loop-index.invariant.moved ∙ rw equal (none_among c.args.self.now 0 c.loop-index.index)
