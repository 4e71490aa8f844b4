use Rattle.std.proofs.Common.{◌≡◌, ◌∙◌, refl, sym}
use Rattle.pmp_core.specs.Moved.{is_same_configuration, moved_at}
use Rattle.pmp_core.proofs.registers.Registers.moved_at.Goals as goal
use Rattle.pmp_core.proofs.registers.Registers.moved_at.Goals.{After-eq}

is_same : (c : After-eq) → c.eq.result ≡ is_same_configuration c.args.before.now c.args.self.now c.args.index
is_same c = rw (← c.configuration.ensures, ← c.configuration-2.ensures) c.eq.ensures

pub returns-then-eq : goal.returns-then-eq
unfolding moved_at
returns-then-eq c = rw (sym (is_same (goal.at.returns-then-eq c).After-eq) ∙ c.if-eq.true)
    (rw (← c.range-range.ensures, ← c.range-was.ensures) c.moved_between.ensures)

pub returns-else-eq : goal.returns-else-eq
unfolding moved_at
returns-else-eq c = rw (sym (is_same (goal.at.returns-else-eq c).After-eq) ∙ c.if-eq.false)
    (rw (← c.range-range.ensures, ← c.range-was.ensures) (c.joined.ensures
    ∙ rw (c.span_in.ensures, c.span_in-else-eq.ensures) refl))
