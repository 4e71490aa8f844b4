use Rattle.std.proofs.Common.{◌-◌, ◌≡◌, ◌<◌, ◌≤◌}
use Rattle.pmp_core.specs.declared.access.TheConstants.{ADDRESS_LIMIT}
use Rattle.pmp_lint.proofs.Stretches.{AreAlike}
use Rattle.pmp_lint.proofs.stretch.Between.stretch_from.Given as goal

-- all bytes so far are alike
abbrev pub invariant-loop-stretch : goal.invariant-loop-stretch
invariant-loop-stretch l = record {
  begins : l.stretch.first ≡ l.first;
  proper : l.first ≤ l.stretch.last;
  below : l.stretch.last < ADDRESS_LIMIT;
  alike : AreAlike l.self.before.now l.self.during.now l.self.after.now l.first l.stretch.last l.stretch.is_opened;
}

abbrev pub decreases-loop-stretch : goal.decreases-loop-stretch
decreases-loop-stretch l = ADDRESS_LIMIT - l.stretch.last
