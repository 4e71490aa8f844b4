use Rattle.std.proofs.Common.{◌≡◌, ℕ, ◌<◌, ◌≤◌, take, false}
use Rattle.std.specs.List.{list_any}
use Rattle.pmp_core.specs.declared.access.TheConstants.{ADDRESS_LIMIT}
use Rattle.pmp_plan.specs.Plans.{is_in}
use Rattle.pmp_plan.proofs.rows.unnamed_to.Given as goal

-- no row so far has a byte up to there
abbrev pub invariant-loop-row : goal.invariant-loop-row
invariant-loop-row l = record {
  proper : l.byte ≤ l.last;
  inside : l.last < ADDRESS_LIMIT;
  unnamed : (other : ℕ) → l.byte ≤ other → other ≤ l.last
      → list_any (is_in other) (take l.row-index l.rows) ≡ false;
}
