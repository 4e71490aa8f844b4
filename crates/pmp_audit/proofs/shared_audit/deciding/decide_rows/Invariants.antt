use Rattle.std.proofs.Common.{◌≡◌, ◌+◌, [], length, take}
use Rattle.pmp_audit.specs.Rounds.{AreCheckersOf, AreDecidedSoFar}
use Rattle.pmp_audit.proofs.shared_audit.deciding.decide_rows.Given as goal

-- the publications so far are done, and the rows that ask for no more are decided
abbrev pub invariant-loop-index : goal.invariant-loop-index
invariant-loop-index g l = record {
  published : l.unit.publisher.published ≡ take l.index l.script.batches;
  pending : l.unit.publisher.pending ≡ [];
  unit : l.unit.publisher.unit ≡ l.fn.unit.publisher.unit;
  checkers : AreCheckersOf l.fn.unit.publisher.unit (length l.fn.unit.checkers.items) l.unit.checkers.items;
  decided : AreDecidedSoFar l.script l.rows (l.index + 1) l.unit.decided.items;
}
