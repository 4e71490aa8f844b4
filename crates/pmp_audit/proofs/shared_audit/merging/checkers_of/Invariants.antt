use Rattle.std.proofs.Common.{◌≡◌, ◌++◌, length, map}
use Rattle.std.specs.Vec.Iter.{into_iter_items, into_iter_len}
use Rattle.pmp_audit.proofs.shared_audit.merging.checkers_of.Given as goal

-- the checkers are those of the workers so far
abbrev pub invariant-loop-done : goal.invariant-loop-done
invariant-loop-done l = record {
  whole : l.yielded ++ into_iter_items l.done-iterator ≡ l.fn.all.items;
  left : into_iter_len l.done-iterator ≡ length (into_iter_items l.done-iterator);
  checkers : l.checkers.items ≡ map (λ done. done.checker) l.yielded;
}
