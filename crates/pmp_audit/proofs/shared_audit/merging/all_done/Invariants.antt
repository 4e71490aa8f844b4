use Rattle.std.proofs.Common.{◌≡◌, ◌++◌, length, map, Ok}
use Rattle.std.specs.Vec.Iter.{into_iter_items, into_iter_len}
use Rattle.pmp_audit.proofs.shared_audit.merging.all_done.Given as goal

-- the results so far are those of the workers that are done
abbrev pub invariant-loop-result : goal.invariant-loop-result
invariant-loop-result l = record {
  whole : l.yielded ++ into_iter_items l.result-iterator ≡ l.fn.results.items;
  left : into_iter_len l.result-iterator ≡ length (into_iter_items l.result-iterator);
  done : l.yielded ≡ map Ok l.all.items;
}
