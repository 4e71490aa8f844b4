use Rattle.std.proofs.Common.{◌≡◌, ◌++◌, map}
use Rattle.std.specs.Prelude.{option_map}
use Rattle.pmp_text.specs.MetNames.{given_names}
use Rattle.pmp_names.specs.WholeRows.{whole}
use Rattle.pmp_names.proofs.whole_rows.append_whole.Given as goal

-- the rows so far
abbrev pub invariant-loop-row : goal.invariant-loop-row
invariant-loop-row l =
    l.out.items ≡ l.fn.out.items ++ map
    (whole (option_map (λ name. name.now) l.beside.hart) (given_names l.beside.names)) l.yielded
