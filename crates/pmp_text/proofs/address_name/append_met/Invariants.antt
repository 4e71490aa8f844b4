use Rattle.std.proofs.Common.{◌≡◌, ◌++◌, drop, map}
use Rattle.pmp_text.specs.MetNames.{met_from, met_names, named}
use Rattle.pmp_text.proofs.address_name.append_met.Given as goal

-- those so far, and those of the rest, are all
abbrev pub invariant-loop-name : goal.invariant-loop-name
invariant-loop-name l =
    l.out.items ++ met_from l.is_first (map named (drop l.name-index l.names)) l.first l.last
    ≡ l.fn.out.items ++ met_names (map named l.names) l.first l.last
