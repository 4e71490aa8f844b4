use Rattle.std.proofs.Common.{◌≡◌, drop, map}
use Rattle.pmp_names.specs.NamedAddresses.{find_name}
use Rattle.pmp_text.specs.MetNames.{named}
use Rattle.pmp_names.proofs.named_address.find_name.Given as goal

-- none of those so far is it
abbrev pub invariant-loop-one : goal.invariant-loop-one
invariant-loop-one l =
    find_name (map named (drop l.one-index l.names)) l.name ≡ find_name (map named l.names) l.name
