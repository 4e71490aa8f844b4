use Rattle.std.proofs.Common.{◌≡◌, length, map}
use Rattle.pmp_text.specs.Lines.{lines}
use Rattle.pmp_names.specs.AddressNames.{names_from}
use Rattle.pmp_text.specs.MetNames.{named}
use Rattle.pmp_names.specs.NameLists.{joined}
use Rattle.pmp_names.proofs.address_names.read_rows.Given as goal

-- the names so far, and those of the rest, are all
abbrev pub invariant-loop-line : goal.invariant-loop-line
invariant-loop-line l =
    names_from 1 (lines l.text) ≡ joined (map named l.names.items) (names_from l.row (lines l.rest))

abbrev pub decreases-loop-line : goal.decreases-loop-line
decreases-loop-line l = length l.rest
