use Rattle.std.proofs.Common.{◌≡◌, ◌++◌, drop}
use Rattle.std.specs.List.{flat_map}
use Rattle.std.specs.Prelude.{codes}
use Rattle.pmp_forms.specs.Markdown.{cell, cell_byte}
use Rattle.pmp_forms.proofs.markdown.append_cell.Given as goal

-- the bytes so far, and those of the rest, are all
abbrev pub invariant-loop-byte : goal.invariant-loop-byte
invariant-loop-byte l =
    l.out.items ++ (flat_map cell_byte (drop l.byte-index l.text) ++ codes " |") ≡ l.fn.out.items ++ cell l.text
