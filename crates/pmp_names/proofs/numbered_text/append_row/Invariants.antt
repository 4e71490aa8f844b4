use Rattle.std.proofs.Common.{◌≡◌, ◌++◌, length, map}
use Rattle.std.specs.List.{flat_map}
use Rattle.std.specs.Prelude.{codes}
use Rattle.pmp_names.specs.Parts.{rest_of}
use Rattle.pmp_text.specs.MetNames.{named}
use Rattle.pmp_names.specs.NumberedTexts.{fields_of, numbered_fields, numbered_row}
use Rattle.pmp_names.proofs.numbered_text.append_row.Given as goal

-- the fields so far, and those of the rest, are all
abbrev pub invariant-loop-rest : goal.invariant-loop-rest
invariant-loop-rest l =
    l.out.items ++ flat_map (λ field. codes "," ++ field)
    (numbered_fields (map named l.names) (fields_of l.heads) (rest_of 44 l.rest))
    ≡ l.fn.out.items ++ numbered_row (map named l.names) l.header l.row

abbrev pub decreases-loop-rest : goal.decreases-loop-rest
decreases-loop-rest l = length (rest_of 44 l.rest)
