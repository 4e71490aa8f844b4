use Rattle.std.proofs.Common.{◌≡◌, ◌++◌, length, map}
use Rattle.std.specs.List.{flat_map}
use Rattle.std.specs.Prelude.{codes}
use Rattle.pmp_names.specs.Parts.{rest_of}
use Rattle.pmp_text.specs.MetNames.{named}
use Rattle.pmp_names.specs.NumberedTexts.{numbered_row, numbered_text}
use Rattle.pmp_names.proofs.numbered_text.number_text.Given as goal

-- the lines so far, and those of the rest, are all
abbrev pub invariant-loop-rest : goal.invariant-loop-rest
invariant-loop-rest l =
    l.all.items ++ flat_map (λ row. codes "\n" ++ numbered_row (map named l.names) l.header row) (rest_of 10 l.rest)
    ≡ numbered_text (map named l.names) l.text

abbrev pub decreases-loop-rest : goal.decreases-loop-rest
decreases-loop-rest l = length (rest_of 10 l.rest)
