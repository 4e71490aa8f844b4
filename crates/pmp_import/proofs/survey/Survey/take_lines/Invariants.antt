use Rattle.std.proofs.Common.{◌≡◌, ◌++◌, List, ℕ, length}
use Rattle.pmp_text.specs.Lines.{lines}
use Rattle.pmp_import.specs.Steps.{FindsOn}
use Rattle.pmp_import.proofs.survey.Survey.take_lines.Given as goal

-- the lines before those of the rest were looked at
abbrev pub invariant-loop-line : goal.invariant-loop-line
invariant-loop-line l = (taken : List (List ℕ)) × (lines l.text ≡ taken ++ lines l.rest)
    × FindsOn l.format l.fn.self l.self taken

abbrev pub decreases-loop-line : goal.decreases-loop-line
decreases-loop-line l = length l.rest
