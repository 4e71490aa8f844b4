use Rattle.std.proofs.Common.{◌≡◌, ◌++◌, List, ℕ, length}
use Rattle.pmp_text.specs.Lines.{lines}
use Rattle.pmp_import.specs.Steps.{GoesOn}
use Rattle.pmp_import.proofs.importer.Importer.take_lines.Given as goal

-- the lines before those of the rest were taken
abbrev pub invariant-loop-line : goal.invariant-loop-line
invariant-loop-line g l = (taken : List (List ℕ)) × (lines l.text ≡ taken ++ lines l.rest)
    × GoesOn l.fn.self.given l.fn.self.walk l.self.walk taken (g.S.Sink.text l.fn.out) (g.S.Sink.text l.out)
    × (l.self.given ≡ l.fn.self.given)

abbrev pub decreases-loop-line : goal.decreases-loop-line
decreases-loop-line g l = length l.rest
