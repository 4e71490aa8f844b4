use Rattle.std.proofs.Common.{◌≡◌, ◌++◌, List, drop, map, true, ℕ}
use Rattle.pmp_text.specs.MetNames.{named}
use Rattle.pmp_text.specs.Picture.{names_from}
use Rattle.pmp_text.proofs.lines.picture.column.append_cell.Given as goal

-- what was appended so far, and the names of the rest, are all
abbrev pub invariant-loop-name : goal.invariant-loop-name
invariant-loop-name g l = (shown : List ℕ) × (g.S.Sink.text l.out ≡ g.S.Sink.text l.initial.out ++ shown)
    × (shown ++ names_from l.is_first (map named (drop l.name-index l.names)) l.run.first l.run.last
    ≡ names_from true (map named l.names) l.run.first l.run.last)
