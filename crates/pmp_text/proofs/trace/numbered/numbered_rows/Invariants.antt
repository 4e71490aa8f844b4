use Rattle.std.proofs.Common.{◌≡◌, ◌++◌, drop, map}
use Rattle.pmp_text.specs.NumberedTraces.{numbered_row}
use Rattle.pmp_text.proofs.trace.numbered.numbered_rows.Given as goal

-- the rows so far, and those that are left
abbrev pub invariant-loop-row : goal.invariant-loop-row
invariant-loop-row l = l.rows.items ++ map numbered_row (drop l.row-index l.all) ≡ map numbered_row l.all
