use Rattle.std.proofs.Common.{map, take}
use Rattle.pmp_text.specs.RunRows.{run_row}
use Rattle.pmp_text.proofs.lines.runs.add_all.Given as goal

-- the rows so far
abbrev pub invariant-loop-run : goal.invariant-loop-run
invariant-loop-run g l =
    g.R.RowSink.Adds (map (run_row l.registers) (take l.run-index l.runs)) l.initial.out l.out
