use Rattle.std.proofs.Common.{◌≡◌}
use Rattle.pmp_text.specs.Reports.{file_of_script}
use Rattle.pmp_lint.specs.LateWrites.{late_writes}
use Rattle.pmp_lint.specs.Telling.{HasTold, telling}
use Rattle.pmp_lint.proofs.late_writes.add_late_writes.Given as goal

-- the publications so far
abbrev pub invariant-loop-index : goal.invariant-loop-index
invariant-loop-index g l = record {
  file : l.file ≡ file_of_script l.script l.index;
  told : HasTold g.R.RowSink.Adds (late_writes l.script l.index) (telling l.fn.out l.fn.told)
      (telling l.out l.told);
}
