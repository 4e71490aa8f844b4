use Rattle.std.proofs.Common.{◌≡◌}
use Rattle.pmp_text.specs.Reports.{file_of_script}
use Rattle.pmp_lint.specs.OpenBetween.{AreOpenBetween}
use Rattle.pmp_lint.specs.Telling.{HasToldSome, telling}
use Rattle.pmp_lint.proofs.open_between.add_open_between.Given as goal

-- the publications so far
abbrev pub invariant-loop-index : goal.invariant-loop-index
invariant-loop-index g l = record {
  file : l.file ≡ file_of_script l.script l.index;
  told : HasToldSome g.R.RowSink.Adds (AreOpenBetween l.script l.index) (telling l.fn.out l.fn.told)
      (telling l.out l.told);
}
