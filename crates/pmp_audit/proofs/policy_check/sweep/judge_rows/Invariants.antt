use Rattle.std.proofs.Common.{◌≡◌, take}
use Rattle.std.specs.Prelude.{All}
use Rattle.pmp_audit.specs.PolicySweep.{IsJudged, rows_of}
use Rattle.pmp_audit.proofs.policy_check.sweep.judge_rows.Given as goal

abbrev pub invariant-loop-row : goal.invariant-loop-row
invariant-loop-row l = record {
  judged : All (IsJudged l.steps.pace l.steps.script.now 0) l.all.items;
  rows : rows_of l.all.items ≡ take l.row-index l.rows;
}
