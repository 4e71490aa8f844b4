use Rattle.std.proofs.Common.{◌≡◌, ◌+◌, take, drop}
use Rattle.std.specs.Prelude.{All}
use Rattle.pmp_text.specs.Contents.{ScriptContents}
use Rattle.pmp_audit.specs.declared.policy_check.steps.Pace.{Pace}
use Rattle.pmp_audit.specs.PolicyCheck.{state_after}
use Rattle.pmp_audit.specs.PolicySweep.{IsJudged, IsStateOf, rows_of}
use Rattle.pmp_audit.proofs.policy_check.sweep.ask_all.Given as goal

-- the rows so far have been asked
abbrev pub invariant-loop-row : goal.invariant-loop-row
invariant-loop-row l = record {
  judged : (pace : Pace) (script : ScriptContents) → IsStateOf (state_after pace script) l.state
      → All (IsJudged pace script l.state.done) l.fn.rows
      → All (IsJudged pace script (l.state.done + 1)) (take l.row-index l.rows)
      × All (IsJudged pace script l.state.done) (drop l.row-index l.rows);
  rows : rows_of l.rows ≡ rows_of l.fn.rows;
}
