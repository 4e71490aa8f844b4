-- The rows of what a script expects.
use Rattle.std.specs.Prelude.{ℕ, ◌==◌, ◌&&◌, Bool, not, List, fold, map, take, count_by}
use Rattle.pmp_core.specs.Histories.{joined}
use Rattle.pmp_core.specs.RegisterFile.{RegisterFile}
use Rattle.pmp_core.specs.RegisterValue.{register_value}
use Rattle.pmp_core.specs.RegisterWrite.{step}
use Rattle.pmp_text.specs.declared.expectation.Expectation.{Expectation}
use Rattle.pmp_text.specs.Cells.{RowValue}
use Rattle.pmp_text.specs.Contents.{ScriptContents}
use Rattle.pmp_text.specs.Expected.{expected_row}
use Rattle.pmp_audit.specs.AcceptedReasons.{differs_text}
use Rattle.pmp_lint.specs.Accepting.{is_accepted}

-- the register file after the first `events` events of a script
abbrev pub file_at_event : ScriptContents → (events : ℕ) → RegisterFile
file_at_event script events = fold step script.start (take events (joined script.batches))

-- what the register reads after the events before the expectation
abbrev pub value_there : ScriptContents → Expectation → ℕ
value_there script expectation = register_value (file_at_event script expectation.events) expectation.register

-- it reads another value than expected, and that isn't accepted
abbrev pub is_fault : (accepted : List ℕ) → Expectation → (value : ℕ) → Bool
is_fault accepted expectation value =
    not (value == expectation.value) && not (is_accepted accepted differs_text expectation.line)

-- a row for each expectation
abbrev pub expected_rows : ScriptContents → List Expectation → List RowValue
expected_rows script expectations =
    map (λ expectation. expected_row expectation (value_there script expectation)) expectations

-- how many of them are faults
abbrev pub differing : (accepted : List ℕ) → ScriptContents → List Expectation → ℕ
differing accepted script expectations =
    count_by (λ expectation. is_fault accepted expectation (value_there script expectation)) expectations
