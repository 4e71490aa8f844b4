-- All findings of a script, and their rows.
use Rattle.std.specs.Prelude.{◌≡◌, ◌⊎◌, ℕ, List, ◌++◌, length, Ok, Err}
use Rattle.std.specs.Option.{option_to_list}
use Rattle.pmp_map.specs.declared.run.Run.{Run}
use Rattle.pmp_map.specs.Runs.{AreRuns}
use Rattle.pmp_text.specs.declared.fault.Fault.{Fault}
use Rattle.pmp_text.specs.Cells.{RowValue}
use Rattle.pmp_text.specs.Contents.{ScriptContents}
use Rattle.pmp_text.specs.Outcomes.{no_memory}
use Rattle.pmp_text.specs.Scripts.{script_meaning}
use Rattle.pmp_lint.specs.declared.finding.Finding.{Finding}
use Rattle.pmp_lint.specs.EndState.{end_of, mmwp_off, never_decides, of_entries, open_before_locked, rlb_left_on}
use Rattle.pmp_lint.specs.Findings.{told_count, told_rows}
use Rattle.pmp_lint.specs.LateWrites.{late_writes}
use Rattle.pmp_lint.specs.OpenBetween.{AreOpenBetween}
use Rattle.pmp_lint.specs.WriteAndExecute.{written_and_executed}

-- the findings on the bits of mseccfg and the locks
abbrev pub of_locks : ScriptContents → List Finding
of_locks script =
    option_to_list (rlb_left_on script) ++ option_to_list (mmwp_off script)
    ++ of_entries (end_of script) (open_before_locked script)

-- the findings from the runs of all bytes
abbrev pub of_runs : ScriptContents → List Run → List Finding
of_runs script runs = of_entries (end_of script) (never_decides script runs) ++ written_and_executed script runs

-- all findings, in the order of the lints' numbers; the runs are those of the script's final file, which has only one
-- list of them
pub record AreFindings (script : ScriptContents) (findings : List Finding) : Type 0 where
  pub runs : List Run
  pub runs_are : AreRuns (end_of script) runs
  pub between : List Finding
  pub between_are : AreOpenBetween script (length script.batches) between
  pub all : findings ≡ of_locks script ++ of_runs script runs ++ between ++ late_writes script (length script.batches)

-- the script has these contents, and a row was added for each finding that isn't accepted, and for no other; `told`
-- counts them
pub record LintSays {A : Type 0} (Adds : List RowValue → A → A → Type 0) (script : List ℕ) (accepted : List ℕ)
    (before after : A) (told : ℕ) : Type 0 where
  pub contents : ScriptContents
  pub script_means : script_meaning script ≡ Ok contents
  pub findings : List Finding
  pub findings_are : AreFindings contents findings
  pub added : Adds (told_rows accepted findings) before after
  pub counted : told ≡ told_count accepted findings

-- the script's own fault, or memory ran out
abbrev pub LintRefuses : (script : List ℕ) → Fault → Type 0
LintRefuses script fault = (script_meaning script ≡ Err fault) ⊎ (fault ≡ no_memory)

-- a script has only one list of findings
abbrev pub OneListOfFindingsLaw : Type 0
OneListOfFindingsLaw = (script : ScriptContents) (one other : List Finding) → AreFindings script one
    → AreFindings script other → one ≡ other
