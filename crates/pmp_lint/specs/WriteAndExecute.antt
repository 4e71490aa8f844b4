-- Bytes that a mode may both write and execute (Volume II, 3.7.1.2, 3.7.1.3 and Smepmp).
use Rattle.std.specs.Prelude.{ℕ, Bool, ◌&&◌, ◌||◌, List, Option, Some, None}
use Rattle.std.specs.List.{flat_map}
use Rattle.std.specs.Option.{option_to_list}
use Rattle.pmp_core.specs.declared.access.Mode.TheVariants.{M, U}
use Rattle.pmp_core.specs.RegisterFile.{RegisterFile}
use Rattle.pmp_core.specs.Rights.{Rights}
use Rattle.pmp_map.specs.declared.run.Run.{Run}
use Rattle.pmp_map.specs.Answers.{owned_rights}
use Rattle.pmp_text.specs.declared.policy.Modes.{Modes}
use Rattle.pmp_text.specs.Contents.{ScriptContents}
use Rattle.pmp_lint.specs.declared.finding.Finding.{Finding}
use Rattle.pmp_lint.specs.declared.lint.Lint.TheVariants.{WriteAndExecute}
use Rattle.pmp_lint.specs.declared.subject.Subject.TheVariants.{Entry}
use Rattle.pmp_lint.specs.EndState.{changed_last, end_of, found_if}

-- W and X
abbrev pub writes_and_executes : Rights → Bool
writes_and_executes rights = rights.write && rights.execute

-- the modes that may do both in the bytes of this owner, or of none
abbrev pub writing_modes : RegisterFile → Option ℕ → Modes
writing_modes file owner =
    let others = writes_and_executes (owned_rights file owner U) in
    record { machine = writes_and_executes (owned_rights file owner M); supervisor = others; user = others }

-- the line of the last event that changes the owner, or 0
abbrev pub owner_line : ScriptContents → Option ℕ → ℕ
owner_line script None = 0
owner_line script (Some i) = changed_last script (Entry i)

-- for the longest range of adjacent bytes with one owner, or none
abbrev pub write_and_execute : ScriptContents → Run → Option Finding
write_and_execute script run =
    let modes = writing_modes (end_of script) run.owner in
    found_if (modes.machine || modes.user) (record {
      lint = WriteAndExecute;
      line = owner_line script run.owner;
      entry = run.owner;
      bytes = Some (record { first = run.first; last = run.last });
      modes = modes;
    })

abbrev pub written_and_executed : ScriptContents → List Run → List Finding
written_and_executed script runs = flat_map (λ run. option_to_list (write_and_execute script run)) runs
