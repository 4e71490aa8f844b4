-- Writes that come too late: a frozen entry blocks them (Volume II, 3.7.1.2).
use Rattle.std.specs.Prelude.{ℕ, ◌&&◌, Bool, false, List, Option}
use Rattle.std.specs.List.{flat_map}
use Rattle.pmp_core.specs.declared.event.Event.{Event}
use Rattle.pmp_core.specs.declared.event.Event.TheVariants.{Write, Reset}
use Rattle.pmp_core.specs.RegisterFile.{RegisterFile, is_frozen}
use Rattle.pmp_core.specs.Span.{span_of}
use Rattle.pmp_core.specs.WriteReasons.{has_reason}
use Rattle.pmp_text.specs.Contents.{ScriptContents}
use Rattle.pmp_lint.specs.declared.finding.Finding.{Finding}
use Rattle.pmp_lint.specs.declared.lint.Lint.TheVariants.{LateWrite}
use Rattle.pmp_lint.specs.EndState.{found_if, of_entries}
use Rattle.pmp_lint.specs.Events.{Happening, happenings}
use Rattle.pmp_lint.specs.Findings.{about_entry}

-- entry i is frozen, and is a reason why the register doesn't read what is written
abbrev pub is_late : RegisterFile → Event → (i : ℕ) → Bool
is_late file (Write csr value) i = is_frozen file i && has_reason file csr value i
is_late file Reset i = false

abbrev pub late_write : Happening → (i : ℕ) → Option Finding
late_write it i =
    found_if (is_late it.before it.event i) (about_entry LateWrite it.line i (span_of it.before i))

-- for each entry that blocks the write
abbrev pub late_writes_of : Happening → List Finding
late_writes_of it = of_entries it.before (late_write it)

-- for each write of a script
abbrev pub late_writes : ScriptContents → (count : ℕ) → List Finding
late_writes script count = flat_map late_writes_of (happenings script count)
