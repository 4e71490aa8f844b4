-- Findings in a script's final register file (Volume II, 3.7.1 and Smepmp).
use Rattle.std.specs.Prelude.{ℕ, ◌+◌, ◌-◌, ◌==◌, Bool, true, false, not, ◌&&◌, List, length, if◌then◌else◌}
use Rattle.std.specs.Prelude.{Option, Some, None}
use Rattle.std.specs.List.{flat_map, list_any, range_with_len}
use Rattle.std.specs.Option.{option_to_list}
use Rattle.pmp_core.specs.declared.configuration.AddressMatching.{AddressMatching}
use Rattle.pmp_core.specs.declared.configuration.AddressMatching.TheVariants.{Off, Tor, Na4, Napot}
use Rattle.pmp_core.specs.RegisterFile.{RegisterFile, entry_at, is_frozen}
use Rattle.pmp_core.specs.Span.{span_of}
use Rattle.pmp_map.specs.declared.run.Run.{Run}
use Rattle.pmp_text.specs.Contents.{ScriptContents}
use Rattle.pmp_text.specs.Reports.{file_of_script}
use Rattle.pmp_lint.specs.declared.finding.Finding.{Finding}
use Rattle.pmp_lint.specs.declared.lint.Lint.{Lint}
use Rattle.pmp_lint.specs.declared.lint.Lint.TheVariants.{RlbLeftOn, MmwpOff, OpenBeforeLocked, NeverDecides}
use Rattle.pmp_lint.specs.declared.subject.Subject.{Subject}
use Rattle.pmp_lint.specs.declared.subject.Subject.TheVariants.{Bypass, Lockdown, Entry}
use Rattle.pmp_lint.specs.Events.{changed_at}
use Rattle.pmp_lint.specs.Findings.{about_entry, about_script}

-- after all publications
abbrev pub end_of : ScriptContents → RegisterFile
end_of script = file_of_script script (length script.batches)

-- the line of the last event that changes the subject, or 0
abbrev pub changed_last : ScriptContents → Subject → ℕ
changed_last script subject = changed_at script (length script.batches) subject

-- the finding, if it is one
abbrev pub found_if : Bool → Finding → Option Finding
found_if is finding = if is then Some finding else None

-- a finding about an entry and the bytes that it matches
abbrev pub about_end : ScriptContents → Lint → (i : ℕ) → Finding
about_end script lint i = about_entry lint (changed_last script (Entry i)) i (span_of (end_of script) i)

-- the findings of each entry, from the first on
abbrev pub of_entries : RegisterFile → (ℕ → Option Finding) → List Finding
of_entries file of_entry = flat_map (λ i. option_to_list (of_entry i)) (range_with_len 0 (length file.entries))

-- ---- rlb-left-on: RLB is set, and an entry is locked

abbrev pub is_locked : RegisterFile → (i : ℕ) → Bool
is_locked file i = (entry_at file.entries i).configuration.locked

abbrev pub is_any_locked : RegisterFile → Bool
is_any_locked file = list_any (is_locked file) (range_with_len 0 (length file.entries))

abbrev pub has_bypassed : RegisterFile → Bool
has_bypassed file = file.mseccfg.rlb && is_any_locked file

abbrev pub rlb_left_on : ScriptContents → Option Finding
rlb_left_on script = found_if (has_bypassed (end_of script)) (about_script RlbLeftOn (changed_last script Bypass))

-- ---- mmwp-off: MML is set, and MMWP isn't

abbrev pub is_mmwp_off : RegisterFile → Bool
is_mmwp_off file = file.mseccfg.mml && not file.mseccfg.mmwp

abbrev pub mmwp_off : ScriptContents → Option Finding
mmwp_off script = found_if (is_mmwp_off (end_of script)) (about_script MmwpOff (changed_last script Lockdown))

-- ---- open-before-locked: the entry isn't frozen, and a later one is

abbrev pub is_any_frozen_from : RegisterFile → (first : ℕ) → Bool
is_any_frozen_from file first = list_any (is_frozen file) (range_with_len first (length file.entries - first))

abbrev pub is_open_before : RegisterFile → (i : ℕ) → Bool
is_open_before file i = not (is_frozen file i) && is_any_frozen_from file (i + 1)

abbrev pub open_before_locked : ScriptContents → (i : ℕ) → Option Finding
open_before_locked script i =
    found_if (is_open_before (end_of script) i) (about_end script OpenBeforeLocked i)

-- ---- never-decides: the entry isn't OFF, and owns no byte (3.7.1.3)

abbrev pub is_on : AddressMatching → Bool
is_on Off = false
is_on Tor = true
is_on Na4 = true
is_on Napot = true

abbrev pub is_owner : (i : ℕ) → Option ℕ → Bool
is_owner i None = false
is_owner i (Some owner) = owner == i

-- one of the runs of all bytes is the entry's
abbrev pub owns_some : List Run → (i : ℕ) → Bool
owns_some runs i = list_any (λ run. is_owner i run.owner) runs

abbrev pub is_idle : RegisterFile → List Run → (i : ℕ) → Bool
is_idle file runs i = is_on (entry_at file.entries i).configuration.matching && not (owns_some runs i)

abbrev pub never_decides : ScriptContents → List Run → (i : ℕ) → Option Finding
never_decides script runs i =
    found_if (is_idle (end_of script) runs i) (about_end script NeverDecides i)
