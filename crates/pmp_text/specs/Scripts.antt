-- What a script means: the start of its unit, its publications and what it expects, or its fault.
use Rattle.std.specs.Prelude.{ℕ, List, [], ◌∷◌, length, Option, Some, None, Result, Ok, Err, nat_lt, if◌then◌else◌}
use Rattle.pmp_core.specs.declared.size.Size.{Size}
use Rattle.pmp_core.specs.Hart.{profile_of, size_for}
use Rattle.pmp_core.specs.RegisterFile.{reset_file}
use Rattle.pmp_text.specs.declared.expectation.Expectation.{Expectation}
use Rattle.pmp_text.specs.declared.mark.Mark.{Mark}
use Rattle.pmp_text.specs.declared.refusal.Refusal.TheVariants.{BadVersion, Unpublished, TooLong}
use Rattle.pmp_text.specs.declared.fault.Fault.{Fault}
use Rattle.pmp_text.specs.declared.script.head.HeadLine.{HeadLine}
use Rattle.pmp_text.specs.declared.script.version.Version.{Version}
use Rattle.pmp_text.specs.declared.script.version.Version.TheVariants.{Sized, Headed}
use Rattle.pmp_text.specs.Heads.{started}
use Rattle.pmp_text.specs.Contents.{Publications, ScriptContents}
use Rattle.pmp_text.specs.declared.script.reader.TheConstants.{MAX_SCRIPT, MAX_HEADED_SCRIPT}
use Rattle.pmp_text.specs.Flaws.{at_line, as_whole}
use Rattle.pmp_text.specs.ScriptLines.{Line, version_named, version_flaw, is_headed}
use Rattle.pmp_text.specs.ScriptFaults.{first_fault}
use Rattle.pmp_text.specs.ScriptEvents.{publications, first_unpublished, head_lines, expected_from, marks_from}
use Rattle.pmp_text.specs.Longhand.{meant_lines}

-- a line's fault comes first, then events that are never published
abbrev pub fault_or_publications : {X : Type 0} → Option Fault → Option ℕ → X → Result X Fault
fault_or_publications (Some fault) unpublished published = Err fault
fault_or_publications None (Some number) published = Err (at_line number (as_whole Unpublished))
fault_or_publications None None published = Ok published

-- these publications are for the usual hart of this size, from reset on
abbrev pub for_unit : Size → Result Publications Fault → Result ScriptContents Fault
for_unit size (Ok published) = Ok (record {
  size = size;
  start = reset_file (profile_of size);
  batches = published.batches;
  lines = published.lines;
  expectations = [];
  marks = None;
})
for_unit size (Err fault) = Err fault

-- these publications are for the hart of a head, from the registers that it sets
abbrev pub for_head : List HeadLine → List Expectation → List Mark → Result Publications Fault
    → Result ScriptContents Fault
for_head head expectations marks (Ok published) = elim (started head expectations) [
  | Ok start ↦ Ok (record {
    size = size_for start.profile;
    start = start;
    batches = published.batches;
    lines = published.lines;
    expectations = expectations;
    marks = Some marks;
  })
  | Err fault ↦ Err fault
]
for_head head expectations marks (Err fault) = Err fault

-- what the lines after the version line publish
abbrev pub published_behind : Line → List Line → Version → Result Publications Fault
published_behind first more version =
    fault_or_publications (first_fault (first ∷ []) more) (first_unpublished version more) (publications version more)

-- what the lines mean after a line that names a version, or doesn't
abbrev pub meaning_behind : Line → List Line → Option Version → Result ScriptContents Fault
meaning_behind first more None = Err (at_line first.number (version_flaw first.words))
meaning_behind first more (Some (Sized size)) = for_unit size (published_behind first more (Sized size))
meaning_behind first more (Some Headed) =
    for_head (head_lines Headed more) (expected_from Headed 0 more) (marks_from Headed 0 more)
    (published_behind first more Headed)

-- the first line is the version; the head and the publications follow it
abbrev pub lines_meaning : List Line → Result ScriptContents Fault
lines_meaning [] = Err (at_line 1 (as_whole BadVersion))
lines_meaning (version ∷ more) = meaning_behind version more (version_named version.words)

-- the most bytes of a text: more for version 3
abbrev pub most_bytes : List ℕ → ℕ
most_bytes text = if is_headed text then MAX_HEADED_SCRIPT else MAX_SCRIPT

-- what a text means, with each shorthand as its writes; one of more bytes is too long, whatever is in it
unfoldable pub script_meaning : List ℕ → Result ScriptContents Fault
script_meaning text =
    if nat_lt (most_bytes text) (length text) then Err (at_line 0 (as_whole TooLong))
    else lines_meaning (meant_lines text)
