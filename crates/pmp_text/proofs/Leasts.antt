-- The first fault is that of the least faulty line.
use Rattle.std.proofs.Common.{◌≡◌, ℕ, suc, ◌≤◌, List, [], ◌∷◌, ◌++◌, length, reverse, take, Option, Some, None, Err}
use Rattle.std.proofs.Common.{cond}
use Rattle.std.proofs.Common.{refl, sym, ap, ◌∙◌, append_assoc}
use Rattle.std.specs.Prelude.{option_map, option_and_then, slice_get, is_some}
use Rattle.std.specs.Option.{option_or}
use Rattle.std.proofs.lemmas.List.{append-nil, reverse-append}
use Rattle.pmp_text.specs.declared.script.version.Version.{Version}
use Rattle.pmp_text.specs.declared.script.version.Version.TheVariants.{Sized, Headed}
use Rattle.pmp_text.specs.declared.fault.Fault.{Fault}
use Rattle.pmp_text.specs.Longhand.{meant_lines}
use Rattle.pmp_text.specs.ScriptLines.{Line, version_flaw, version_named}
use Rattle.pmp_text.specs.ScriptFaults.{first_fault, line_fault}
use Rattle.pmp_text.specs.ScriptEvents.{expected_from, first_unpublished, head_lines, marks_from, publications}
use Rattle.pmp_text.specs.Scripts.{fault_or_publications, for_head, for_unit, lines_meaning, meaning_behind, most_bytes}
use Rattle.pmp_text.specs.Scripts.{script_meaning}
use Rattle.pmp_text.specs.Faults.{fault_at, IsLeastFault}
use Rattle.pmp_text.proofs.LeastFaults.{Judges, judged_here, judged_as, the_first}
use Rattle.pmp_text.proofs.Meanings.{by_lines}
use Rattle.pmp_text.specs.Flaws.{at_line}

abbrev own_fault : (before : List Line) → Line → Option Fault
own_fault before line = option_map (at_line line.number) (line_fault before line)

-- the fault of the line with this index, where other lines stand before these, the nearest first
abbrev fault_behind : (before lines : List Line) → ℕ → Option Fault
fault_behind before lines index = option_and_then {T = Line} {U = Fault}
    (own_fault (reverse (take index lines) ++ before)) (slice_get lines index)

turned : (line : Line) (lines before : List Line) → reverse (line ∷ lines) ++ before ≡ reverse lines ++ line ∷ before
turned line lines before = ap (λ (front : List Line). front ++ before) (reverse-append (line ∷ []) lines)
    ∙ append_assoc (reverse lines) (line ∷ []) before

one_behind : (before : List Line) (line : Line) (more : List Line) (index : ℕ)
    → fault_behind before (line ∷ more) (suc index) ≡ fault_behind (line ∷ before) more index
one_behind before line more index =
    ap (λ (front : List Line). option_and_then {T = Line} {U = Fault} (own_fault front) (slice_get more index))
    (turned line (take index more) before)

judged_behind : (lines before : List Line) → Judges (fault_behind before lines) (first_fault before lines)
judged_behind [] = λ before index. refl
judged_behind (line ∷ more) = λ before. judged_here (fault_behind before (line ∷ more))
    (fault_behind (line ∷ before) more) (one_behind before line more) (own_fault before line)
    (first_fault (line ∷ before) more) refl (judged_behind more (line ∷ before))

nothing_before : (lines : List Line) (index : ℕ) → fault_at lines index ≡ fault_behind [] lines index
nothing_before lines index =
    ap (λ (front : List Line). option_and_then {T = Line} {U = Fault} (own_fault front) (slice_get lines index))
    (sym (append-nil (reverse (take index lines))))

pub first_is_least : (lines : List Line) → Judges (fault_at lines) (first_fault [] lines)
first_is_least lines = judged_as (fault_behind [] lines) (fault_at lines) (first_fault [] lines) (nothing_before lines)
    (judged_behind lines [])

by_fault : (version : Version) (first : Line) (more : List Line) (fault : Option Fault) (known : Fault)
    → fault ≡ Some known → fault_or_publications fault (first_unpublished version more) (publications version more)
    ≡ Err known
by_fault version first more fault known e =
    ap (λ (first : Option Fault). fault_or_publications first (first_unpublished version more)
    (publications version more)) e

refused_behind : (version : Option Version) (first : Line) (more : List Line) (fault : Fault)
    → option_or (option_map (at_line first.number) (cond (is_some version) None (Some (version_flaw first.words))))
    (first_fault (first ∷ []) more) ≡ Some fault → meaning_behind first more version ≡ Err fault
refused_behind None first more fault e = let same : at_line first.number (version_flaw first.words) ≡ fault = cc in
    ap (λ (f : Fault). Err f) same
refused_behind (Some (Sized size)) first more fault e =
    ap (for_unit size) (by_fault (Sized size) first more (first_fault (first ∷ []) more) fault e)
refused_behind (Some Headed) first more fault e =
    ap (for_head (head_lines Headed more) (expected_from Headed 0 more) (marks_from Headed 0 more))
    (by_fault Headed first more (first_fault (first ∷ []) more) fault e)

refused : (lines : List Line) (fault : Fault) → first_fault [] lines ≡ Some fault
    → lines_meaning lines ≡ Err fault
refused [] fault e = absurd cc
refused (version ∷ more) fault e = refused_behind (version_named version.words) version more fault e

pub least_is_answered : (text : List ℕ) (fault : Fault) → length text ≤ most_bytes text
    → IsLeastFault (fault_at (meant_lines text)) fault → script_meaning text ≡ Err fault
least_is_answered text fault short least =
    by_lines text short ∙ refused (meant_lines text) fault
    (the_first (fault_at (meant_lines text)) (first_fault [] (meant_lines text)) fault
    (first_is_least (meant_lines text)) least)
