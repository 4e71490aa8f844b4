-- Every line that tells of a refusal fits its room.
use Rattle.std.proofs.Common.{ℕ, ◌<◌, ◌≤◌, ◌^◌, Bool, true, false, cond, List, [], ◌++◌, length, decimal, nat_eq, arith}
use Rattle.std.specs.Prelude.{codes, nat_lt}
use Rattle.std.proofs.lemmas.Fmt.{length-decimal-le}
use Rattle.std.proofs.lemmas.List.{length-append}
use Rattle.pmp_text.specs.Refusals.{name_of, number_of}
use Rattle.pmp_text.specs.declared.refusal.Refusal.{Refusal}
use Rattle.pmp_text.specs.declared.refusal.Refusal.TheVariants.{BadLength}
use Rattle.pmp_text.specs.FaultTexts.{is_named_whole, part_text, place_text, source_text}
use Rattle.pmp_text.specs.declared.fault.Place.{Place}
use Rattle.pmp_text.specs.declared.fault.Place.TheVariants.{Events, In, Nowhere, PlanEntries, PlanRows}
use Rattle.pmp_text.specs.declared.fault.Source.{Source}
use Rattle.pmp_text.specs.declared.fault.Source.TheVariants.{Script}
use Rattle.pmp_tool.specs.LineLengths.{HartLineFitsLaw, IsNumbered, IsNumberedNote, LineFitsLaw, NoteFitsLaw}
use Rattle.pmp_tool.specs.Notes.{left_text, note_text}
use Rattle.pmp_tool.specs.declared.note.Note.{Note}
use Rattle.pmp_tool.specs.declared.note.Note.TheVariants as note

-- a refusal's number has two digits, and its name eleven letters
number_fits : (refusal : Refusal) → number_of refusal < 10 ^ 2
number_fits BadLength = omega arith
number_fits _ = omega arith

name_fits : (refusal : Refusal) → length (name_of refusal) ≤ 11
name_fits BadLength = omega arith
name_fits _ = omega arith

source_fits : (source : Source) → length (source_text source) ≤ 6
source_fits Script = omega arith
source_fits _ = omega arith

part_fits : (source : Source) → length (part_text source) ≤ 4
part_fits Script = omega arith
part_fits _ = omega arith

digits_fit : (number : ℕ) → number < 2 ^ 64 → length (decimal number) ≤ 20
digits_fit number small = length-decimal-le 20 number (omega arith) (omega arith) small

one_fits : (first : Bool) (text other : List ℕ) (most : ℕ) → length text ≤ most → length other ≤ most
    → length (cond first text other) ≤ most
one_fits true text other most fits other_fits = fits
one_fits false text other most fits other_fits = other_fits

whole_fits : (named : Bool) (source : Source) → length (cond named (source_text source ++ codes ": ") []) ≤ 90
whole_fits named source = one_fits named (source_text source ++ codes ": ") [] 90
    (simp length-append (omega (arith, source_fits source))) (omega arith)

place_fits : (place : Place) → IsNumbered place → length (place_text place) ≤ 90
place_fits (In source number part) small =
    one_fits (nat_lt 0 number)
    (source_text source ++ (codes " " ++ (part_text source ++ (codes " " ++ (decimal number ++ codes ": ")))))
    (cond (is_named_whole source) (source_text source ++ codes ": ") []) 90
    (simp length-append (omega (arith, source_fits source, part_fits source, digits_fit number small)))
    (whole_fits (is_named_whole source) source)
place_fits (PlanRows one other) small =
    simp length-append (omega (arith, digits_fit one small.0, digits_fit other small.1))
place_fits (PlanEntries row takes found) small =
    simp length-append
    (omega (arith, digits_fit row small.0, digits_fit takes small.1, digits_fit found small.2))
place_fits Nowhere small = omega arith
place_fits (Events seen) small = omega arith

pub line_fits : LineFitsLaw
line_fits fault small =
    let digits = length-decimal-le 2 (number_of fault.refusal) (omega arith) (number_fits fault.refusal)
    (let small = number_fits fault.refusal in omega arith) in
    simp length-append (omega (arith, digits, name_fits fault.refusal, place_fits fault.place small))

pub hart_line_fits : HartLineFitsLaw
hart_line_fits name fault short small =
    let digits = length-decimal-le 2 (number_of fault.refusal) (omega arith) (number_fits fault.refusal)
    (let small = number_fits fault.refusal in omega arith) in
    simp length-append (omega (arith, short, digits, name_fits fault.refusal, place_fits fault.place small))

left_fits : (left : ℕ) → left < 2 ^ 64 → length (left_text left) ≤ 54
left_fits left small = one_fits (nat_eq left 0) [] (codes "; writes of other harts left out: " ++ decimal left) 54
    (omega arith) (simp length-append (omega (arith, digits_fit left small)))

note_text_fits : (one : Note) → IsNumberedNote one → length (note_text one) ≤ 140
note_text_fits note.Start small = omega arith
note_text_fits (note.TraceRow row) small = simp length-append (omega (arith, digits_fit row small))
note_text_fits (note.PolicyRow row) small = simp length-append (omega (arith, digits_fit row small))
note_text_fits note.NoRows small = omega arith
note_text_fits (note.Guessed hart entries left) small = simp length-append
    (omega (arith, digits_fit hart small.0, digits_fit entries small.1, left_fits left small.2))
note_text_fits (note.Taken hart entries) small =
    simp length-append (omega (arith, digits_fit hart small.0, digits_fit entries small.1))
note_text_fits (note.Scripts count) small = simp length-append (omega (arith, digits_fit count small))

pub note_fits : NoteFitsLaw
note_fits one small = simp length-append (omega (arith, note_text_fits one small))
