-- The moments of a script, each a number of publications done, and the words for them.
use Rattle.std.specs.Prelude.{ℕ, ◌-◌, List, [], ◌∷◌, length, take, drop, Bool, false, ◌||◌, Option, Some, None, Result, Ok, Err}
use Rattle.std.specs.Prelude.{find, option_map, nat_le, nat_lt, codes, bytes_eq, if◌then◌else◌}
use Rattle.pmp_text.specs.declared.moments.Asked.{Asked}
use Rattle.pmp_text.specs.declared.moments.Coming.TheVariants as coming
use Rattle.pmp_text.specs.declared.moments.MomentName.{MomentName}
use Rattle.pmp_text.specs.declared.moments.MomentName.TheVariants.{Last, Mml, Mmwp, RlbClear, Marked}
use Rattle.pmp_text.specs.declared.moments.Lasting.{Lasting}
use Rattle.pmp_text.specs.declared.moments.Moment.{Moment}
use Rattle.pmp_text.specs.declared.moments.Moment.TheVariants.{Named, Numbered}
use Rattle.pmp_text.specs.declared.moments.When.{When}
use Rattle.pmp_text.specs.declared.moments.When.TheVariants.{Number, Labelled}
use Rattle.pmp_text.specs.declared.mark.Mark.{Mark}
use Rattle.pmp_text.specs.declared.mark.Name.{Name}
use Rattle.pmp_text.specs.declared.refusal.Refusal.{Refusal}
use Rattle.pmp_text.specs.declared.refusal.Refusal.TheVariants.{BadRow, NoMoment}
use Rattle.pmp_text.specs.Contents.{ScriptContents}
use Rattle.pmp_text.specs.Marks.{name_said, same_name}
use Rattle.pmp_text.specs.Numbers.{word_number}

-- how many publications a script has, the moments that it names, if its version has any, and since when its bits of
-- mseccfg last to the end, if words may name that
pub record KnownMoments : Type 0 where
  pub publications : ℕ
  pub marks : Option (List Mark)
  pub lasting : Option Lasting

-- those that the script's own text gives
abbrev pub moments_in : ScriptContents → KnownMoments
moments_in script = record { publications = length script.batches; marks = script.marks; lasting = None }

-- those of a script whose version has none
abbrev pub unnamed_moments : (publications : ℕ) → KnownMoments
unnamed_moments publications = record { publications = publications; marks = None; lasting = None }

-- ---- what a word means

-- no number: the last moment, one that far before it, the first since when MML or MMWP is set, or RLB clear, to the end
-- (Smepmp, mseccfg), or one that the script names
unfoldable pub label_said : List ℕ → Option MomentName
label_said word =
    if bytes_eq word (codes "last") then Some (Last 0)
    else (if bytes_eq word (codes "mml") then Some Mml
    else (if bytes_eq word (codes "mmwp") then Some Mmwp
    else (if bytes_eq word (codes "rlb-clear") then Some RlbClear
    else (if bytes_eq (take 5 word) (codes "last-") then option_map (λ back. Last back) (word_number (drop 5 word))
    else option_map (λ name. Marked name) (name_said word)))))

-- a number, or a name
abbrev pub when_said : List ℕ → Option When
when_said word = elim (word_number word) [
  | Some number ↦ Some (Number number)
  | None ↦ option_map (λ label. Labelled label) (label_said word)
]

-- ---- which moment it is

-- that many before the last, if there are as many
abbrev pub back_from : (publications back : ℕ) → Option ℕ
back_from publications back = if nat_le back publications then Some (publications - back) else None

-- the moment that the script gives this name
abbrev pub done_at : List Mark → Name → Option ℕ
done_at marks name = option_map (λ mark. mark.done) (find (λ mark. same_name name mark.name) marks)

abbrev pub mark_place : List Mark → Name → Result (Option ℕ) Refusal
mark_place marks name = elim (done_at marks name) [ Some done ↦ Ok (Some done) | None ↦ Err NoMoment ]

abbrev pub lasting_place : Option Lasting → (Lasting → Option ℕ) → Result (Option ℕ) Refusal
lasting_place lasting first = elim lasting [ Some lasting ↦ Ok (first lasting) | None ↦ Err BadRow ]

abbrev pub place_among : KnownMoments → List Mark → MomentName → Result (Option ℕ) Refusal
place_among moments marks (Last back) = Ok (back_from moments.publications back)
place_among moments marks Mml = lasting_place moments.lasting (λ lasting. lasting.mml)
place_among moments marks Mmwp = lasting_place moments.lasting (λ lasting. lasting.mmwp)
place_among moments marks RlbClear = lasting_place moments.lasting (λ lasting. lasting.rlb_clear)
place_among moments marks (Marked name) = mark_place marks name

-- a moment, or one that never comes, if the script's version names any
abbrev pub label_place : KnownMoments → MomentName → Result (Option ℕ) Refusal
label_place moments label =
    elim moments.marks [ Some marks ↦ place_among moments marks label | None ↦ Err BadRow ]

-- it must come
abbrev pub that_comes : Result (Option ℕ) Refusal → Result ℕ Refusal
that_comes (Ok (Some place)) = Ok place
that_comes (Ok None) = Err NoMoment
that_comes (Err kind) = Err kind

abbrev pub when_place : KnownMoments → When → Result ℕ Refusal
when_place moments (Number number) = Ok number
when_place moments (Labelled label) = that_comes (label_place moments label)

-- how many publications are done at the moment of a word
unfoldable pub after_said : KnownMoments → List ℕ → Result ℕ Refusal
after_said moments word = elim (when_said word) [ Some when ↦ when_place moments when | None ↦ Err BadRow ]

-- ---- the rows of a policy

-- the word ends with ` if-any`, and what precedes that
abbrev pub is_waived : List ℕ → Bool
is_waived word = bytes_eq (drop (length word - 7) word) (codes " if-any")

abbrev pub name_in : List ℕ → List ℕ
name_in word = if is_waived word then take (length word - 7) word else word

abbrev pub named_at : (waived : Bool) → Result (Option ℕ) Refusal → Result Moment Refusal
named_at waived (Ok place) = Ok (Named place waived)
named_at waived (Err kind) = Err kind

-- what a word means that is no number
unfoldable pub moment_named : KnownMoments → List ℕ → Result Moment Refusal
moment_named moments word = elim (label_said (name_in word)) [
  | Some label ↦ named_at (is_waived word) (label_place moments label)
  | None ↦ Err BadRow
]

-- the moment of a word: a number, or what it names
abbrev pub moment_said : KnownMoments → List ℕ → Result Moment Refusal
moment_said moments word = elim (word_number word) [ Some number ↦ Ok (Numbered number) | None ↦ moment_named moments word ]

-- both are numbers, and the second is below the first
abbrev pub is_backward : (from to : Moment) → Bool
is_backward (Numbered from) (Numbered to) = nat_lt to from
is_backward _ _ = false

abbrev pub unless_backward : (from : Moment) → Result Moment Refusal → Result Moment Refusal
unless_backward from (Ok to) = if is_backward from to then Err BadRow else Ok to
unless_backward from (Err kind) = Err kind

-- the last moment that a row asks about: nothing means the last one
abbrev pub to_said : KnownMoments → (from : Moment) → List ℕ → Result Moment Refusal
to_said moments from [] = Ok (Named (Some moments.publications) false)
to_said moments from (byte ∷ more) = unless_backward from (moment_said moments (byte ∷ more))

abbrev pub place_of : Moment → Option ℕ
place_of (Numbered place) = Some place
place_of (Named place waived) = place

abbrev pub waives : Moment → Bool
waives (Numbered place) = false
waives (Named place waived) = waived

-- a row asks about no moment, and has the last one instead
abbrev pub unasked : (publications : ℕ) → (waived : Bool) → Asked
unasked publications waived =
    record { from = publications; to = publications; coming = if waived then coming.Waived else coming.Unmet }

-- a row asks from one moment to the other, if both come in order, or the first is past the end
abbrev pub between_places : (publications : ℕ) → (waived : Bool) → (from to : Option ℕ) → Asked
between_places publications waived (Some from) (Some to) =
    if nat_le from to || nat_lt publications from then record { from = from; to = to; coming = coming.Met }
    else unasked publications waived
between_places publications waived _ _ = unasked publications waived

-- what a row asks about from one moment to the other; one word that waives is enough
abbrev pub asked_between : (publications : ℕ) → (from to : Moment) → Asked
asked_between publications from to = between_places publications (waives from || waives to) (place_of from) (place_of to)
