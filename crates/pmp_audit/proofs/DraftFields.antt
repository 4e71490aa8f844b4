-- The fields of a draft's rows are read back.
use Rattle.std.proofs.Common.{◌≡◌, ℕ, ◌-◌, ◌^◌, ◌<◌, ◌≤◌, true, false, List, [], ◌∷◌, Option, Some}
use Rattle.std.proofs.Common.{None, Ok}
use Rattle.std.proofs.Common.{refl, sym, ap, arith}
use Rattle.std.specs.Prelude.{codes, decimal, is_some}
use Rattle.std.proofs.lemmas.Bool.{le-leb, le-ltb, lt-leb}
use Rattle.pmp_core.specs.declared.access.Kind.{Kind}
use Rattle.pmp_core.specs.declared.access.Kind.TheVariants.{Fetch, Load, Store}
use Rattle.pmp_core.specs.declared.access.Mode.{Mode}
use Rattle.pmp_core.specs.declared.access.Mode.TheVariants.{M, S, U}
use Rattle.pmp_core.specs.declared.access.TheConstants.{ADDRESS_LIMIT}
use Rattle.pmp_core.specs.declared.span.Span.{Span}
use Rattle.pmp_text.specs.declared.mark.Mark.{Mark}
use Rattle.pmp_text.specs.declared.moments.Coming.TheVariants.{Met}
use Rattle.pmp_text.specs.declared.moments.Moment.{Moment}
use Rattle.pmp_text.specs.declared.moments.Moment.TheVariants.{Named, Numbered}
use Rattle.pmp_text.specs.declared.policy.Demand.TheVariants.{Never}
use Rattle.pmp_text.specs.declared.policy.Kinds.TheVariants.{One}
use Rattle.pmp_text.specs.declared.policy.Modes.{Modes}
use Rattle.pmp_text.specs.declared.policy.row_fields.PolicyFields.{PolicyFields}
use Rattle.pmp_text.specs.Moments.{KnownMoments, label_said, moment_named, moment_said, place_of, waives}
use Rattle.pmp_text.specs.Numbers.{is_numeral, numeral}
use Rattle.pmp_text.specs.Policies.{SevenFields, accesses_said, bytes_said, moments_said, policy_fields_fault}
use Rattle.pmp_text.specs.Policies.{policy_in}
use Rattle.pmp_text.specs.Policies.{policy_of_fields, seven_fields}
use Rattle.pmp_audit.specs.PolicyDraft.{address_word, kind_word, last_word, modes_word, never_fields}
use Rattle.pmp_audit.proofs.ReadNumbers.{address_not_bare, address_read, decimal_read}

-- ---- the moment

pub record IsLast (moments : KnownMoments) (word : List ℕ) : Type 0 where
  pub from : Moment
  pub said : moment_said moments word ≡ Ok from
  pub place : place_of from ≡ Some moments.publications
  pub stays : waives from ≡ false

last_number : (moments : KnownMoments) (number : ℕ) → moments.publications ≡ number → number < 2 ^ 64
    → IsLast moments (decimal number)
last_number moments number is below = record {
  from = Numbered number;
  said = rw (moment_said, decimal_read number below) refl;
  place = ap Some (sym is);
  stays = refl;
}

last_name : (moments : KnownMoments) (marks : List Mark) → moments.marks ≡ Some marks → IsLast moments (codes "last")
unfolding label_said moment_named numeral is_numeral
last_name moments marks is =
    let whole : moments.publications - 0 ≡ moments.publications = omega arith in
    record {
      from = Named (Some moments.publications) false;
      said = rw (is, le-leb 0 moments.publications (omega arith), whole) refl;
      place = refl;
      stays = refl;
    }

pub is_last : (moments : KnownMoments) (marks : Option (List Mark)) (publications : ℕ) → moments.marks ≡ marks
    → moments.publications ≡ publications → publications < 2 ^ 64
    → IsLast moments (last_word (is_some marks) publications)
is_last moments None publications is all below = last_number moments publications all below
is_last moments (Some marks) publications is all below = last_name moments marks is

-- ---- a row

abbrev pub modes_like : Mode → Modes
modes_like M = record { machine = true; supervisor = false; user = false }
modes_like S = record { machine = false; supervisor = true; user = true }
modes_like U = record { machine = false; supervisor = true; user = true }

abbrev pub never_said : (publications : ℕ) → Mode → Kind → Span → PolicyFields
never_said publications mode kind range = record {
  from = publications;
  to = publications;
  modes = modes_like mode;
  kinds = One kind;
  first = range.first;
  last = range.last;
  demand = Never;
  coming = Met;
  is_bare = false;
}

abbrev words_of : (moment : List ℕ) → Mode → Kind → Span → SevenFields
words_of moment mode kind range = record {
  from = moment;
  to = [];
  modes = modes_word mode;
  kind = kind_word kind;
  first = address_word range.first;
  last = address_word range.last;
  demand = codes "never";
}

accesses : (moment : List ℕ) (mode : Mode) (kind : Kind) (range : Span)
    → accesses_said (words_of moment mode kind range) ≡ Ok (modes_like mode, One kind)
unfolding accesses_said
accesses moment M Fetch range = refl
accesses moment M Load range = refl
accesses moment M Store range = refl
accesses moment S Fetch range = refl
accesses moment S Load range = refl
accesses moment S Store range = refl
accesses moment U Fetch range = refl
accesses moment U Load range = refl
accesses moment U Store range = refl

module _ (moments : KnownMoments) (moment : List ℕ) (mode : Mode) (kind : Kind) (range : Span) where
  abbrev words : SevenFields
  words = words_of moment mode kind range

  asked : IsLast moments moment → moments_said moments words
      ≡ Ok (record { from = moments.publications; to = moments.publications; coming = Met })
  unfolding moments_said
  asked last =
      rw (last.said, last.stays, last.place, le-leb moments.publications moments.publications (omega arith)) refl

  module _ (proper : range.first ≤ range.last) (inside : range.last < ADDRESS_LIMIT) where
    bytes : bytes_said words ≡ Ok (range.first, range.last)
    unfolding bytes_said
    bytes = rw (
      address_read range.first (omega (arith, proper, inside)),
      address_read range.last (omega (arith, inside)),
      le-leb range.first range.last proper,
    ) refl

    pub row : IsLast moments moment
        → policy_in false moments (moment ∷ never_fields mode kind range)
        ≡ Ok (never_said moments.publications mode kind range)
    unfolding seven_fields policy_of_fields
    row last = rw (
      asked last,
      accesses moment mode kind range,
      bytes,
      address_not_bare range.first (omega (arith, proper, inside)),
      address_not_bare range.last (omega (arith, inside)),
    ) refl

    pub no_fault : policy_fields_fault moments.publications (never_said moments.publications mode kind range) ≡ None
    no_fault = rw (
      le-ltb moments.publications moments.publications (omega arith),
      lt-leb ADDRESS_LIMIT range.last inside,
    ) refl
