-- The first fault of a row of faults is the least one.
use Rattle.std.proofs.Common.{◌≡◌, ℕ, zero, suc, ◌<◌, Option, Some, None, sym, ap, ◌∙◌, arith, inl, inr}
use Rattle.std.specs.Prelude.{MatchOption}
use Rattle.std.specs.Option.{option_or}
use Rattle.std.proofs.lemmas.Bool.{cases_order}
use Rattle.pmp_text.specs.Faults.{IsLeastFault}

module _ {F : Type 0} where
  abbrev pub Judges : (faults : ℕ → Option F) → Option F → Type 0
  Judges faults first = MatchOption first ((index : ℕ) → faults index ≡ None) (λ fault. IsLeastFault faults fault)

  -- one line before the others
  module _ (faults later : ℕ → Option F) (shift : (index : ℕ) → faults (suc index) ≡ later index) where
    shifted_none : faults 0 ≡ None → ((index : ℕ) → later index ≡ None) → (index : ℕ) → faults index ≡ None
    shifted_none own none zero = own
    shifted_none own none (suc index) = shift index ∙ none index

    shifted_before : (limit : ℕ) → faults 0 ≡ None → ((index : ℕ) → index < limit → later index ≡ None) → (index : ℕ)
        → index < suc limit → faults index ≡ None
    shifted_before limit own none zero below = own
    shifted_before limit own none (suc index) below = shift index ∙ none index (omega arith)

    shifted : (first : Option F) → faults 0 ≡ None → Judges later first → Judges faults first
    shifted None own none = shifted_none own none
    shifted (Some fault) own least = record {
      index = suc least.index;
      here = shift least.index ∙ least.here;
      none_before = shifted_before least.index own least.none_before;
    }

    pub judged_here : (own first : Option F) → faults 0 ≡ own → Judges later first → Judges faults (option_or own first)
    judged_here None first own judged = shifted first own judged
    judged_here (Some fault) first own judged = record {
      index = 0;
      here = own;
      none_before = λ index below. absurd (omega arith);
    }

  -- the same faults by another name
  pub judged_as : (faults other : ℕ → Option F) (first : Option F) → ((index : ℕ) → other index ≡ faults index)
      → Judges faults first → Judges other first
  judged_as faults other None same none = λ index. same index ∙ none index
  judged_as faults other (Some fault) same least =
      record {
        index = least.index;
        here = same least.index ∙ least.here;
        none_before = λ index below. same index
            ∙ least.none_before index below;
      }

  -- there is one least fault
  one_least : (faults : ℕ → Option F) (one other : F) → IsLeastFault faults one → IsLeastFault faults other
      → one ≡ other
  one_least faults one other p q =
      elim (cases_order p.index q.index) [
        | inl same ↦ let e = sym p.here ∙ ap faults same ∙ q.here in cc
        | inr (inl below) ↦ let e = sym p.here ∙ q.none_before p.index below in absurd cc
        | inr (inr below) ↦ let e = sym q.here ∙ p.none_before q.index below in absurd cc
      ]

  pub the_first : (faults : ℕ → Option F) (first : Option F) (fault : F) → Judges faults first
      → IsLeastFault faults fault → first ≡ Some fault
  the_first faults None fault none least = let e = sym (none least.index) ∙ least.here in absurd cc
  the_first faults (Some one) fault p least = ap (λ (f : F). Some f) (one_least faults one fault p least)
