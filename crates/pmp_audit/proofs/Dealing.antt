-- Elements dealt to workers in turn.
use Rattle.std.proofs.Common.{◌≡◌, ℕ, zero, suc, ◌+◌, ◌*◌, ◌/◌, ◌<◌, ◌≤◌, inl, inr, List, [], ◌∷◌, ◌++◌}
use Rattle.std.proofs.Common.{length, Some, refl, sym, ap, ◌∙◌, arith, subst}
use Rattle.std.specs.Prelude.{slice_get}
use Rattle.std.proofs.Math.Nat.{mul-le-mul_right}
use Rattle.std.proofs.lemmas.Bool.{cases_lt}
use Rattle.std.proofs.lemmas.List.{length_push}
use Rattle.std.proofs.lemmas.Nat.{div-add-mod'}
use Rattle.std.proofs.lemmas.Option.{slice_get_past}
use Rattle.pmp_audit.specs.Working.{IsDealt}

-- ---- one element more

pub slice_get-push_old : {A : Type 0} (xs : List A) (x : A) (i : ℕ)
    → i < length xs → slice_get (xs ++ x ∷ []) i ≡ slice_get xs i
slice_get-push_old [] x i inside = absurd (omega arith)
slice_get-push_old (a ∷ xs) x zero inside = refl
slice_get-push_old (a ∷ xs) x (suc i) inside = slice_get-push_old xs x i (omega arith)

pub slice_get-push_new : {A : Type 0} (xs : List A) (x : A) → slice_get (xs ++ x ∷ []) (length xs) ≡ Some x
slice_get-push_new [] x = refl
slice_get-push_new (a ∷ xs) x = slice_get-push_new xs x

-- ---- a worker's share

module _ {A : Type 0} (worker workers : ℕ) (all : List A) where
  -- after so many turns
  pub record IsDealtSoFar (turns : ℕ) (hand : List A) : Type 0 where
    pub many : length hand ≡ turns
    pub each : (turn : ℕ) → turn < turns → slice_get hand turn ≡ slice_get all (worker + turn * workers)

  pub one_dealt : (turns : ℕ) (hand : List A) (x : A) → IsDealtSoFar turns hand
      → slice_get all (worker + turns * workers) ≡ Some x → IsDealtSoFar (turns + 1) (hand ++ x ∷ [])
  one_dealt turns hand x so_far at =
      let last : slice_get (hand ++ x ∷ []) turns ≡ slice_get all (worker + turns * workers) =
      ap (λ (n : ℕ). slice_get (hand ++ x ∷ []) n) (sym so_far.many) ∙ slice_get-push_new hand x ∙ sym at in
      record {
        many = length_push hand x ∙ ap (λ (n : ℕ). n + 1) so_far.many;
        each = λ turn inside. elim (cases_lt turn turns) [
          | inl before ↦ slice_get-push_old hand x turn (omega (arith, so_far.many)) ∙ so_far.each turn before
          | inr after ↦
              let same : turns ≡ turn = omega arith in
              subst (λ (n : ℕ). slice_get (hand ++ x ∷ []) n ≡ slice_get all (worker + n * workers)) same last
        ];
      }

  pub all_dealt : (turns : ℕ) (hand : List A) → IsDealtSoFar turns hand → length all ≤ worker + turns * workers
      → IsDealt worker workers all hand
  all_dealt turns hand so_far ended place own =
      let turn = place / workers in
      let place_is : worker + turn * workers ≡ place = omega (arith, div-add-mod' place workers, own) in
      elim (cases_lt turn turns) [
        | inl inside ↦ so_far.each turn inside ∙ ap (slice_get all) place_is
        | inr past ↦
            let later : turns * workers ≤ turn * workers = mul-le-mul_right workers past in
            slice_get_past hand turn (omega (arith, so_far.many)) ∙ sym (slice_get_past all place (omega arith))
      ]
