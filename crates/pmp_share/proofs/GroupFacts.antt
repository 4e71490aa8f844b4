-- Groups of decisions.
use Rattle.std.proofs.Common.{◌≡◌, ℕ, ◌+◌, ◌<◌, List, [], ◌∷◌, ◌++◌, length, take, map, get_or, refl, ap, sym, subst, ◌∙◌}
use Rattle.std.proofs.lemmas.List.{take_more}
use Rattle.std.specs.List.{AllZip}

module _ {A B : Type 0} (R : A → B → Type 0) where
  zip_push : (xs : List A) (ys : List B) (x : A) (y : B) → AllZip R xs ys → R x y
      → AllZip R (xs ++ x ∷ []) (ys ++ y ∷ [])
  zip_push [] [] x y all one = (one, tt)
  zip_push [] (b ∷ ys) x y all one = absurd all
  zip_push (a ∷ xs) [] x y all one = absurd all
  zip_push (a ∷ xs) (b ∷ ys) x y all one = (all.0, zip_push xs ys x y all.1 one)

  pub zip_more : (xs : List A) (ys : List B) (i : ℕ) (x : A) (y : B) → i < length xs → x ≡ get_or xs i x
      → AllZip R (take i xs) ys → R x y → AllZip R (take (i + 1) xs) (ys ++ y ∷ [])
  zip_more xs ys i x y lt is all one = subst (λ (l : List A). AllZip R l (ys ++ y ∷ []))
      (ap (λ (z : A). take i xs ++ z ∷ []) is ∙ sym (take_more xs i x lt)) (zip_push (take i xs) ys x y all one)

-- where each pair is related and computed, so are the lists
pub related_and_computed : {A B : Type 0} (R : A → B → Type 0) (f : A → B) (xs : List A) (ys : List B)
    → AllZip (λ x y. R x y × (y ≡ f x)) xs ys → AllZip R xs ys × (ys ≡ map f xs)
related_and_computed R f [] [] all = (tt, refl)
related_and_computed R f [] (y ∷ ys) all = absurd all
related_and_computed R f (x ∷ xs) [] all = absurd all
related_and_computed R f (x ∷ xs) (y ∷ ys) all =
    let others = related_and_computed R f xs ys all.1 in
    ((all.0.0, others.0), (λ i. all.0.1 i ∷ others.1 i))
