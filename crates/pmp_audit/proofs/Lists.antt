-- Lists side by side.
use Rattle.std.proofs.Common.{◌≡◌, ◌∙◌, ◌+◌, ◌<◌, ℕ, Bool, true, false, List, [], ◌∷◌, ◌++◌, map, refl, sym, ap, arith}
use Rattle.std.proofs.Common.{get_or, length, take}
use mir.Val.{bool_byte}
use Rattle.std.specs.List.{AllZip, count_by}
use Rattle.std.proofs.lemmas.List.Sums.{count_by_more_no, count_by_more_yes}

-- one item more counts, or doesn't
module _ {X : Type 0} (p : X → Bool) (xs : List X) (i : ℕ) (d : X) (inside : i < length xs) (count : ℕ)
    (so_far : count ≡ count_by p (take i xs)) where
  more_by : (counts : Bool) → p (get_or xs i d) ≡ counts → count + bool_byte counts ≡ count_by p (take (i + 1) xs)
  more_by true is = ap (λ (n : ℕ). n + 1) so_far ∙ sym (count_by_more_yes p xs i d inside is)
  more_by false isnt =
      let same : count + 0 ≡ count = omega arith in
      same ∙ so_far ∙ sym (count_by_more_no p xs i d inside isnt)

  pub count_more : count + bool_byte (p (get_or xs i d)) ≡ count_by p (take (i + 1) xs)
  count_more = more_by (p (get_or xs i d)) refl

-- where a function has one value for each item, there is one list with its values
pub one_by_map : {A B : Type 0} (f : A → B) → ((x y : A) → f x ≡ f y → x ≡ y) → (xs ys : List A) → map f xs ≡ map f ys
    → xs ≡ ys
one_by_map f one [] [] same = refl
one_by_map f one [] (y ∷ ys) same = absurd cc
one_by_map f one (x ∷ xs) [] same = absurd cc
one_by_map f one (x ∷ xs) (y ∷ ys) same =
    let first = one x y cc in
    let rest = one_by_map f one xs ys cc in
    cc

module _ {A B : Type 0} (R : A → B → Type 0) where
  -- where R has one answer, there is one list of answers
  pub one_list : ((x : A) (y z : B) → R x y → R x z → y ≡ z) → (xs : List A) (ys zs : List B)
      → AllZip R xs ys → AllZip R xs zs → ys ≡ zs
  one_list one [] [] [] p q = refl
  one_list one [] [] (z ∷ zs) p q = absurd q
  one_list one [] (y ∷ ys) zs p q = absurd p
  one_list one (x ∷ xs) [] zs p q = absurd p
  one_list one (x ∷ xs) (y ∷ ys) [] p q = absurd q
  one_list one (x ∷ xs) (y ∷ ys) (z ∷ zs) p q =
      let first = one x y z p.0 q.0 in
      let rest = one_list one xs ys zs p.1 q.1 in
      cc

  pub one_more_beside : (xs : List A) (ys : List B) (x : A) (y : B) → AllZip R xs ys → R x y
      → AllZip R (xs ++ x ∷ []) (ys ++ y ∷ [])
  one_more_beside [] [] x y are is = (is, tt)
  one_more_beside [] (z ∷ ys) x y are is = absurd are
  one_more_beside (z ∷ xs) [] x y are is = absurd are
  one_more_beside (w ∷ xs) (z ∷ ys) x y are is = (are.0, one_more_beside xs ys x y are.1 is)
