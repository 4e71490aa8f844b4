-- The questions so far, answered in order.
use Rattle.std.proofs.Common.{◌≡◌, ◌∙◌, ℕ, ◌+◌, ◌<◌, List, [], ◌∷◌, ◌++◌, ap, sym, take, drop, get_or, length, set}
use Rattle.std.specs.List.{AllZip}
use Rattle.std.proofs.lemmas.Grind.{drop_more_same}
use Rattle.std.proofs.lemmas.List.{drop-drop, drop-set, drop_more, take_more, take_more_set}

pushed : {A B : Type 0} (R : A → B → Type 0) (xs : List A) (ys : List B) (x : A) (y : B) → AllZip R xs ys → R x y
    → AllZip R (xs ++ x ∷ []) (ys ++ y ∷ [])
pushed R [] [] x y all one = (one, tt)
pushed R [] (b ∷ ys) x y all one = absurd all
pushed R (a ∷ xs) [] x y all one = absurd all
pushed R (a ∷ xs) (b ∷ ys) x y (is, all) one = (is, pushed R xs ys x y all one)

-- of a list that is rewritten in order, those that were written go with the old ones, and the others are the old ones
module _ {X : Type 0} (R : X → X → Type 0) (olds news : List X) (i : ℕ) (one d : X) (in_olds : i < length olds)
    (in_news : i < length news) (left : drop i news ≡ drop i olds)
  where
    pub one_left : drop (i + 1) (set news i one) ≡ drop (i + 1) olds
    one_left = sym (drop-drop 1 i (set news i one)) ∙ ap (drop 1) (drop-set news i one in_news)
        ∙ drop_more_same news olds i left

    first : (xs : List X) → i < length xs → get_or (drop i xs) 0 d ≡ get_or xs i d
    first xs inside = ap (λ (l : List X). get_or l 0 d) (drop_more xs i d inside)

    pub one_more : AllZip R (take i olds) (take i news) → R (get_or news i d) one
        → AllZip R (take (i + 1) olds) (take (i + 1) (set news i one))
    one_more all is =
        let same = sym (first news in_news) ∙ ap (λ (l : List X). get_or l 0 d) left ∙ first olds in_olds in
        rw (take_more olds i d in_olds, take_more_set news i one in_news)
        (pushed R (take i olds) (take i news) (get_or olds i d) one all (rw same at is))
