-- Lists that are numbered, and one element more.
use Rattle.std.proofs.Common.{◌≡◌, ℕ, ◌+◌, List, [], ◌∷◌, ◌++◌, length, ap, ◌∙◌, arith}
use Rattle.std.specs.List.{enumerate_from}

pub enumerate_from-push : {A : Type 0} (n : ℕ) (xs : List A) (x : A)
    → enumerate_from n (xs ++ x ∷ []) ≡ enumerate_from n xs ++ (n + length xs, x) ∷ []
enumerate_from-push n [] x = let same : n ≡ n + 0 = omega arith in ap (λ (m : ℕ). (m, x) ∷ []) same
enumerate_from-push n (a ∷ xs) x =
    let same : n + 1 + length xs ≡ n + length (a ∷ xs) = omega arith in
    let rest = enumerate_from-push (n + 1) xs x
    ∙ ap (λ (m : ℕ). enumerate_from (n + 1) xs ++ (m, x) ∷ []) same in
    ap (λ more. (n, a) ∷ more) rest
