-- The scripts of the harts of a log so far.
use Rattle.std.proofs.Common.{◌≡◌, ◌+◌, ◌∙◌, ◌++◌, ◌∷◌, [], ap, sym, append_assoc, ℕ, List, true, false, length}
use Rattle.std.proofs.Common.{map, nat_eq, arith}
use Rattle.std.proofs.lemmas.List.{map-append}
use Rattle.std.specs.Prelude.{if◌then◌else◌}
use Rattle.pmp_tool.specs.declared.hart_script.HartScript.{HartScript}
use Rattle.pmp_tool.specs.HartImports.{writers_from}

-- where no script is made there is no hart
pub none_made : (harts : List ℕ) (made : List HartScript) → length made ≡ 0
    → map (λ script. script.hart) made ≡ harts → harts ≡ []
none_made harts [] none are = sym are
none_made harts (script ∷ more) none are = absurd (omega (arith, none))

-- a hart without writes is passed over
pub passed_over : (harts : List ℕ) (made : List HartScript) (hart count : ℕ) (rest behind : List ℕ)
    → nat_eq count 0 ≡ true → rest ≡ count ∷ behind
    → harts ≡ map (λ script. script.hart) made ++ writers_from hart rest
    → harts ≡ map (λ script. script.hart) made ++ writers_from (hart + 1) behind
passed_over harts made hart count rest behind none is are =
    let others = writers_from (hart + 1) behind in
    let before = map (λ script. script.hart) made in
    are ∙ ap (λ rest. before ++ writers_from hart rest) is
    ∙ ap (λ none. before ++ (if none then others else hart ∷ others)) none

-- one with writes has a script more
pub has_one_more : (harts : List ℕ) (made : List HartScript) (script : HartScript) (hart count : ℕ) (rest behind : List ℕ)
    → nat_eq count 0 ≡ false → rest ≡ count ∷ behind → script.hart ≡ hart
    → harts ≡ map (λ script. script.hart) made ++ writers_from hart rest
    → harts ≡ map (λ script. script.hart) (made ++ script ∷ []) ++ writers_from (hart + 1) behind
has_one_more harts made script hart count rest behind some is hart_is are =
    let others = writers_from (hart + 1) behind in
    let before = map (λ script. script.hart) made in
    are ∙ ap (λ rest. before ++ writers_from hart rest) is
    ∙ ap (λ none. before ++ (if none then others else hart ∷ others)) some
    ∙ ap (λ first. before ++ first ∷ others) (sym hart_is)
    ∙ sym (append_assoc before (script.hart ∷ []) others)
    ∙ ap (λ first. first ++ others) (sym (map-append (λ script. script.hart) made (script ∷ [])))
