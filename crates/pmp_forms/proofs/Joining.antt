-- Texts that are appended one after another.
use Rattle.std.proofs.Common.{◌≡◌, ◌∙◌, sym, ap, ℕ, suc, ◌+◌, ◌<◌, add-one, List, ◌∷◌, ◌++◌, append_assoc, drop}
use Rattle.std.proofs.Common.{get_or, length}
use Rattle.std.proofs.Math.Seq.{drop-cons}

-- what stands behind a text that was appended
pub appended : {X : Type 0} (before now text rest all : List X) → now ≡ before ++ text
    → before ++ (text ++ rest) ≡ all → now ++ rest ≡ all
appended before now text rest all is so_far =
    ap (λ items. items ++ rest) is ∙ append_assoc before text rest ∙ so_far

-- the same before an end
pub appended_to : {X : Type 0} (before now text rest end all : List X) → now ≡ before ++ text
    → before ++ ((text ++ rest) ++ end) ≡ all → now ++ (rest ++ end) ≡ all
appended_to before now text rest end all is so_far =
    appended before now text (rest ++ end) all is
    (ap (λ items. before ++ items) (sym (append_assoc text rest end)) ∙ so_far)

-- the item at a place is the first one of the rest
pub item_here : {X : Type 0} (items : List X) (i : ℕ) (item : X) → i < length items → item ≡ get_or items i item
    → drop i items ≡ item ∷ drop (i + 1) items
item_here items i item inside is =
    rw add-one (drop-cons items i item inside ∙ ap (λ first. first ∷ drop (suc i) items) (sym is))
