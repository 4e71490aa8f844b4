-- What stands behind a failure's text.
use Rattle.std.proofs.Common.{◌≡◌, ◌∙◌, ap, sym, refl, ℕ, List, [], ◌∷◌, ◌++◌, Bool, true, false, ◌||◌, map, IfSome}
use Rattle.std.proofs.Common.{append-nil, append_assoc, true≢false, Option, Some, None, Result, Ok, Err}
use Rattle.std.specs.List.{list_any}
use Rattle.std.specs.Prelude.{OnOk, OnErr}
use Rattle.std.specs.Io.KnownBytes.{Appends}
use Rattle.std.proofs.KnownBytes.{Appends-trans}
use Rattle.pmp_text.specs.Bytes.{AppendsBeginning}

pub any_mapped : {A B : Type 0} (test : B → Bool) (of : A → B) (items : List A)
    → list_any test (map of items) ≡ list_any (λ item. test (of item)) items
any_mapped test of [] = refl
any_mapped test of (item ∷ items) = ap (λ rest. test (of item) || rest) (any_mapped test of items)

-- a text that is written wholly is a beginning of itself
pub begun : {T E : Type 0} (result : Result T E) (before after : Option (List ℕ)) (text : List ℕ)
    → OnOk result (Appends before after text) → OnErr result (AppendsBeginning before after text)
    → AppendsBeginning before after text
begun (Ok value) before after text whole part = (text, [], sym (append-nil text), whole)
begun (Err fault) before after text whole part = part

-- what stands behind a text where the words ask for it
abbrev Behind : (asked : Bool) (before after : Option (List ℕ)) (text : List ℕ) → Type 0
Behind asked before after text =
    (more : List ℕ) × (asked ≡ false → more ≡ []) × AppendsBeginning before after (text ++ more)

-- nothing does
pub alone : (asked : Bool) (before after : Option (List ℕ)) (text : Option (List ℕ))
    → IfSome text (AppendsBeginning before after) → IfSome text (Behind asked before after)
alone asked before after None begins = tt
alone asked before after (Some text) (front, rest, cut, grows) =
    ([], λ unasked. refl, (front, rest, append-nil text ∙ cut, grows))

-- a text that was written wholly, and a beginning of more
pub followed : (asked : Bool) → asked ≡ true → (before told after : Option (List ℕ)) (text : Option (List ℕ))
    → IfSome text (Appends before told) → (more : List ℕ) × AppendsBeginning told after more
    → IfSome text (Behind asked before after)
followed asked is before told after None whole more = tt
followed asked is before told after (Some text) whole (more, (front, rest, cut, grows)) = (
  more,
  λ unasked. absurd (true≢false (sym is ∙ unasked)),
  (
    text ++ front,
    rest,
    ap (λ bytes. text ++ bytes) cut ∙ sym (append_assoc text front rest),
    Appends-trans before told after text front whole grows,
  ),
)
