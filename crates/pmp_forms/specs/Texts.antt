-- Lists of texts, for private contracts.
use Rattle.std.specs.Borrow.{Bor}
use Rattle.std.specs.Prelude.{ℕ, List, Vec, map}
use Rattle.std.specs.List.{flat_map}
use Rattle.std.specs.declared.alloc.Global.{Global}

abbrev pub text_items : List (Vec ℕ Global) → List (List ℕ)
text_items texts = map (λ text. text.items) texts

-- the texts, one after another
abbrev pub joined_now : List (Bor (List ℕ)) → List ℕ
joined_now parts = flat_map (λ part. part.now) parts
