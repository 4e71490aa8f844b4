-- A text while it is appended to.
use Rattle.std.specs.Prelude.{◌≡◌, ℕ, List, ◌++◌}

-- the text before is a prefix of the text after
pub record HasGrown (before after : List ℕ) : Type 0 where
  pub more : List ℕ
  pub grown : after ≡ before ++ more
