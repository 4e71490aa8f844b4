-- What the program adds to a failure's text if its words ask for an explanation.
use Rattle.std.specs.Prelude.{◌≡◌, ℕ, Bool, false, List, [], ◌++◌, Option, IfSome, codes}
use Rattle.std.specs.List.{list_any}
use Rattle.std.specs.Str.{bytes_eq}
use Rattle.clap.specs.Words.{Text}
use Rattle.pmp_text.specs.Bytes.{AppendsBeginning}
use Rattle.pmp_tool.specs.declared.failure.Failure.{Failure}
use Rattle.pmp_tool.specs.Failures.{failure_text}

-- the word that asks for explanations
abbrev pub is_explain : (word : Text) → Bool
is_explain word = bytes_eq word (codes "--explain")

abbrev pub asks_to_explain : (words : List Text) → Bool
asks_to_explain words = list_any is_explain words

-- a failure's text and then an explanation, or a prefix of both, is appended to known bytes; there is no explanation if
-- the words don't ask for one
abbrev pub TellsAndExplains : (words : List Text) → Failure → (before after : Option (List ℕ)) → Type 0
TellsAndExplains words failure before after = IfSome (failure_text failure) (λ text. (explanation : List ℕ)
    × (asks_to_explain words ≡ false → explanation ≡ []) × AppendsBeginning before after (text ++ explanation))
