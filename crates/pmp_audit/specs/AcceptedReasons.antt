-- Which reasons don't count against a script.
use Rattle.std.specs.Prelude.{ℕ, ◌&&◌, ◌||◌, Bool, false, not, List, codes}
use Rattle.std.specs.List.{list_any}
use Rattle.std.specs.Option.{option_map_or}
use Rattle.std.specs.Str.{bytes_eq}
use Rattle.pmp_core.specs.declared.csr.Csr.{Csr}
use Rattle.pmp_core.specs.RegisterFile.{RegisterFile}
use Rattle.pmp_core.specs.WriteReasons.{all_reasons, is_reason}
use Rattle.pmp_text.specs.Effects.{reason_text}
use Rattle.pmp_lint.specs.Accepting.{are_named, is_accepted, name_at}

-- an expected value isn't what the register reads
abbrev pub differs_text : List ℕ
differs_text = codes "differs"

abbrev pub is_write_reason : (name : List ℕ) → Bool
is_write_reason name = list_any (λ reason. bytes_eq (reason_text reason) name) all_reasons

-- the reasons of writes, and that a value isn't the expected one, as in rows
abbrev pub is_reason_word : (name : List ℕ) → Bool
is_reason_word name = bytes_eq name differs_text || is_write_reason name

-- a word says such a reason, at a line or at all
abbrev pub says_reason : (word : List ℕ) → Bool
says_reason word = option_map_or (λ (said, only). is_reason_word said) (name_at word) false

-- each of the words says such a reason
abbrev pub are_reasons : (words : List ℕ) → Bool
are_reasons words = are_named is_reason_word words

-- a reason why the register wouldn't read the value isn't accepted
abbrev pub has_other_reason : (accepted : List ℕ) → (line : ℕ) → RegisterFile → Csr → (value : ℕ) → Bool
has_other_reason accepted line file csr value =
    list_any (λ reason. is_reason reason file csr value && not (is_accepted accepted (reason_text reason) line))
    all_reasons
