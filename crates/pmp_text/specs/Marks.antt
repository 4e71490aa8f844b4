-- The names that a script gives its moments.
use Rattle.std.specs.Prelude.{ℕ, List, [], ◌∷◌, ◌++◌, length, drop, take, replicate, Bool, false, ◌&&◌, ◌||◌, ◌==◌, not}
use Rattle.std.specs.Prelude.{Option, Some, None, unwrap_or, nat_le, codes, bytes_eq, if◌then◌else◌}
use Rattle.std.specs.List.{list_all, list_any, position_from}
use Rattle.pmp_text.specs.declared.mark.Mark.{Mark}
use Rattle.pmp_text.specs.declared.mark.Name.{Name}
use Rattle.pmp_text.specs.declared.mark.TheConstants.{NAME_BYTES}

abbrev pub is_letter : (byte : ℕ) → Bool
is_letter byte = (nat_le 65 byte && nat_le byte 90) || (nat_le 97 byte && nat_le byte 122)

abbrev pub begins_with_letter : List ℕ → Bool
begins_with_letter [] = false
begins_with_letter (first ∷ more) = is_letter first

-- a letter, a digit, `_` or `.`
abbrev pub is_name_byte : (byte : ℕ) → Bool
is_name_byte byte = is_letter byte || ((nat_le 48 byte && nat_le byte 57) || (byte == 95 || byte == 46))

-- `last`, `mml`, `mmwp` and `rlb` have their own meanings
abbrev pub is_taken : List ℕ → Bool
is_taken word = bytes_eq word (codes "last")
    || (bytes_eq word (codes "mml") || (bytes_eq word (codes "mmwp") || bytes_eq word (codes "rlb")))

-- a letter, then letters, digits, `_` and `.`, not too many, and no taken word
abbrev pub is_name : List ℕ → Bool
is_name word = begins_with_letter word
    && (list_all is_name_byte word && (nat_le (length word) NAME_BYTES && not (is_taken word)))

-- the name that a word is, padded with zeros
abbrev pub name_said : List ℕ → Option Name
name_said word =
    if is_name word then Some (record { bytes = word ++ drop (length word) (replicate NAME_BYTES 0) }) else None

abbrev pub zero_place : List ℕ → Option ℕ
zero_place bytes = position_from (λ byte. byte == 0) 0 bytes

-- a name's bytes, without the zeros after them
abbrev pub name_bytes : Name → List ℕ
name_bytes name = take (unwrap_or (zero_place name.bytes) NAME_BYTES) name.bytes

abbrev pub same_name : Name → Name → Bool
same_name name other = bytes_eq name.bytes other.bytes

-- one of these has the name
abbrev pub is_in : List Mark → Name → Bool
is_in marks name = list_any (λ mark. same_name name mark.name) marks
