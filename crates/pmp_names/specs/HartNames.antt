-- The scripts of a folder, one for each hart, and their order.
use Rattle.std.specs.Prelude.{◌≡◌, ◌⊎◌, ℕ, List, [], ◌∷◌, ◌++◌, length, Bool, true, false, not, ◌&&◌, ◌||◌, ◌==◌, nat_le}
use Rattle.std.specs.Prelude.{nat_eq, codes, if◌then◌else◌}
use Rattle.std.specs.Char.{is_ascii_alphanumeric, is_ascii_digit}
use Rattle.std.specs.Cmp.Lexicographic.{slice_cmp}
use Rattle.std.specs.List.{ends_with, filter, list_all, starts_with}
use Rattle.std.specs.List.Sorted.{IsPermutation, IsSorted}
use Rattle.std.specs.Ordering.{nat_cmp, ordering_then}
use Rattle.std.specs.declared.cmp.Ordering.{Ordering}
use Rattle.pmp_text.specs.declared.refusal.Refusal.{Refusal}
use Rattle.pmp_text.specs.declared.refusal.Refusal.TheVariants.{BadFolder, Memory}
use Rattle.pmp_names.specs.declared.hart_name.TheConstants.{HART_NAME}
use Rattle.pmp_names.specs.declared.harts.TheConstants.{HARTS}

-- a file is a script if its name ends with `.pmp`; one that begins with a dot is hidden
abbrev pub is_script : (name : List ℕ) → Bool
is_script name = ends_with nat_eq name (codes ".pmp") && not (starts_with nat_eq name (codes "."))

-- a letter, a digit, `-`, `_` or `.`
abbrev pub is_plain : (byte : ℕ) → Bool
is_plain byte = is_ascii_alphanumeric byte || (byte == 45 || (byte == 95 || byte == 46))

-- rows can begin with the name
abbrev pub is_hart_name : (name : List ℕ) → Bool
is_hart_name name = list_all is_plain name && nat_le (length name) HART_NAME

-- ---- order: by bytes, except that numbers are ordered by value

-- a number is encoded as a 1 for each digit from the first that isn't 0 on, so that a longer one comes later, then 0,
-- then these digits
abbrev pub number_end : (is_open : Bool) (digits : List ℕ) → List ℕ
number_end is_open digits = if is_open then codes "0" ++ digits else []

abbrev pub is_leading_zero : (byte : ℕ) (digits : List ℕ) → Bool
is_leading_zero byte digits = byte == 48 && length digits == 0

-- how the rest of a name is encoded, after these digits of a number if one is open
abbrev pub key_from : (is_open : Bool) (digits : List ℕ) → (rest : List ℕ) → List ℕ
key_from is_open digits [] = number_end is_open digits
key_from is_open digits (byte ∷ rest) =
    if is_ascii_digit byte
    then (if is_leading_zero byte digits then key_from true digits rest
    else codes "1" ++ key_from true (digits ++ byte ∷ []) rest)
    else number_end is_open digits ++ byte ∷ key_from false [] rest

-- a name's sort key
abbrev pub order_key : (name : List ℕ) → List ℕ
order_key name = key_from false [] name

-- names whose numbers have the same values are ordered by bytes
abbrev pub name_cmp : (first second : List ℕ) → Ordering
name_cmp first second = ordering_then (slice_cmp nat_cmp (order_key first) (order_key second)) (slice_cmp nat_cmp first second)

-- ---- folders

-- a folder's scripts have names of harts: there is at least one, and not too many
abbrev pub has_harts : (files : List (List ℕ)) → Bool
has_harts files = let scripts = filter is_script files in
    list_all is_hart_name scripts && (nat_le 1 (length scripts) && nat_le (length scripts) HARTS)

-- the harts of a folder with these files, in order
pub record AreHarts (files harts : List (List ℕ)) : Type 0 where
  pub are_there : has_harts files ≡ true
  pub same : IsPermutation (filter is_script files) harts
  pub ordered : IsSorted name_cmp harts

-- why a folder has none
abbrev pub HasNoHarts : (files : List (List ℕ)) → Refusal → Type 0
HasNoHarts files refusal = (refusal ≡ Memory) ⊎ ((refusal ≡ BadFolder) × (has_harts files ≡ false))
