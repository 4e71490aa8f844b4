-- Names of ranges of addresses, and which of them a range overlaps.
use Rattle.std.specs.Prelude.{ℕ, ◌-◌, List, [], ◌∷◌, ◌++◌, map, Bool, true, false, ◌&&◌, max, nat_le, codes, Option}
use Rattle.std.specs.Prelude.{if◌then◌else◌, option_map}
use Rattle.std.specs.Fmt.{digits}
use Rattle.pmp_text.specs.declared.address_name.AddressName.{AddressName}
use Rattle.pmp_text.specs.declared.address_name.AddressNames.{AddressNames}

-- the bytes from first to last have this name
pub record Named : Type 0 where
  pub first : ℕ
  pub last : ℕ
  pub name : List ℕ

abbrev pub named : AddressName → Named
named one = record { first = one.first; last = one.last; name = one.name.now }

-- the names that are given, if any are
abbrev pub given_names : Option AddressNames → Option (List Named)
given_names names = option_map (λ names. map named names.all.now) names

abbrev pub meets : Named → (first last : ℕ) → Bool
meets one first last = nat_le one.first last && nat_le first one.last

abbrev pub is_whole : Named → (first last : ℕ) → Bool
is_whole one first last = nat_le first one.first && nat_le one.last last

-- where a part of a named range begins in it
abbrev pub offset_text : (offset : ℕ) → List ℕ
offset_text offset = codes "+0x" ++ digits 16 false offset

-- the name, and if only a part is overlapped, where that begins
abbrev pub met_name : Named → (first last : ℕ) → List ℕ
met_name one first last = one.name
    ++ (if is_whole one first last then [] else offset_text (max first one.first - one.first))

abbrev pub met_from : (is_first : Bool) → List Named → (first last : ℕ) → List ℕ
met_from is_first [] first last = []
met_from is_first (one ∷ more) first last =
    if meets one first last
    then (if is_first then [] else codes " ") ++ (met_name one first last ++ met_from false more first last)
    else met_from is_first more first last

-- all names that a range overlaps, in order, with blanks between them
abbrev pub met_names : List Named → (first last : ℕ) → List ℕ
met_names names first last = met_from true names first last
