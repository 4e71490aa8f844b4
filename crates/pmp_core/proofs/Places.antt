-- Lists of entries and of ranges, place by place.
use borrow.Author.Tests.{tests}
use Rattle.std.proofs.Common.{◌≡◌, ℕ, suc, ◌+◌, ◌<◌, Bool, false, List, [], ◌∷◌, length, map, get_or, slice_index_or}
use Rattle.std.proofs.Common.{rules, refl, arith}
use Rattle.std.specs.List.{range_with_len, list_any}
use Rattle.std.proofs.lemmas.Bool.{or_from}
use Rattle.std.proofs.lemmas.List.FromFn.{fill_by_all, length-map-range_with_len, get_or-map-range_with_len}
use Rattle.pmp_core.specs.Entry.{Entry}
use Rattle.pmp_core.specs.declared.range.ByteRange.{ByteRange}
use Rattle.pmp_core.specs.declared.hart.Profile.{Profile}
use Rattle.pmp_core.specs.RegisterFile.{reset_entry, entry_at}
use Rattle.pmp_core.specs.Matching.{low_address}
use Rattle.pmp_core.specs.Ranges.{range_on, ranges_on}

abbrev pub no_range : ByteRange
no_range = record { start = 0; end = 0 }

pub low_after : (entries : List Entry) (i k : ℕ) → k + 1 ≡ i → low_address entries i ≡ (entry_at entries k).address
low_after entries i k next = search rules

pub low_first : (entries : List Entry) (i : ℕ) → i < 1 → low_address entries i ≡ 0
low_first entries i first = search rules

pub ruleset low_rules = (low_after, low_first)

pub length-ranges_of : (profile : Profile) (entries : List Entry) → length (ranges_on profile entries) ≡ length entries
length-ranges_of profile entries = length-map-range_with_len (range_on profile entries) 0 (length entries)

-- entries of which f gives each by its place
pub entries_by : (entries : List Entry) (f : ℕ → Entry) → ((k : ℕ) → k < length entries → entry_at entries k ≡ f k)
    → entries ≡ map f (range_with_len 0 (length entries))
entries_by entries f h = fill_by_all f entries (length entries) reset_entry refl h

pub range_at : (profile : Profile) (entries : List Entry) (i : ℕ) → i < length entries
    → slice_index_or (ranges_on profile entries) i no_range ≡ range_on profile entries i
range_at profile entries i inside = search (rules, tests, get_or-map-range_with_len)

pub none_any : {X : Type 0} (p : X → Bool) (xs : List X) (d : X) → ((i : ℕ) → i < length xs → p (get_or xs i d) ≡ false)
    → list_any p xs ≡ false
none_any p [] d none = refl
none_any p (x ∷ xs) d none =
    or_from (p x) _ (none 0 (omega arith)) (none_any p xs d (λ i near. none (suc i) (omega arith)))
