-- The same decision computed from entries' ranges: `laws::law_decided_by_ranges` proves it equal to the manual's.
use Rattle.std.specs.Prelude.{ℕ, suc, ◌+◌, ◌*◌, ◌/◌, ◌^◌, ◌<◌, ◌≤◌, Bool, ◌&&◌, nat_le, nat_lt, min}
use Rattle.std.specs.Prelude.{max, if◌then◌else◌, List, [], ◌∷◌, length, map}
use Rattle.std.specs.List.{range_with_len, slice_index_or}
use Rattle.std.specs.Int.{w64, trailing_ones}
use Rattle.pmp_core.specs.declared.access.Access.{Access}
use Rattle.pmp_core.specs.declared.access.Mode.{Mode}
use Rattle.pmp_core.specs.declared.configuration.AddressMatching.{AddressMatching}
use Rattle.pmp_core.specs.declared.configuration.AddressMatching.TheVariants.{Off, Tor, Na4, Napot}
use Rattle.pmp_core.specs.declared.decision.Cause.{Cause}
use Rattle.pmp_core.specs.declared.decision.Cause.TheVariants.{Rule, Split, NoMatch}
use Rattle.pmp_core.specs.declared.decision.Decision.{Decision}
use Rattle.pmp_core.specs.Entry.{Entry}
use Rattle.pmp_core.specs.declared.range.ByteRange.{ByteRange}
use Rattle.pmp_core.specs.Grain.{napot_address, tor_address}
use Rattle.pmp_core.specs.declared.hart.Profile.{Profile}
use Rattle.pmp_core.specs.RegisterFile.{RegisterFile, entry_at}
use Rattle.pmp_core.specs.Matching.{low_address}
use Rattle.pmp_core.specs.Rights.{Rights, allows, nothing, rights, default_rights}

abbrev pub IsInRange : ByteRange → ℕ → Type 0
IsInRange range byte = (range.start ≤ byte) × (byte < range.end)

abbrev pub napot_range : ℕ → ByteRange
napot_range address =
    let k = trailing_ones w64 address in
    let start = address / 2 ^ (k + 1) * 2 ^ (k + 3) in
    record { start = start; end = start + 2 ^ (k + 3) }

-- what an entry matches; nothing if end isn't above start
abbrev pub range_by : (grain : ℕ) → AddressMatching → (low address : ℕ) → ByteRange
range_by grain Off low address = record { start = 0; end = 0 }
range_by grain Tor low address = record { start = 4 * tor_address grain low; end = 4 * tor_address grain address }
range_by grain Na4 low address = record { start = 4 * address; end = 4 * address + 4 }
range_by grain Napot low address = napot_range (napot_address grain address)

-- entry i's range on this hart, if its field A were this
abbrev pub range_as : Profile → List Entry → AddressMatching → ℕ → ByteRange
range_as profile entries matching i =
    range_by profile.grain matching (low_address entries i) (entry_at entries i).address

-- entry i's range on this hart
unfoldable pub range_on : Profile → List Entry → ℕ → ByteRange
range_on profile entries i = range_as profile entries (entry_at entries i).configuration.matching i

abbrev pub ranges_on : Profile → List Entry → List ByteRange
ranges_on profile entries = map (range_on profile entries) (range_with_len 0 (length entries))

abbrev pub range_of : RegisterFile → ℕ → ByteRange
range_of file = range_on file.profile file.entries

abbrev pub ranges_of : RegisterFile → List ByteRange
ranges_of file = ranges_on file.profile file.entries

-- range i, or an empty one past the last
abbrev pub range_in : List ByteRange → ℕ → ByteRange
range_in ranges i = slice_index_or ranges i (record { start = 0; end = 0 })

-- whether the range has some byte, or every byte, from `start` up to but not including `end`
abbrev pub is_touched : (start end : ℕ) → ByteRange → Bool
is_touched start end range = nat_lt (max range.start start) (min range.end end)

abbrev pub is_covered : (start end : ℕ) → ByteRange → Bool
is_covered start end range = nat_le range.start start && nat_le end range.end

-- the cause for these bytes, if the first of these ranges is entry i's
unfoldable pub cause_from : (start end i : ℕ) → List ByteRange → Cause
cause_from start end i [] = NoMatch
cause_from start end i (range ∷ ranges) =
    if is_touched start end range then (if is_covered start end range then Rule i else Split i)
    else cause_from start end (suc i) ranges

unfoldable pub cause_of : RegisterFile → (start end : ℕ) → Cause
cause_of file start end = cause_from start end 0 (ranges_of file)

-- the mode's rights by this cause
abbrev pub rights_by : RegisterFile → Mode → Cause → Rights
rights_by file mode (Rule i) = rights file i mode
rights_by file mode (Split i) = nothing
rights_by file mode NoMatch = default_rights file mode

abbrev pub cause_at : RegisterFile → Access → Cause
cause_at file access = cause_of file access.start (access.start + access.length)

unfoldable pub decision_of : RegisterFile → Access → Decision
decision_of file access = record {
  allowed = allows (rights_by file access.mode (cause_at file access)) access.kind;
  cause = cause_at file access;
}
