-- The rows of a register file's entries.
use Rattle.std.specs.Prelude.{◌≡◌, ℕ, ◌<◌, Bool, List, [], ◌∷◌, length, Option, Some, None, if◌then◌else◌, codes}
use Rattle.std.specs.Prelude.{map}
use Rattle.std.specs.List.{range_with_len, slice_index_or}
use Rattle.pmp_core.specs.declared.access.Mode.TheVariants.{M, U}
use Rattle.pmp_core.specs.declared.configuration.AddressMatching.{AddressMatching}
use Rattle.pmp_core.specs.declared.configuration.AddressMatching.TheVariants.{Off, Tor, Na4, Napot}
use Rattle.pmp_core.specs.declared.lock.Lock.{Lock}
use Rattle.pmp_core.specs.declared.lock.Lock.TheVariants.{Open, Bypassed, Frozen}
use Rattle.pmp_core.specs.declared.span.Span.{Span}
use Rattle.pmp_core.specs.RegisterFile.{RegisterFile, entry_at}
use Rattle.pmp_core.specs.Rights.{rights}
use Rattle.pmp_core.specs.Lock.{lock_of}
use Rattle.pmp_core.specs.Span.{IsSpan}
use Rattle.pmp_core.specs.RegisterWrite.{is_address_frozen}
use Rattle.pmp_text.specs.declared.lines.since.Since.{Since}
use Rattle.pmp_text.specs.declared.lines.row_kind.RowKind.TheVariants as kind
use Rattle.pmp_text.specs.Cells.{CellValue, Number, Address, Word, RowValue, number_value}
use Rattle.pmp_text.specs.RunRows.{rights_value}

-- how the address register is read
abbrev pub matching_text : AddressMatching → List ℕ
matching_text Off = codes "off"
matching_text Tor = codes "tor"
matching_text Na4 = codes "na4"
matching_text Napot = codes "napot"

-- the first and the last byte, or two dashes
abbrev pub first_value : Option Span → CellValue
first_value None = Word (codes "-")
first_value (Some span) = Address span.first

abbrev pub last_value : Option Span → CellValue
last_value None = Word (codes "-")
last_value (Some span) = Address span.last

abbrev pub lock_text : Lock → List ℕ
lock_text Open = codes "-"
lock_text Bypassed = codes "bypassed"
lock_text Frozen = codes "frozen"

-- whether writes to the address register are ignored
abbrev pub address_text : Bool → List ℕ
address_text is_frozen = if is_frozen then codes "frozen" else codes "-"

-- for an entry of which nothing is known
abbrev pub no_since : Since
no_since = record { frozen = None; held = None }

-- entry i: how it matches, its bytes, the rights of M-mode and of S-mode and U-mode, its locks, and since when
abbrev pub entry_row : RegisterFile → ℕ → Option Span → Since → RowValue
entry_row file i span since = record {
  kind = kind.Entry;
  cells = Number i ∷ Word (matching_text (entry_at file.entries i).configuration.matching) ∷ first_value span
      ∷ last_value span ∷ rights_value (rights file i M) ∷ rights_value (rights file i U)
      ∷ Word (lock_text (lock_of file i)) ∷ Word (address_text (is_address_frozen file i))
      ∷ number_value since.frozen ∷ number_value since.held ∷ [];
}

-- a row for each entry, with the list's value for it
pub record AreEntryRows (file : RegisterFile) (since : List Since) (rows : List RowValue) : Type 0 where
  pub span : ℕ → Option Span
  pub spans : (i : ℕ) → i < length file.entries → IsSpan file i (span i)
  pub rows_are : rows ≡ map (λ i. entry_row file i (span i) (slice_index_or since i no_since))
      (range_with_len 0 (length file.entries))
