-- Reading the rows of a trace one by one.
use Rattle.std.specs.Prelude.{◌≡◌, ℕ, ◌+◌, ◌^◌, ◌<◌, ◌≤◌, List, ◌∷◌, Some, None, Ok, if◌then◌else◌}
use Rattle.std.specs.Option.{option_or}
use Rattle.pmp_text.specs.declared.trace.TraceRow.{TraceRow}
use Rattle.pmp_text.specs.declared.trace.rows.Position.{Position}
use Rattle.pmp_text.specs.LongTraces.{Records}
use Rattle.pmp_text.specs.Moments.{KnownMoments}
use Rattle.pmp_text.specs.Traces.{row_fault, row_fields, row_in}

-- the records that rows are still read from, for a script with these moments, and their place
pub record RowsLeft : Type 0 where
  pub records : Records
  pub moments : KnownMoments
  pub place : Position

-- the place after a row at this place
abbrev pub place_after : Position → TraceRow → Position
place_after place row = record {
  begun = place.begun;
  last = Some row.after;
  next = place.next + 1;
  bare = option_or place.bare (if row.is_bare then Some place.next else None);
}

-- the row is the next record's, it has no fault at its place, and the others follow it
pub record IsNextRow (before : RowsLeft) (row : TraceRow) (after : RowsLeft) : Type 0 where
  pub fields : List (List ℕ)
  pub next : before.records ≡ fields ∷ after.records
  pub said : row_in before.moments fields ≡ Ok (row_fields row)
  pub fine : row_fault before.moments.publications before.place.last (row_in before.moments fields) ≡ None
  pub moments : after.moments ≡ before.moments
  pub place : after.place ≡ place_after before.place row
  pub numbered : before.place.next + 1 < 2 ^ 64

-- the next record is a row without a fault, whose number would be 2^64 - 1 or more
pub record IsOutOfNumbers (before : RowsLeft) : Type 0 where
  pub fields : List (List ℕ)
  pub behind : Records
  pub next : before.records ≡ fields ∷ behind
  pub fine : row_fault before.moments.publications before.place.last (row_in before.moments fields) ≡ None
  pub many : 2 ^ 64 ≤ before.place.next + 1
