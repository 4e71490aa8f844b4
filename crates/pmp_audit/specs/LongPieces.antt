-- A piece of a long audit: what is written for it, and why it fails.
use Rattle.std.specs.Prelude.{◌≡◌, ◌⊎◌, ℕ, ◌+◌, List, Some}
use Rattle.pmp_text.specs.Contents.{ScriptContents}
use Rattle.pmp_text.specs.Moments.{moments_in}
use Rattle.pmp_text.specs.LongTraces.{HasTooManyRows, Records, piece_fault, place_behind, too_long_for_rows}
use Rattle.pmp_text.specs.declared.fault.Fault.{Fault}
use Rattle.pmp_audit.specs.declared.piece.PieceReport.{PieceReport}
use Rattle.pmp_audit.specs.declared.standing.Standing.{Standing}
use Rattle.pmp_audit.specs.LongAudit.{IsReportAt}
use Rattle.pmp_audit.specs.LongParts.{items_of}
use Rattle.pmp_audit.specs.Report.{refused_count}
use Rattle.pmp_text.specs.Outcomes.{no_memory}

-- the text reports the rows of records at this position, and `new` is the position after them
pub record IsReported (script : ScriptContents) (records : Records) (old new : Standing) (text : List ℕ) : Type 0 where
  pub report : IsReportAt script old.place records text
  pub place : new.place ≡ place_behind (moments_in script) old.place records
  pub counted : new.faults ≡ old.faults + refused_count report.decisions

-- the report is the piece's
abbrev pub IsPieceReported : ScriptContents → Records → (old : Standing) → PieceReport → Type 0
IsPieceReported script records old report = IsReported script records old report.behind (items_of report.texts.items)

-- why records at this position have no report
abbrev pub PieceFails : (script : ScriptContents) (records : Records) (old : Standing) → Fault → Type 0
PieceFails script records old fault = (fault ≡ no_memory)
    ⊎ (piece_fault (moments_in script) old.place records ≡ Some fault)
    ⊎ ((fault ≡ too_long_for_rows) × HasTooManyRows (moments_in script) old.place records)
