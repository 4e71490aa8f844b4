-- The rows of why an access is decided as it is, and of its decisions at every moment.
use Rattle.std.specs.Prelude.{ℕ, Bool, List, [], ◌∷◌, ◌++◌, Option, Some, None, codes, map, if◌then◌else◌}
use Rattle.pmp_core.specs.declared.access.Access.{Access}
use Rattle.pmp_text.specs.EntryRows.{lock_text, matching_text}
use Rattle.pmp_text.specs.Contents.{ScriptContents}
use Rattle.pmp_text.specs.declared.lines.row_kind.RowKind.TheVariants as kind
use Rattle.pmp_text.specs.AnswerRows.{answer_cells, answer_row}
use Rattle.pmp_text.specs.Cells.{CellValue, Number, Word, RowValue, nothing, number_value}
use Rattle.pmp_lint.specs.declared.answer_run.AnswerRun.{AnswerRun}
use Rattle.pmp_lint.specs.declared.decider.Decider.{Decider}
use Rattle.pmp_lint.specs.declared.decider.RuleBits.{RuleBits}
use Rattle.pmp_lint.specs.declared.because.Because.{Because}
use Rattle.pmp_lint.specs.Findings.{first_value, last_value}
use Rattle.pmp_lint.specs.Why.{AreAnswerRuns}

abbrev pub bit_text : Bool → List ℕ
bit_text bit = if bit then codes "1" else codes "0"

-- L, R, W and X, as Smepmp's table has them
abbrev pub bits_text : RuleBits → List ℕ
bits_text bits = bit_text bits.locked ++ (bit_text bits.read ++ (bit_text bits.write ++ bit_text bits.execute))

-- which table the bits are read by: Smepmp's if MML is set
abbrev pub table_text : (is_lockdown : Bool) → List ℕ
table_text is_lockdown = if is_lockdown then codes "smepmp" else codes "plain"

abbrev pub held_text : Bool → List ℕ
held_text is_held = if is_held then codes "held" else codes "-"

-- its matching, bytes, bits and their table, locks, and the lines that changed it
abbrev pub decider_cells : Decider → List CellValue
decider_cells decider =
    Word (matching_text decider.matching) ∷ first_value decider.bytes ∷ last_value decider.bytes
    ∷ Word (bits_text decider.bits) ∷ Word (table_text decider.is_lockdown) ∷ Word (lock_text decider.lock)
    ∷ Word (held_text decider.is_held) ∷ Number decider.configured ∷ Number decider.addressed
    ∷ number_value decider.low_end ∷ []

-- or as many cells with nothing
abbrev pub decider_cells_if : Option Decider → List CellValue
decider_cells_if None =
    nothing ∷ nothing ∷ nothing ∷ nothing ∷ nothing ∷ nothing ∷ nothing ∷ nothing ∷ nothing ∷ nothing ∷ []
decider_cells_if (Some decider) = decider_cells decider

-- since when, the decision, and the deciding entry
abbrev pub why_row : Access → Because → RowValue
why_row access why = record {
  kind = kind.Reason;
  cells = Number why.since ∷ answer_cells access why.decision ++ decider_cells_if why.decider;
}

-- a row for each run, numbered by its first moment
abbrev pub history_rows : Access → List AnswerRun → List RowValue
history_rows access runs = map (λ run. answer_row run.first access run.decision) runs

-- a row was added for each longest series of moments at which the access is decided alike
pub record HistorySays {A : Type 0} (Adds : List RowValue → A → A → Type 0) (script : ScriptContents) (access : Access)
    (before after : A) : Type 0 where
  pub runs : List AnswerRun
  pub are_runs : AreAnswerRuns script access runs
  pub added : Adds (history_rows access runs) before after
