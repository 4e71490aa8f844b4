-- A finding, its row, and which findings are accepted.
use Rattle.std.specs.Prelude.{ℕ, Bool, true, false, not, List, [], ◌∷◌, ◌++◌, Option, Some, None}
use Rattle.std.specs.Prelude.{codes, count_by, if◌then◌else◌, is_some, map}
use Rattle.std.specs.List.{filter}
use Rattle.pmp_core.specs.declared.span.Span.{Span}
use Rattle.pmp_text.specs.declared.policy.Modes.{Modes}
use Rattle.pmp_text.specs.declared.lines.row_kind.RowKind.TheVariants as kind
use Rattle.pmp_text.specs.Cells.{CellValue, Number, Address, Word, RowValue, nothing, number_value}
use Rattle.pmp_lint.specs.Accepting.{are_named, is_accepted}
use Rattle.pmp_lint.specs.declared.finding.Finding.{Finding}
use Rattle.pmp_lint.specs.declared.lint.Lint.{Lint}
use Rattle.pmp_lint.specs.Lints.{lint_name, lint_named, lint_number}

-- ---- what it is about

abbrev pub no_modes : Modes
no_modes = record { machine = false; supervisor = false; user = false }

-- the two modes with the same rights
abbrev pub supervisor_and_user : Modes
supervisor_and_user = record { machine = false; supervisor = true; user = true }

abbrev pub about_script : Lint → (line : ℕ) → Finding
about_script lint line = record { lint = lint; line = line; entry = None; bytes = None; modes = no_modes }

abbrev pub about_entry : Lint → (line entry : ℕ) → Option Span → Finding
about_entry lint line entry bytes =
    record { lint = lint; line = line; entry = Some entry; bytes = bytes; modes = no_modes }

-- ---- its row

-- the first and the last byte, or nothing
abbrev pub first_value : Option Span → CellValue
first_value None = nothing
first_value (Some span) = Address span.first

abbrev pub last_value : Option Span → CellValue
last_value None = nothing
last_value (Some span) = Address span.last

abbrev pub letter_text : Bool → List ℕ → List ℕ
letter_text has letter = if has then letter else []

abbrev pub modes_text : Modes → List ℕ
modes_text modes =
    letter_text modes.machine (codes "M") ++ (letter_text modes.supervisor (codes "S") ++ letter_text modes.user (codes "U"))

-- the lint's number and name, the line, the entry, the first and the last byte, and the modes
abbrev pub finding_row : Finding → RowValue
finding_row finding = record {
  kind = kind.Finding;
  cells = Number (lint_number finding.lint) ∷ Word (lint_name finding.lint) ∷ Number finding.line
      ∷ number_value finding.entry ∷ first_value finding.bytes ∷ last_value finding.bytes
      ∷ Word (modes_text finding.modes) ∷ [];
}

-- ---- which are told

-- its lint's name isn't accepted at its line
unfoldable pub is_told : (accepted : List ℕ) → Finding → Bool
is_told accepted finding = not (is_accepted accepted (lint_name finding.lint) finding.line)

-- a row for each finding that isn't accepted, in order
abbrev pub told_rows : (accepted : List ℕ) → List Finding → List RowValue
told_rows accepted findings = map finding_row (filter (is_told accepted) findings)

-- the number of these rows
abbrev pub told_count : (accepted : List ℕ) → List Finding → ℕ
told_count accepted findings = count_by (is_told accepted) findings

-- each of the words says a lint's name
abbrev pub are_lints : (words : List ℕ) → Bool
are_lints words = are_named (λ name. is_some (lint_named name)) words
