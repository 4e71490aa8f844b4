-- The significant lines of a script, and the version that the first one names.
use Rattle.std.specs.Prelude.{ℕ, ◌+◌, List, [], ◌∷◌, filter, Bool, false, not, ◌==◌, Option, Some, None, Result}
use Rattle.std.specs.Prelude.{is_some, codes, bytes_eq, slice_index, unwrap_or, if◌then◌else◌}
use Rattle.pmp_core.specs.declared.size.Size.TheVariants.{Sixteen, SixtyFour}
use Rattle.pmp_text.specs.declared.flaw.Flaw.{Flaw}
use Rattle.pmp_text.specs.declared.refusal.Refusal.TheVariants.{BadVersion}
use Rattle.pmp_text.specs.declared.script.statement.Statement.{Statement}
use Rattle.pmp_text.specs.declared.script.version.Version.{Version}
use Rattle.pmp_text.specs.declared.script.version.Version.TheVariants.{Sized, Headed}
use Rattle.pmp_text.specs.Lines.{words, lines}
use Rattle.pmp_text.specs.Statements.{has_rv32, statement_of}
use Rattle.pmp_text.specs.Flaws.{part, as_whole}

-- a line with its number in the text, and its meaning if that isn't its words': a write that replaces a
-- shorthand
pub record Line : Type 0 where
  pub number : ℕ
  pub words : List (List ℕ)
  pub stands_for : Option (Result Statement Flaw)

unfoldable pub said_by : Version → Line → Result Statement Flaw
said_by (Sized size) line = statement_of (Sized size) line.words
said_by Headed line = unwrap_or line.stands_for (statement_of Headed line.words)

-- the lines with their numbers, from `number` on
abbrev pub numbered_from : ℕ → List (List ℕ) → List Line
numbered_from number [] = []
numbered_from number (line ∷ more) =
    record { number = number; words = words line; stands_for = None } ∷ numbered_from (number + 1) more

-- a line is significant if it has a word, and the first one doesn't begin with `#`
abbrev pub counts : List (List ℕ) → Bool
counts [] = false
counts (word ∷ more) = not (slice_index word 0 == 35)

-- the significant lines of a text whose first line has this number
unfoldable pub significant_from : ℕ → List ℕ → List Line
significant_from number text = filter (λ line. counts line.words) (numbered_from number (lines text))

-- the significant lines of a text, whose lines are numbered from 1
abbrev pub significant_lines : List ℕ → List Line
significant_lines text = significant_from 1 text

-- the version with this number
abbrev pub version_numbered : List ℕ → Option Version
version_numbered number =
    if bytes_eq number (codes "1") then Some (Sized Sixteen)
    else (if bytes_eq number (codes "2") then Some (Sized SixtyFour)
    else (if bytes_eq number (codes "3") then Some Headed else None))

-- the version that the words `pmp` and a number name
unfoldable pub version_named : List (List ℕ) → Option Version
version_named (name ∷ number ∷ []) = if bytes_eq name (codes "pmp") then version_numbered number else None
version_named _ = None

-- why the words are no version: the first isn't `pmp`, the second isn't a version's number, or there is a third
abbrev pub version_flaw : List (List ℕ) → Flaw
version_flaw [] = as_whole BadVersion
version_flaw (name ∷ []) = if bytes_eq name (codes "pmp") then as_whole BadVersion else part 0 BadVersion
version_flaw (name ∷ number ∷ more) =
    if bytes_eq name (codes "pmp")
    then (if is_some (version_numbered number) then part 2 BadVersion else part 1 BadVersion) else part 0 BadVersion

-- the version that the farthest of these lines names
abbrev pub version_above : List Line → Version
version_above [] = Sized Sixteen
version_above (line ∷ []) = unwrap_or (version_named line.words) (Sized Sixteen)
version_above (line ∷ next ∷ before) = version_above (next ∷ before)

-- the first of these lines names version 3
abbrev pub is_headed_by : List Line → Bool
is_headed_by [] = false
is_headed_by (first ∷ more) = elim (version_named first.words) [
  | Some version ↦ has_rv32 version
  | None ↦ false
]

-- the text is a script of version 3, or refused after its version
abbrev pub is_headed : List ℕ → Bool
is_headed text = is_headed_by (significant_lines text)
