-- What the reader's iterators represent.
use Rattle.std.specs.Prelude.{ℕ, ◌+◌, List, [], ◌∷◌, Option, Some, None}
use Rattle.pmp_text.specs.declared.script.significant.NumberedLine.{NumberedLine}
use Rattle.pmp_text.specs.declared.script.significant.SignificantLines.{SignificantLines}
use Rattle.pmp_text.specs.Lines.{words}
use Rattle.pmp_text.specs.ScriptLines.{Line, significant_from}
use Rattle.csv.specs.Records.{field_at}
use Rattle.pmp_text.specs.declared.policy.row_fields.LabeledWords.{LabeledWords}
use Rattle.pmp_text.specs.declared.policy.row_fields.Words.{Words}
use Rattle.pmp_text.specs.declared.trace.row_fields.Words as trace
use Rattle.pmp_text.specs.Policies.{NineFields, SevenFields, seven_fields}
use Rattle.pmp_text.specs.Traces.{FiveFields}

-- a line as the definitions see it
abbrev pub seen_line : NumberedLine → Line
seen_line line = record { number = line.number; words = words line.bytes.now; stands_for = None }

-- the lines that an iterator still yields
abbrev pub lines_left : SignificantLines → List Line
lines_left left = significant_from left.number left.rest.now

-- the words of a trace's row
abbrev pub seen_five : trace.Words → FiveFields
seen_five words = record {
  after = words.after.now;
  mode = words.mode.now;
  kind = words.kind.now;
  start = words.start.now;
  length = words.length.now;
}

-- the five fields of a record
abbrev pub five_words : FiveFields → List (List ℕ)
five_words words = words.after ∷ words.mode ∷ words.kind ∷ words.start ∷ words.length ∷ []

-- the words of a policy's row
abbrev pub seen_seven : Words → SevenFields
seen_seven words = record {
  from = words.from.now;
  to = words.to.now;
  modes = words.modes.now;
  kind = words.kind.now;
  first = words.first.now;
  last = words.last.now;
  demand = words.demand.now;
}

-- the same with a name and a comment
abbrev pub seen_nine : LabeledWords → NineFields
seen_nine all = record { name = all.name.now; words = seen_seven all.words; comment = all.comment.now }

abbrev pub seven_at : (from to modes kind first last demand : Option (List ℕ)) → Option SevenFields
seven_at (Some from) (Some to) (Some modes) (Some kind) (Some first) (Some last) (Some demand) =
    seven_fields (from ∷ to ∷ modes ∷ kind ∷ first ∷ last ∷ demand ∷ [])
seven_at _ _ _ _ _ _ _ = None

-- seven fields of a record, from this index on
abbrev pub seven_from : List (List ℕ) → (first : ℕ) → Option SevenFields
seven_from fields first = seven_at (field_at fields first) (field_at fields (first + 1)) (field_at fields (first + 2))
    (field_at fields (first + 3)) (field_at fields (first + 4)) (field_at fields (first + 5))
    (field_at fields (first + 6))
