use Rattle.std.proofs.Common.{◌≡◌, ◌++◌, drop, map}
use Rattle.pmp_text.specs.Columns.{column_value}
use Rattle.pmp_web.specs.Answers.{name_lines}
use Rattle.pmp_web.proofs.answering.append_names.Given as goal

-- the lines so far, and those of the rest, are all
abbrev pub invariant-loop-column : goal.invariant-loop-column
invariant-loop-column g l =
    g.S.Sink.text l.out ++ name_lines (map column_value (drop l.column-index l.columns))
    ≡ g.S.Sink.text l.fn.out ++ name_lines (map column_value l.columns)
