use Rattle.std.proofs.Common.{◌≡◌}
use Rattle.pmp_text.specs.Steps.Progress.{nothing_begun, read_on}
use Rattle.pmp_text.specs.Steps.Reading.{IsReading, reading_of}
use Rattle.pmp_text.specs.Steps.Views.{lines_left}
use Rattle.pmp_text.proofs.script.reader.read_statements.Given as goal

abbrev pub invariant-loop-line : goal.invariant-loop-line
invariant-loop-line g l = record {
  read : read_on l.fn.version (reading_of (g.L.EventLog.kept l.log) l.reading) (lines_left l.line-iterator)
      ≡ read_on l.fn.version nothing_begun (lines_left l.fn.lines);
  reading : IsReading (g.L.EventLog.kept l.log) l.reading;
}
