use Rattle.pmp_text.specs.Steps.Reading.{reading_of}
use Rattle.pmp_text.specs.Steps.Views.{seen_line}
use Rattle.pmp_text.proofs.Longhands.{both_taken, first_refused, one_taken}
use Rattle.pmp_text.proofs.script.reading.ScriptReading.take_writes.Goals as goal

pub returns-in-None-clause-taken : goal.returns-in-None-clause-taken
returns-in-None-clause-taken g c =
    one_taken (reading_of (g.L.EventLog.kept c.args.log.now) c.args.self.now) (seen_line c.args.line) c.args.writes
    _ _ c.in-None.is c.take_event.ensures.taken

pub returns-in-Err-clause-taken : goal.returns-in-Err-clause-taken
returns-in-Err-clause-taken g c =
    first_refused (reading_of (g.L.EventLog.kept c.args.log.now) c.args.self.now) (seen_line c.args.line) c.args.writes
    c.in-Some.address c.in-Some.is c.in-Err.fault c.in-Err.ensures.taken

pub returns-in-Ok-clause-taken : goal.returns-in-Ok-clause-taken
returns-in-Ok-clause-taken g c =
    both_taken (reading_of (g.L.EventLog.kept c.args.log.now) c.args.self.now) (seen_line c.args.line) c.args.writes
    c.in-Some.address c.in-Some.is _ _
    (reading_of (g.L.EventLog.kept c.take_event-in-Some.new.log) c.take_event-in-Some.new.self)
    c.in-Ok.ensures.taken c.take_event-in-Ok.ensures.taken
