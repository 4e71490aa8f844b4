use Rattle.std.proofs.Common.{Err, Result, ap, inl, sym, ◌∙◌}
use Rattle.std.specs.Prelude.{fold}
use Rattle.pmp_core.specs.RegisterWrite.{step}
use Rattle.pmp_text.specs.Flaws.{and_then}
use Rattle.pmp_text.specs.Longhand.{file_said, written_out}
use Rattle.pmp_text.specs.Shorthands.{writes_of}
use Rattle.pmp_text.specs.Steps.Progress.{after_lines}
use Rattle.pmp_text.specs.Steps.Reading.{reading_of}
use Rattle.pmp_text.specs.Steps.Views.{seen_line}
use Rattle.pmp_text.specs.declared.flaw.Flaw.{Flaw}
use Rattle.pmp_text.specs.declared.fault.Fault.{Fault}
use Rattle.pmp_text.specs.declared.script.shorthand.Writes.{Writes}
use Rattle.pmp_text.specs.declared.script.version.Version.TheVariants.{Headed}
use Rattle.pmp_text.proofs.Longhands.{all_read, refused_in_place}
use Rattle.pmp_text.proofs.script.reading.ScriptReading.take_shorthand.Goals as goal

pub returns-in-Err-clause-taken : goal.returns-in-Err-clause-taken
returns-in-Err-clause-taken g c =
    let here = reading_of (g.L.EventLog.kept c.args.log.now) c.args.self.now in
    let line = seen_line c.args.line in
    inl ((λ i. after_lines Headed here (written_out line (and_then c.args.says (writes_of (sym c.file_here-file.ensures i)))))
    ∙ ap (λ (writes : Result Writes Flaw). after_lines Headed here (written_out line writes)) (sym c.writes.ensures ∙ c.in-Err.is)
    ∙ refused_in_place here line c.in-Err.flaw
    ∙ ap (λ (fault : Fault). Err fault) (sym c.at_line.ensures))

pub take_writes-requires : goal.take_writes-requires
take_writes-requires g c = record {
  batch = c.requires.batch;
  head = c.requires.head;
  file = c.file_here-file.ensures ∙ ap (fold step (file_said c.args.self.now.head.lines.items))
      (all_read (g.L.EventLog.kept c.args.log.now) c.args.self.now.batch c.requires.batch);
}
