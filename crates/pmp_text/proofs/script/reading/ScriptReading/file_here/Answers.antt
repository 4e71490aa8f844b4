use Rattle.std.proofs.Common.{sym, ap, ◌∙◌}
use Rattle.std.specs.Prelude.{fold}
use Rattle.pmp_core.specs.RegisterWrite.{step}
use Rattle.pmp_text.specs.Longhand.{file_said}
use Rattle.pmp_text.proofs.Longhands.{all_read}
use Rattle.pmp_text.proofs.script.reading.ScriptReading.file_here.Goals as goal

pub returns-in-Some : goal.returns-in-Some
returns-in-Some g c =
    let known = rw c.in-Some.is at c.requires.file in
    known ∙ ap (fold step (file_said c.args.self.now.head.lines.items)) (sym (all_read (g.L.EventLog.kept c.args.log.now) c.args.self.now.batch
    c.requires.batch))

pub returns : goal.returns
returns g c =
    c.run_events.ensures.steps ∙ (λ i. fold step (c.file_said-file.ensures i) (c.events.ensures i))
    ∙ ap (fold step (file_said c.args.self.now.head.lines.items)) (sym (all_read (g.L.EventLog.kept c.args.log.now) c.args.self.now.batch
    c.requires.batch))
