use Rattle.pmp_text.proofs.Appending.{line_written}
use Rattle.pmp_text.proofs.lines.text_of.Goals as goal

pub returns-in-Ok : goal.returns-in-Ok
returns-in-Ok g c =
    line_written (g.L.Display.output c.args.text) c.new-written.result c.write.new.self c.new-written.ensures
    (rw c.in-Ok.is at c.write.ensures.writes)
