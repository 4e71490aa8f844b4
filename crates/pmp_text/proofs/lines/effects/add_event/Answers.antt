use Rattle.pmp_text.proofs.lines.effects.add_event.Goals as goal

pub returns-in-Write-clause-ok : goal.returns-in-Write-clause-ok
returns-in-Write-clause-ok g c = rw c.in-Write.is (rw c.registers.ensures.same at c.add_write.ensures.ok)

pub returns-in-Reset-clause-ok : goal.returns-in-Reset-clause-ok
returns-in-Reset-clause-ok g c = rw c.in-Reset.is (c.add_reset.ensures.ok c.args.file.now)
