use Rattle.std.proofs.Common.{length, ap, ◌∙◌}
use Rattle.pmp_core.specs.RegisterFile.{RegisterFile}
use Rattle.pmp_core.specs.SavedRegisters.{restored_file}
use Rattle.pmp_core.proofs.Legal.{length-written}
use Rattle.pmp_core.proofs.Saved.{restored_legal}
use Rattle.pmp_core.proofs.register_file.RegFile.step.Goals as goal

pub returns-in-Write-clause-legal : goal.returns-in-Write-clause-legal
returns-in-Write-clause-legal c = restored_legal c.write.new.self

pub returns-in-Write-clause-entries : goal.returns-in-Write-clause-entries
returns-in-Write-clause-entries c =
    let length_of = λ (f : RegisterFile). length f.entries in
    ap length_of c.write.ensures.stored.file
    ∙ length-written (restored_file c.self.inside.numbers) c.in-Write.csr c.in-Write.value
    ∙ ap length_of c.self.view_is
