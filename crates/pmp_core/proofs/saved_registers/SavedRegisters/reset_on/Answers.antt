use Rattle.std.proofs.Common.{◌≡◌, replicate, ap, ◌∙◌}
use Rattle.pmp_core.specs.declared.saved_registers.SavedRegisters.{SavedRegisters}
use Rattle.pmp_core.specs.RegisterFile.{reset_file}
use Rattle.pmp_core.specs.SavedRegisters.{restored_file, saved_registers}
use Rattle.pmp_core.proofs.Legal.{reset_legal}
use Rattle.pmp_core.proofs.Saved.{restored_saved, saved_reset}
use Rattle.pmp_core.proofs.saved_registers.SavedRegisters.reset_on.Goals as goal
use Rattle.pmp_core.proofs.saved_registers.SavedRegisters.reset_on.Goals.{After-number}

saved : (c : After-number) → (let numbers : SavedRegisters = record {
  addresses = replicate 64 0;
  configurations = replicate 64 0;
  mseccfg = 0;
  entries = c.number.result;
} in numbers ≡ saved_registers (reset_file c.args.hart))
saved c = saved_reset c.args.hart c.number.result c.number.ensures

pub returns-clause-saved : goal.returns-clause-saved
returns-clause-saved c = saved (goal.at.returns-clause-saved c).After-number

-- what holds of every hart is the last part of what is known of the argument
pub returns-clause-restored : goal.returns-clause-restored
returns-clause-restored c = ap restored_file (saved (goal.at.returns-clause-restored c).After-number)
    ∙ restored_saved (reset_file c.args.hart) (reset_legal c.args.hart c.well_formed.0.1.0.1)
