use Rattle.std.proofs.Common.{◌∙◌, rules, sym}
use Rattle.pmp_core.specs.declared.csr.Csr.TheVariants.{Cfg}
use Rattle.pmp_core.proofs.MovedWrites.{hart_kept, none_moved}
use Rattle.pmp_core.proofs.saved_registers.SavedRegisters.write_configurations_moved.Goals as goal

pub returns-then-not-written-clause-moved : goal.returns-then-not-written-clause-moved
returns-then-not-written-clause-moved c = none_moved c.args.self.now c.write_configurations-written.new.self
    (Cfg c.args.register) c.args.value c.write_configurations-written.result c.write_configurations-written.ensures
    (search rules)

pub with-now-requires : goal.with-now-requires
with-now-requires c = c.requires ∙ sym (hart_kept c.args.self.now c.write_configurations-written.new.self
    (Cfg c.args.register) c.args.value c.write_configurations-written.result c.write_configurations-written.ensures)
