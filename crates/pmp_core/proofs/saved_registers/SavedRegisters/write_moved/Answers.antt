use Rattle.std.proofs.Common.{◌∙◌, sym}
use Rattle.pmp_core.specs.declared.csr.Csr.TheVariants.{Addr, Cfg}
use Rattle.pmp_core.proofs.MovedWrites.{beside_written, none_moved}
use Rattle.pmp_core.proofs.saved_registers.SavedRegisters.write_moved.Goals as goal

pub returns-in-Addr-Some-clause-beside : goal.returns-in-Addr-Some-clause-beside
returns-in-Addr-Some-clause-beside c = beside_written c.args.self.now c.write_address_moved.new.self
    (Addr c.in-Addr-Some.register) c.args.value
    c.write_address_moved.result.0 c.write_address_moved.ensures.written
    c.write_address_moved.result.1 c.write_address_moved.ensures.moved

pub returns-in-Addr-Some-clause-none : goal.returns-in-Addr-Some-clause-none
returns-in-Addr-Some-clause-none c = λ same. c.write_address_moved.ensures.moved
    ∙ sym (none_moved c.args.self.now c.write_address_moved.new.self (Addr c.in-Addr-Some.register) c.args.value
    c.write_address_moved.result.0 c.write_address_moved.ensures.written same)

pub returns-in-Cfg-Some-clause-beside : goal.returns-in-Cfg-Some-clause-beside
returns-in-Cfg-Some-clause-beside c = beside_written c.args.self.now c.write_configurations_moved.new.self
    (Cfg c.in-Cfg-Some.register) c.args.value
    c.write_configurations_moved.result.0 c.write_configurations_moved.ensures.written
    c.write_configurations_moved.result.1 c.write_configurations_moved.ensures.moved

pub returns-in-Cfg-Some-clause-none : goal.returns-in-Cfg-Some-clause-none
returns-in-Cfg-Some-clause-none c = λ same. c.write_configurations_moved.ensures.moved
    ∙ sym (none_moved c.args.self.now c.write_configurations_moved.new.self (Cfg c.in-Cfg-Some.register) c.args.value
    c.write_configurations_moved.result.0 c.write_configurations_moved.ensures.written same)

pub returns-in_default-clause-beside : goal.returns-in_default-clause-beside
returns-in_default-clause-beside c = beside_written c.args.self.now c.write_moved_apart.new.self c.args.csr c.args.value
    c.write_moved_apart.result.0 c.write_moved_apart.ensures.written
    c.write_moved_apart.result.1 c.write_moved_apart.ensures.moved

pub returns-in_default-clause-none : goal.returns-in_default-clause-none
returns-in_default-clause-none c = λ same. c.write_moved_apart.ensures.moved
    ∙ sym (none_moved c.args.self.now c.write_moved_apart.new.self c.args.csr c.args.value
    c.write_moved_apart.result.0 c.write_moved_apart.ensures.written same)
