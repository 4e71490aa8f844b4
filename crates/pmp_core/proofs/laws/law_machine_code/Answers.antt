use Rattle.pmp_core.proofs.MachineCode.{machine_code_law}
use Rattle.pmp_core.proofs.laws.law_machine_code.Goals as goal

pub returns : goal.returns
returns c = machine_code_law
