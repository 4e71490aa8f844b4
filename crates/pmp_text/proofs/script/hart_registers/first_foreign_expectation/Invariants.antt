use Rattle.std.proofs.Common.{◌≡◌, drop}
use Rattle.pmp_text.specs.Heads.{first_of, foreign_expectation}
use Rattle.pmp_text.proofs.script.hart_registers.first_foreign_expectation.Given as goal

abbrev pub invariant-loop-one : goal.invariant-loop-one
invariant-loop-one l = first_of (foreign_expectation l.is_rv32) (drop l.one-index l.expected) ≡ first_of (foreign_expectation l.is_rv32) l.expected
