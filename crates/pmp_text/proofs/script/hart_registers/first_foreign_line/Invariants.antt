use Rattle.std.proofs.Common.{◌≡◌, drop}
use Rattle.pmp_text.specs.Heads.{first_of, foreign_line}
use Rattle.pmp_text.proofs.script.hart_registers.first_foreign_line.Given as goal

abbrev pub invariant-loop-line : goal.invariant-loop-line
invariant-loop-line l = first_of (foreign_line l.is_rv32) (drop l.line-index l.lines) ≡ first_of (foreign_line l.is_rv32) l.lines
