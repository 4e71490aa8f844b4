use Rattle.std.proofs.Common.{◌<◌, ◌^◌, sym, ◌∙◌, arith}
use Rattle.pmp_core.proofs.ReasonsLaw.{reads_value}
use Rattle.pmp_core.proofs.registers.Registers.reasons_where.Goals as goal

pub returns-then-reads-value : goal.returns-then-reads-value
returns-then-reads-value c =
    let fits : c.args.value < 2 ^ 64 = omega (arith, c.ranges.value) in
    sym (reads_value c.args.self.now c.args.csr c.args.value c.count-count.ensures.legal fits
    (sym c.requires ∙ c.if-reads-value.true))
