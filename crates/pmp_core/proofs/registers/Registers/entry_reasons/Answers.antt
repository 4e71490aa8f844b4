use Rattle.std.proofs.Common.{◌≢◌, arith}
use Rattle.std.proofs.lemmas.Bool.{ne_eqb}
use Rattle.pmp_core.proofs.FlaggedReasons.{none_of_all}
use Rattle.pmp_core.proofs.registers.Registers.entry_reasons.Goals as goal

pub returns-else-from-count : goal.returns-else-from-count
returns-else-from-count c =
    let k = c.in-Addr.register in
    rw c.in-Addr.is (none_of_all c.args.self.now _ c.args.value (λ i inside.
    let apart : i ≢ k = omega (arith, c.if-from-count.false, c.count.ensures.count, c.from.ensures) in
    ne_eqb i k apart))
