use Rattle.std.proofs.Common.{◌≡◌, arith}
use Rattle.pmp_c.specs.Unit.{file_of_unit}
use Rattle.pmp_c.proofs.unit.Unit.run.Goals as goal

pub returns-then-self-gt0-clause-run : goal.returns-then-self-gt0-clause-run
returns-then-self-gt0-clause-run c = λ is_unit.
    c.run_of.ensures (file_of_unit c.args.self.now) (is_unit (omega (arith, c.if-self-gt0.true)))

pub returns-then-self-gt0-clause-rights : goal.returns-then-self-gt0-clause-rights
returns-then-self-gt0-clause-rights c = λ is_unit.
    let file = file_of_unit c.args.self.now in
    let built = is_unit (omega (arith, c.if-self-gt0.true)) in
    let around = c.run_of.ensures file built in
    (c.rights.ensures file built).owned c.run_of.result.owner (λ byte from to.
    let here : byte ≡ c.args.byte = omega arith in rw here (around.owned c.args.byte around.here))
