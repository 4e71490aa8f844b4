use Rattle.std.proofs.Common.{◌^◌, ◌<◌, arith}
use Rattle.pmp_c.proofs.WriteAnswers.{unit_kept, write_answer}
use Rattle.pmp_c.proofs.unit.Unit.write.Goals as goal

pub returns : goal.returns
returns c =
    let fits : c.args.value < 2 ^ 64 = omega (arith, c.ranges.value) in
    let noted = c.noted.ensures in
    let is = c.write-written.ensures in
    rw noted.number (write_answer c.args.self.now c.noted.new.self c.args.csr c.args.value fits
    c.write-written.result (rw noted.registers is) noted.unbuilt
    (λ same. unit_kept c.args.self.now c.noted.new.self c.write-written.new.self (noted.kept same) (is.stored.same same)))
