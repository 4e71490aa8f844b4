use Rattle.std.proofs.Common.{◌+◌, ◌∙◌, ◌^◌, ◌<◌, ap, arith, None, refl, Some, sym, ℕ}
use Rattle.pmp_c.specs.Status.{ends}
use Rattle.pmp_c.proofs.WriteAnswers.{move_answer, unit_kept}
use Rattle.pmp_c.proofs.unit.Unit.write_moved.Goals as goal

pub returns-in-Some : goal.returns-in-Some
returns-in-Some c =
    let fits : c.args.value < 2 ^ 64 = omega (arith, c.ranges.value) in
    let noted = c.noted-status.ensures in
    let is = c.write_moved-moved.ensures in
    move_answer c.args.self.now c.noted-status.new.self c.args.csr c.args.value fits
    c.write_moved-moved.result.0 (Some c.in-Some.span) (ends c.args.first.now c.args.last.now)
    (ends c.in-Some.span.first c.in-Some.span.last) (c.noted-status.result + 8) (rw noted.registers is.written) noted.unbuilt
    (λ same. unit_kept c.args.self.now c.noted-status.new.self c.write_moved-moved.new.self (noted.kept same)
    (is.written.stored.same same))
    (rw noted.registers (sym c.in-Some.is ∙ is.moved)) (rw noted.registers (rw c.in-Some.is at is.beside)) (ap (λ (n : ℕ). n + 8) noted.number, refl)

pub returns-in-None : goal.returns-in-None
returns-in-None c =
    let fits : c.args.value < 2 ^ 64 = omega (arith, c.ranges.value) in
    let noted = c.noted-status.ensures in
    let is = c.write_moved-moved.ensures in
    move_answer c.args.self.now c.noted-status.new.self c.args.csr c.args.value fits
    c.write_moved-moved.result.0 (None) (ends c.args.first.now c.args.last.now)
    (ends c.args.first.now c.args.last.now) (c.noted-status.result) (rw noted.registers is.written) noted.unbuilt
    (λ same. unit_kept c.args.self.now c.noted-status.new.self c.write_moved-moved.new.self (noted.kept same)
    (is.written.stored.same same))
    (rw noted.registers (sym c.in-None.is ∙ is.moved)) (rw noted.registers (rw c.in-None.is at is.beside)) (noted.number, refl)
