use Rattle.std.proofs.Common.{◌∙◌, ◌*◌, ◌+◌, ◌==◌, ◌&&◌, ℕ, not, nat_lt, length, sym, ap}
use Rattle.pmp_core.specs.declared.hart.Profile.{Profile}
use Rattle.pmp_core.specs.Bytes.{byte}
use Rattle.pmp_core.specs.Hart.{holds_byte_of}
use Rattle.pmp_core.proofs.AbsentBytes.{is_absent_byte}
use Rattle.pmp_core.proofs.FlaggedReasons.{any_byte, absent_byte}
use Rattle.pmp_core.proofs.registers.Registers.is_absent.Goals as goal

pub returns-in-Cfg : goal.returns-in-Cfg
returns-in-Cfg c =
    let value = c.args.value in
    let file = c.args.self.now in
    let q = c.in-Cfg.register in
    let n = length file.entries in
    rw c.in-Cfg.is (any_byte c.lowest.result value c.lowest.type_inv c.ranges.value.fits (4 * q)
    (is_absent_byte file.profile n q value) (λ j near.
    ap (λ (b : ℕ). not (b == byte value j)) (c.lowest.ensures j near)
    ∙ absent_byte file.profile n q value j c.bytes_there.result
    (ap (λ k. holds_byte_of file.profile q (4 * q + j) && nat_lt (4 * q + j) k) c.count-count.ensures.legal.count
    ∙ ap (λ (p : Profile). holds_byte_of p q (4 * q + j) && nat_lt (4 * q + j) p.entries) (sym c.hart.ensures)
    ∙ c.bytes_there.ensures.there j near)))
