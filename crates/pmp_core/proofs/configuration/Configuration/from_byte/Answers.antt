use Rattle.std.proofs.Common.{◌≡◌, ℕ, ◌+◌, ◌*◌, ◌/◌, ◌%◌, refl, arith}
use Rattle.pmp_core.specs.Configuration.{configuration_of}
use Rattle.pmp_core.proofs.configuration.Configuration.from_byte.Goals as goal

same_fields : (one other : ℕ) → one / 128 ≡ other / 128 → one / 8 % 4 ≡ other / 8 % 4 → one / 4 % 2 ≡ other / 4 % 2
    → one / 2 % 2 ≡ other / 2 % 2 → one % 2 ≡ other % 2 → configuration_of one ≡ configuration_of other
same_fields one other l a x w r = rw (l, a, x, w, r) refl

pub returns : goal.returns
returns c = same_fields (c.args.byte / 128 * 128 + c.args.byte % 32) c.args.byte (omega arith) (omega arith) (omega arith)
    (omega arith) (omega arith)
