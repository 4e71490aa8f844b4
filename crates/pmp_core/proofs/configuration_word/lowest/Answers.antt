use Rattle.std.proofs.Common.{◌*◌, ◌%◌, ap, ◌∙◌, arith}
use Rattle.std.proofs.lemmas.Nat.{one_shl}
use Rattle.pmp_core.specs.Bytes.{byte}
use Rattle.pmp_core.proofs.WordBytes.{lowest_byte}
use Rattle.pmp_core.proofs.configuration_word.lowest.Goals as goal

pub returns-then-count-lt8 : goal.returns-then-count-lt8
returns-then-count-lt8 c j near =
    ap (λ n. byte (c.args.word % n) j) (one_shl (8 * c.args.count) 64 (omega arith))
    ∙ lowest_byte c.args.word c.args.count j near
