use Rattle.std.proofs.Common.{◌≡◌, ◌∙◌, ap, cond, bit_and, nat_lt, true, false, arith}
use Rattle.std.proofs.lemmas.Bool.{lt-ltb, le-ltb}
use Rattle.pmp_core.specs.Bytes.{byte}
use Rattle.pmp_core.specs.Configuration.{configuration_of}
use Rattle.pmp_core.specs.Grain.{is_na4}
use Rattle.pmp_core.proofs.WordBytes.{by_flag}
use Rattle.pmp_core.proofs.WordTests.{off_byte}
use Rattle.pmp_core.proofs.configuration_word.selectable.Goals as goal

pub returns-then-grain-gt0 : goal.returns-then-grain-gt0
returns-then-grain-gt0 c j near =
    let w = c.args.word in
    let coarse : nat_lt 0 c.args.hart.grain ≡ true = lt-ltb 0 c.args.hart.grain (omega (arith, c.if-grain-gt0.true, c.grain.ensures.grain)) in
    rw coarse (c.chosen.ensures j near ∙ by_flag _ _ _ _ (c.selects_na4.ensures.bytes j near)
    ∙ ap (cond (is_na4 (configuration_of (byte w j)).matching) (byte (bit_and w 10344644715844964239) j)) (c.plain.ensures j near)
    ∙ off_byte w j near)

pub returns-else-grain-gt0 : goal.returns-else-grain-gt0
returns-else-grain-gt0 c j near =
    let fine : nat_lt 0 c.args.hart.grain ≡ false = le-ltb 0 c.args.hart.grain (omega (arith, c.if-grain-gt0.false, c.grain.ensures.grain)) in
    rw fine (c.plain-else-grain-gt0.ensures j near)
