use Rattle.std.proofs.Common.{◌∙◌, ap, cond, bit_and}
use Rattle.pmp_core.specs.Bytes.{byte}
use Rattle.pmp_core.specs.Configuration.{configuration_of, is_reserved}
use Rattle.pmp_core.proofs.WordBytes.{by_flag}
use Rattle.pmp_core.proofs.WordTests.{bare_byte}
use Rattle.pmp_core.proofs.configuration_word.without_reserved.Goals as goal

pub returns : goal.returns
returns c j near =
    let w = c.args.word in
    c.chosen.ensures j near ∙ by_flag _ _ _ _ (c.reserved.ensures.bytes j near)
    ∙ ap (cond (is_reserved (configuration_of (byte w j))) (byte (bit_and w 10995706271387654296) j)) (c.plain.ensures j near)
    ∙ bare_byte w j near
