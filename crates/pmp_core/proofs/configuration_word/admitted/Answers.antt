use Rattle.std.proofs.Common.{◌∙◌, ap₂, cond, sym}
use Rattle.pmp_core.specs.Bytes.{byte}
use Rattle.pmp_core.specs.Configuration.{configuration_of}
use Rattle.pmp_core.proofs.StoredBytes.{is_barred_byte}
use Rattle.pmp_core.proofs.WordBytes.{by_flag}
use Rattle.pmp_core.proofs.WordTests.{byte_if}
use Rattle.pmp_core.proofs.configuration_word.admitted.Goals as goal

pub returns-then-not-mseccfg : goal.returns-then-not-mseccfg
returns-then-not-mseccfg c j near = rw c.if-not-mseccfg.true (c.without_reserved.ensures j near)

pub returns-then-mseccfg : goal.returns-then-mseccfg
returns-then-mseccfg c j near = rw (c.if-not-mseccfg.false, c.if-mseccfg.true) (c.plain.ensures j near)

pub returns-else-mseccfg : goal.returns-else-mseccfg
returns-else-mseccfg c j near =
    let old = configuration_of (byte c.args.old j) in
    let new = byte c.args.new j in
    rw (c.if-not-mseccfg.false, c.if-mseccfg.false) (c.chosen.ensures j near
    ∙ by_flag _ _ _ _ (c.barred.ensures.bytes j near)
    ∙ ap₂ (cond (is_barred_byte new)) (sym (c.requires j near)) (c.plain-else-mseccfg.ensures j near)
    ∙ byte_if (is_barred_byte new) old (configuration_of new))
