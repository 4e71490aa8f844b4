use Rattle.std.proofs.Common.{◌≡◌, ℕ, ◌<◌, ◌∙◌, ap, ap₂, cond, sym}
use Rattle.pmp_core.specs.Bytes.{byte}
use Rattle.pmp_core.specs.Configuration.{Configuration, byte_of, configuration_of}
use Rattle.pmp_core.specs.Grain.{selectable}
use Rattle.pmp_core.specs.RegisterWrite.{admitted}
use Rattle.pmp_core.proofs.StoredBytes.{configuration_back}
use Rattle.pmp_core.proofs.WordBytes.{by_flag}
use Rattle.pmp_core.proofs.WordTests.{bypassed, byte_if, unbypassed}
use Rattle.pmp_core.proofs.configuration_word.stored_over.Goals as goal
use Rattle.pmp_core.proofs.configuration_word.stored_over.Goals.{After-selectable-new}

module _ (c : After-selectable-new) (j : ℕ) (near : j < 8) where
  abbrev old : Configuration
  old = configuration_of (byte c.args.old j)

  abbrev new : Configuration
  new = admitted c.args.mseccfg.now.mml c.args.mseccfg.now.rlb old (configuration_of (byte c.args.bytes j))

  abbrev chosen : Configuration
  chosen = selectable c.args.hart.grain new

  selected : byte c.selectable-new.result j ≡ byte_of chosen
  selected = c.selectable-new.ensures j near
      ∙ ap (λ (b : ℕ). byte_of (selectable c.args.hart.grain (configuration_of b))) (c.admitted.ensures j near)
      ∙ ap (λ (k : Configuration). byte_of (selectable c.args.hart.grain k)) (configuration_back new)

pub returns-then-mseccfg : goal.returns-then-mseccfg
returns-then-mseccfg c j near =
    let at = (goal.at.returns-then-mseccfg c).After-selectable-new in
    selected at j near
    ∙ ap byte_of (bypassed (old at j near).locked c.args.mseccfg.now.rlb (old at j near) (chosen at j near) c.if-mseccfg.true)

pub returns-else-mseccfg : goal.returns-else-mseccfg
returns-else-mseccfg c j near =
    let at = (goal.at.returns-else-mseccfg c).After-selectable-new in
    let was = old at j near in
    let is = chosen at j near in
    c.chosen.ensures j near ∙ by_flag _ _ _ _ (c.locked.ensures.bytes j near)
    ∙ ap₂ (cond was.locked) (sym (c.requires j near)) (selected at j near) ∙ byte_if was.locked was is
    ∙ ap byte_of (unbypassed was.locked c.args.mseccfg.now.rlb was is c.if-mseccfg.false)
