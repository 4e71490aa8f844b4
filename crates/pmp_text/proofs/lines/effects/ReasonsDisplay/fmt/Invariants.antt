use Rattle.std.proofs.Common.{take}
use Rattle.pmp_core.specs.WriteReasons.{is_reason, all_reasons}
use Rattle.pmp_text.specs.Effects.{reason_text}
use Rattle.pmp_text.proofs.SpacedWords.{HasPassed}
use Rattle.pmp_text.proofs.lines.effects.ReasonsDisplay.fmt.Given as goal

-- the words of those reasons so far that apply are written
abbrev pub invariant-loop-reason : goal.invariant-loop-reason
invariant-loop-reason g l = HasPassed g.W.Write.write_str_gives
    (λ reason. is_reason reason l.self.0.registers.now l.self.0.csr l.self.0.value) reason_text l.initial.f l.f l.is_first
    (take l.reason-index all_reasons)
