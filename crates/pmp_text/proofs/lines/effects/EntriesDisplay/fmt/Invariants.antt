use Rattle.std.proofs.Common.{decimal}
use Rattle.std.specs.List.{range_with_len}
use Rattle.pmp_core.specs.WriteReasons.{has_reason}
use Rattle.pmp_text.proofs.SpacedWords.{HasPassed}
use Rattle.pmp_text.proofs.lines.effects.EntriesDisplay.fmt.Given as goal

-- the numbers of those entries so far that turn the value away are written
abbrev pub invariant-loop-entry : goal.invariant-loop-entry
invariant-loop-entry g l = HasPassed g.W.Write.write_str_gives
    (has_reason l.self.0.registers.now l.self.0.csr l.self.0.value) decimal l.initial.f l.f l.is_first
    (range_with_len 0 l.entry-counter)
