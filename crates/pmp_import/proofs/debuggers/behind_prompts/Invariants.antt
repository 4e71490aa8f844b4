use Rattle.std.proofs.Common.{◌≡◌, length}
use Rattle.pmp_text.specs.Lines.{words}
use Rattle.pmp_import.specs.Debuggers.{behind_prompts}
use Rattle.pmp_import.proofs.debuggers.behind_prompts.Given as goal

abbrev pub invariant-loop-behind : goal.invariant-loop-behind
invariant-loop-behind l = behind_prompts (words l.line) ≡ behind_prompts (words l.rest)

abbrev pub decreases-loop-behind : goal.decreases-loop-behind
decreases-loop-behind l = length (words l.rest)
