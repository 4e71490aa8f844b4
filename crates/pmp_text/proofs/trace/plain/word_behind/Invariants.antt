use Rattle.std.proofs.Common.{◌≡◌, false, take}
use Rattle.csv.specs.Writing.{default_writer, needs_quotes}
use Rattle.pmp_text.proofs.trace.plain.word_behind.Given as goal

-- no byte so far stands apart
abbrev pub invariant-loop-end : goal.invariant-loop-end
invariant-loop-end l = needs_quotes default_writer (take l.end l.text) ≡ false
