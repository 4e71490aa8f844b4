use Rattle.std.proofs.Common.{◌≡◌, ◌∷◌, length}
use Rattle.pmp_text.specs.Lines.{words}
use Rattle.pmp_import.specs.Spike.{written_in}
use Rattle.pmp_import.proofs.spike.find_written.Given as goal

-- the words before this one name no register
abbrev pub invariant-loop-value : goal.invariant-loop-value
invariant-loop-value l = written_in l.hart l.is_rv32 (words l.fn.written.rest.now)
    ≡ written_in l.hart l.is_rv32 (l.word ∷ words l.written.rest.now)

abbrev pub decreases-loop-value : goal.decreases-loop-value
decreases-loop-value l = length (words l.written.rest.now)
