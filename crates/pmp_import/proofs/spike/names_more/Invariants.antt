use Rattle.std.proofs.Common.{◌≡◌, length}
use Rattle.std.specs.List.{list_any}
use Rattle.pmp_text.specs.Lines.{words}
use Rattle.pmp_import.specs.Said.{names_register}
use Rattle.pmp_import.proofs.spike.names_more.Given as goal

-- the words before the rest name no register
abbrev pub invariant-loop-word : goal.invariant-loop-word
invariant-loop-word l = list_any names_register (words l.fn.rest.rest.now)
    ≡ list_any names_register (words l.rest.rest.now)

abbrev pub decreases-loop-word : goal.decreases-loop-word
decreases-loop-word l = length (words l.rest.rest.now)
