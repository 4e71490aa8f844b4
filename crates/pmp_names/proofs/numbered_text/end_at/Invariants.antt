use Rattle.std.proofs.Common.{◌≡◌, ◌+◌, drop}
use Rattle.std.specs.Prelude.{option_map}
use Rattle.pmp_names.specs.Parts.{end_at, end_from}
use Rattle.pmp_names.proofs.numbered_text.end_at.Given as goal

-- it is where it is found in the rest
abbrev pub invariant-loop-index : goal.invariant-loop-index
invariant-loop-index l =
    option_map (λ end. l.index + end) (end_from l.separator l.place (drop l.index l.text))
    ≡ end_at l.separator l.text
