use Rattle.std.proofs.Common.{◌≡◌, ◌++◌, drop, map}
use Rattle.std.specs.List.{flat_map}
use Rattle.pmp_forms.specs.Cases.{case_said}
use Rattle.pmp_forms.specs.Sarif.{results_of}
use Rattle.pmp_forms.specs.Texts.{text_items}
use Rattle.pmp_forms.proofs.sarif.results_of.Given as goal

-- the results so far, and those of the rest, are all
abbrev pub invariant-loop-case : goal.invariant-loop-case
invariant-loop-case l =
    text_items l.results.items ++ flat_map (results_of l.policy) (map case_said (drop l.case-index l.cases))
    ≡ flat_map (results_of l.policy) (map case_said l.cases)
