use Rattle.std.proofs.Common.{◌≡◌, ◌++◌, drop, map}
use Rattle.std.specs.List.{flat_map}
use Rattle.pmp_forms.specs.Cases.{case_said}
use Rattle.pmp_forms.specs.Junit.{case_text}
use Rattle.pmp_forms.proofs.junit.append_cases.Given as goal

-- the cases so far, and those of the rest, are all
abbrev pub invariant-loop-case : goal.invariant-loop-case
invariant-loop-case l =
    l.out.items ++ flat_map case_text (map case_said (drop l.case-index l.cases))
    ≡ l.fn.out.items ++ flat_map case_text (map case_said l.cases)
