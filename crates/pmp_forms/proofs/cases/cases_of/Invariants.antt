use Rattle.std.proofs.Common.{◌≡◌, ◌++◌, drop, map}
use Rattle.pmp_forms.specs.Cases.{case_of, case_said, cases_of, suite_said}
use Rattle.pmp_forms.proofs.cases.cases_of.Given as goal

-- the cases so far, and those of the rest, are all
abbrev pub invariant-loop-row : goal.invariant-loop-row
invariant-loop-row l =
    map case_said l.cases.items ++ map (case_of (suite_said l.suite)) (drop l.row-index l.rows)
    ≡ cases_of (suite_said l.suite) l.rows
