use Rattle.std.proofs.Common.{◌≡◌, map, take}
use Rattle.pmp_forms.specs.Cases.{case_said}
use Rattle.pmp_forms.specs.Sarif.{most_row}
use Rattle.pmp_forms.proofs.sarif.most_row.Given as goal

-- the greatest number so far
abbrev pub invariant-loop-case : goal.invariant-loop-case
invariant-loop-case l = l.most ≡ most_row (map case_said (take l.case-index l.cases))
