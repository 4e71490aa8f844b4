use Rattle.std.proofs.Common.{◌≡◌, ◌+◌, ◌≤◌, drop, map}
use Rattle.pmp_forms.specs.Cases.{case_said}
use Rattle.pmp_forms.specs.Junit.{count_of}
use Rattle.pmp_forms.proofs.junit.count_of.Given as goal

-- those so far, and those of the rest, are all
abbrev pub invariant-loop-case : goal.invariant-loop-case
invariant-loop-case l =
    record {
      some : l.count + count_of l.outcome (map case_said (drop l.case-index l.cases))
          ≡ count_of l.outcome (map case_said l.cases);
      few : l.count ≤ l.case-index;
    }
