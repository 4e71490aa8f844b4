use Rattle.std.proofs.Common.{◌≡◌, ◌++◌, ◌+◌, length, map}
use Rattle.std.specs.Prelude.{All}
use Rattle.pmp_import.specs.declared.survey.TheConstants.{COUNTED}
use Rattle.pmp_tool.specs.HartImports.{IsOfHart, writers, writers_from}
use Rattle.pmp_tool.proofs.hart_imports.import_each.Given as goal

-- the scripts so far are those of the harts before this one
abbrev pub invariant-loop-count : goal.invariant-loop-count
invariant-loop-count g l = record {
  names : writers l.survey ≡ map (λ script. script.hart) l.all.items ++ writers_from l.hart l.rest;
  each : All (IsOfHart (g.I.Inputs.paths l.fn.inputs) l.import) l.all.items;
  counts : l.hart + length l.rest ≡ COUNTED;
  paths : g.I.Inputs.paths l.inputs ≡ g.I.Inputs.paths l.fn.inputs;
}

abbrev pub decreases-loop-count : goal.decreases-loop-count
decreases-loop-count g l = length l.rest
