use Rattle.std.proofs.Common.{◌≡◌, List, length}
use Rattle.pmp_text.specs.MetNames.{given_names}
use Rattle.pmp_names.specs.HartLists.{names_of}
use Rattle.pmp_tool.specs.Harts.{AreAnswered, HartAnswer, all_rows, worst}
use Rattle.pmp_tool.specs.NumberedInputs.{paths_for}
use Rattle.pmp_tool.specs.Questions.{names_for}
use Rattle.pmp_tool.proofs.hart_answers.answer_harts.Given as goal

-- the harts so far were answered, and their rows are kept
abbrev pub invariant-loop-hart : goal.invariant-loop-hart
invariant-loop-hart g l = record {
  answered : (answers : List HartAnswer)
      × AreAnswered (paths_for (given_names l.asking.names) (g.I.Inputs.paths l.fn.inputs)) l.asking.path.now
      l.asking.question l.harts (names_of l.rest) answers
      × (l.rows.items ≡ all_rows (names_for l.asking.question (given_names l.asking.names)) answers)
      × (l.outcome ≡ worst answers);
  paths : g.I.Inputs.paths l.inputs ≡ g.I.Inputs.paths l.fn.inputs;
}

abbrev pub decreases-loop-hart : goal.decreases-loop-hart
decreases-loop-hart g l = length l.rest
