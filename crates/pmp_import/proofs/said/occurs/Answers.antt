use Rattle.std.proofs.Common.{ap, ◌∙◌}
use Rattle.std.specs.Prelude.{is_some}
use Rattle.memchr.proofs.lemmas.ValueLemmas.{FindsNeedle-value}
use Rattle.pmp_import.specs.Said.{occurs}
use Rattle.pmp_import.proofs.said.occurs.Goals as goal

pub returns : goal.returns
unfolding occurs
returns c = c.is_some.ensures
    ∙ ap is_some (FindsNeedle-value c.args.line.now c.args.name.now c.find.result c.find.ensures)
