use Rattle.std.proofs.Common.{rules}
use Rattle.pmp_plan.proofs.NoRows.{no_rows}
use Rattle.pmp_plan.proofs.script.means_plan.Goals as goal

pub returns : goal.returns
returns c is = record {
  contents = c.in-Ok.script;
  means = c.in-Ok.ensures;
  start_is = search rules;
  expects = search (rules, no_rows);
  names = search (rules, no_rows);
  leads = rw c.events.ensures at (c.leads.ensures.yes is);
}
