use Rattle.std.proofs.Common.{arith}
use Rattle.std.proofs.lemmas.Grind.{common_steps}
use Rattle.pmp_text.proofs.Cuts.{no_lines, first_line}
use Rattle.pmp_text.proofs.script.lines.split_first_line.Goals as goal

pub returns-then-is_empty-clause-lines : goal.returns-then-is_empty-clause-lines
returns-then-is_empty-clause-lines c = no_lines c.args.text.now (grind (arith, common_steps))

pub returns-clause-lines : goal.returns-clause-lines
returns-clause-lines c =
    rw (c.without_carriage_return.ensures, c.split_at_line_feed.ensures.line, c.split_at_line_feed.ensures.rest)
    (first_line c.args.text.now (grind (arith, common_steps)))
