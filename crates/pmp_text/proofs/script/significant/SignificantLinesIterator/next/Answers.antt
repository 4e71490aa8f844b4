use Rattle.std.proofs.Common.{rules, ◌<◌, ◌+◌, length, sym, ap, ◌∙◌, arith}
use Rattle.pmp_text.specs.Steps.Views.{lines_left}
use Rattle.pmp_text.specs.ScriptLines.{significant_from}
use Rattle.pmp_text.proofs.Lefts.{none_left, counting_left, skipping_left}
use Rattle.pmp_text.proofs.script.significant.SignificantLinesIterator.next.Goals as goal

pub returns-then-is_significant-clause-steps : goal.returns-then-is_significant-clause-steps
returns-then-is_significant-clause-steps c =
    sym c.loop-bytes.invariant
    ∙ counting_left c.loop-bytes.self.number c.loop-bytes.self.rest.now c.in-Some.bytes.now c.in-Some.rest.now
    c.in-Some.ensures.lines (sym c.if-is_significant.ensures)

pub returns-then-is_significant-clause-goes : goal.returns-then-is_significant-clause-goes
returns-then-is_significant-clause-goes c =
    let split = sym c.loop-bytes.invariant
    ∙ counting_left c.loop-bytes.self.number c.loop-bytes.self.rest.now c.in-Some.bytes.now c.in-Some.rest.now
    c.in-Some.ensures.lines (sym c.if-is_significant.ensures) in
    let fewer : length (significant_from (c.loop-bytes.self.number + 1) c.in-Some.rest.now) < length
    (lines_left c.args.self.now) = omega (arith, ap length split) in
    search rules

pub loop-bytes-preserved : goal.loop-bytes-preserved
loop-bytes-preserved c =
    sym (skipping_left c.loop-bytes.self.number c.loop-bytes.self.rest.now c.in-Some.bytes.now c.in-Some.rest.now
    c.in-Some.ensures.lines (sym c.if-is_significant.ensures)) ∙ c.loop-bytes.invariant

pub returns-clause-steps : goal.returns-clause-steps
returns-clause-steps c =
    let left = none_left c.loop-bytes.self.number c.loop-bytes.self.rest.now c.in_default.ensures.lines in
    (sym c.loop-bytes.invariant ∙ left, left)
