use Rattle.std.proofs.Common.{◌≡◌, ◌<◌, Bool, true, false, length, slice_index_or, sym, ap, ◌∙◌, arith, refl}
use Rattle.pmp_core.specs.Ranges.{cause_of, is_covered, is_touched, ranges_of}
use Rattle.pmp_core.proofs.Places.{length-ranges_of, range_at, no_range}
use Rattle.pmp_core.proofs.Passes.{none_touched, pass_covered, pass_end, pass_off, pass_split, pass_untouched}
use Rattle.pmp_core.proofs.registers.Registers.cause.Goals as goal
use Rattle.pmp_core.proofs.registers.Registers.cause.Goals.{After-range-range}

pub loop-index-init : goal.loop-index-init
unfolding cause_of
loop-index-init c = refl

pub returns-then-start-end-clause-cause : goal.returns-then-start-end-clause-cause
unfolding cause_of
returns-then-start-end-clause-cause c =
    sym (none_touched c.args.start c.args.end c.if-start-end.true 0 (ranges_of c.args.self.now))

inside : (c : After-range-range) → c.loop-index.index < length c.args.self.now.entries
inside c = omega (arith, c.loop-index-test.true, c.count.ensures.count)

-- the range of this entry among all
at : (c : After-range-range) → slice_index_or (ranges_of c.args.self.now) c.loop-index.index no_range
    ≡ c.range-range.result
at c = range_at c.args.self.now.profile c.args.self.now.entries c.loop-index.index (inside c) ∙ sym c.range-range.ensures

among : (c : After-range-range) → c.loop-index.index < length (ranges_of c.args.self.now)
among c = omega (arith, inside c, length-ranges_of c.args.self.now.profile c.args.self.now.entries)

touched : (c : After-range-range) → (b : Bool)
    → is_touched c.args.start c.args.end c.range-range.result ≡ b
    → is_touched c.args.start c.args.end (slice_index_or (ranges_of c.args.self.now) c.loop-index.index no_range) ≡ b
touched c b is = ap (is_touched c.args.start c.args.end) (at c) ∙ is

pub returns-then-is_covered-clause-cause : goal.returns-then-is_covered-clause-cause
returns-then-is_covered-clause-cause c =
    let r = (goal.at.returns-then-is_covered-clause-cause c).After-range-range in
    sym (pass_covered c.args.start c.args.end (ranges_of c.args.self.now) c.loop-index.index (among r)
    (touched r true (sym c.is_touched.ensures ∙ c.if-is_touched.true))
    (ap (is_covered c.args.start c.args.end) (at r) ∙ sym c.is_covered.ensures ∙ c.if-is_covered.true))
    ∙ sym c.loop-index.invariant

pub returns-else-is_covered-clause-cause : goal.returns-else-is_covered-clause-cause
returns-else-is_covered-clause-cause c =
    let r = (goal.at.returns-else-is_covered-clause-cause c).After-range-range in
    sym (pass_split c.args.start c.args.end (ranges_of c.args.self.now) c.loop-index.index (among r)
    (touched r true (sym c.is_touched.ensures ∙ c.if-is_touched.true))
    (ap (is_covered c.args.start c.args.end) (at r) ∙ sym c.is_covered.ensures ∙ c.if-is_covered.false))
    ∙ sym c.loop-index.invariant

pub loop-index-preserved : goal.loop-index-preserved
loop-index-preserved c =
    let r = (goal.at.loop-index-preserved c).After-range-range in
    c.loop-index.invariant
    ∙ pass_untouched c.args.start c.args.end (ranges_of c.args.self.now) c.loop-index.index (among r)
    (touched r false (sym c.is_touched.ensures ∙ c.if-is_touched.false))

pub loop-index-preserved-then-eq : goal.loop-index-preserved-then-eq
loop-index-preserved-then-eq c = c.loop-index.invariant
    ∙ pass_off c.args.self.now c.args.start c.args.end c.count_off-index.result c.loop-index.index
    c.count_off-index.ensures.off

pub returns-clause-cause : goal.returns-clause-cause
returns-clause-cause c =
    let file = c.args.self.now in
    sym (pass_end c.args.start c.args.end (ranges_of file) c.loop-index.index
    (omega (
      arith,
      length-ranges_of file.profile file.entries,
      c.loop-index-test.false,
      c.count.ensures.count,
    )))
    ∙ sym c.loop-index.invariant
