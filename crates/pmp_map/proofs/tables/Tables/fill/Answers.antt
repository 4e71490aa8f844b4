use Rattle.std.proofs.Common.{◌≡◌, ◌≢◌, ◌<◌, [], length, refl, arith, inl, inr, get_or-set_other, get_or-set_same}
use Rattle.std.proofs.Common.{rules}
use Rattle.std.proofs.lemmas.Bool.{cases_lt}
use Rattle.pmp_core.specs.declared.access.TheConstants.{ADDRESS_LIMIT}
use Rattle.pmp_map.proofs.Entries.{owner_below}
use Rattle.pmp_map.proofs.Filling.{none_swept, one_more, padded_swept, swept_tables}
use Rattle.pmp_map.proofs.tables.Tables.fill.Goals as goal

pub loop-cut-init : goal.loop-cut-init
loop-cut-init c = search (rules, none_swept)

pub row_by-requires-clause-owner : goal.row_by-requires-clause-owner
row_by-requires-clause-owner c =
    let swept = rw c.in-Some.ensures.0 at c.loop-cut.invariant in
    let some = swept.up.0.some in
    owner_below c.args.registers.now c.in-Some.cut.start c.in-Some.cut.owner
    (swept.up.0.owned c.in-Some.cut.start (omega arith) some)

pub loop-cut-preserved : goal.loop-cut-preserved
loop-cut-preserved c = search (rules, one_more)

pub loop-place-preserved : goal.loop-place-preserved
loop-place-preserved c =
    let loop = c.loop-place in
    let past = loop.auto.place in
    record {
      swept = padded_swept c.args.registers.now loop.self.starts loop.self.rows [] c.loop-cut.runs loop.place ADDRESS_LIMIT
          past loop.invariant.swept;
      count = loop.invariant.count;
      padded = λ k from to. elim (cases_lt k loop.place) [
        | inl before ↦ let other : k ≢ loop.place = omega arith in
            rw get_or-set_other (loop.invariant.padded k from before)
        | inr after ↦
            let here : k ≡ loop.place = omega arith in
            let within : loop.place < length loop.self.starts = omega (arith, loop.invariant.swept.long) in
            rw here (rw get_or-set_same refl)
      ];
    }

pub returns : goal.returns
returns c =
    let loop = c.loop-place in
    swept_tables c.args.registers.now c.cuts_of-cuts.ensures.legal loop.self c.loop-cut.runs loop.invariant.count
    loop.invariant.swept (λ k from to. loop.invariant.padded k from (omega arith))
