use Rattle.std.proofs.Common.{◌≡◌, ℕ, ◌+◌, ◌<◌, List, [], ◌∷◌, drop, get_or, length, None, refl, add-one, drop-cons}
use Rattle.std.proofs.lemmas.List.{drop_all}
use Rattle.pmp_map.specs.declared.run.Run.{Run}
use Rattle.pmp_text.proofs.AddedRows.{some_and_some}
use Rattle.pmp_lint.proofs.Telling.{then_none, told_more, told_rows_some}
use Rattle.pmp_lint.proofs.end_state.Ended.add_write_and_execute.Goals as goal

abbrev none : Run
none = record { first = 0; last = 0; owner = None }

drop_more : (runs : List Run) (i : ℕ) → i < length runs → drop i runs ≡ get_or runs i none ∷ drop (i + 1) runs
drop_more runs i inside = rw (add-one, drop-cons runs i none inside) refl

pub loop-run-init : goal.loop-run-init
loop-run-init g c = record { told = λ later told. told; some = ([], g.met.R.RowSink.none c.args.out.now) }

pub loop-run-preserved : goal.loop-run-preserved
loop-run-preserved g c =
    let adds = g.R.RowSink.Adds in
    let zero = g.met.R.RowSink.none in
    let both = g.met.R.RowSink.both in
    let told = rw c.write_and_execute.ensures at c.in_ok-add.ensures.ok in
    record {
      told = λ later more. c.loop-run.invariant.told later
          (rw (drop_more c.args.runs.now c.loop-run.run-index c.loop-run-test.true)
          (told_more adds zero both _ _ _ _ later told more));
      some = told_rows_some adds zero both _ _ _ _ c.loop-run.invariant.some told;
    }

pub returns-clause-ok : goal.returns-clause-ok
returns-clause-ok g c =
    c.loop-run.invariant.told _ (rw (drop_all c.loop-run.run-index c.args.runs.now c.loop-run-test.false)
    (then_none g.R.RowSink.Adds g.met.R.RowSink.none g.met.R.RowSink.both _))

pub returns-in_err-add-clause-err : goal.returns-in_err-add-clause-err
returns-in_err-add-clause-err g c =
    some_and_some g.R.RowSink.Adds g.met.R.RowSink.both _ _ _ _ c.loop-run.invariant.some
    ([], c.in_err-add.ensures.err)
