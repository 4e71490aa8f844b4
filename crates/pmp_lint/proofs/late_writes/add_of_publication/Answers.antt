use Rattle.std.proofs.Common.{◌∙◌, [], refl, sym}
use Rattle.pmp_core.specs.declared.csr.Csr.TheVariants.{Cfg}
use Rattle.pmp_core.specs.declared.event.Event.{Event}
use Rattle.pmp_core.specs.declared.event.Event.TheVariants.{Write}
use Rattle.pmp_text.proofs.AddedRows.{some_and_some}
use Rattle.pmp_lint.specs.LateWrites.{late_writes_of}
use Rattle.pmp_lint.proofs.Happenings.{file_on, none_left, told_on}
use Rattle.pmp_lint.proofs.Telling.{then_none, told_rows_some}
use Rattle.pmp_lint.proofs.late_writes.add_of_publication.Goals as goal

abbrev none : Event
none = Write (Cfg 0) 0

pub loop-place-init : goal.loop-place-init
loop-place-init g c =
    record { file = refl; told = λ later told. told; some = ([], g.met.R.RowSink.none c.args.out.now) }

pub loop-place-preserved : goal.loop-place-preserved
loop-place-preserved g c =
    let place = c.loop-place.place in
    let file = c.loop-place.file in
    let events = c.args.publication.events.now in
    let lines = c.args.publication.lines.now in
    let inside = c.loop-place-test.true in
    let adds = g.R.RowSink.Adds in
    let zero = g.met.R.RowSink.none in
    let both = g.met.R.RowSink.both in
    let told = rw c.line_at.ensures at c.in_ok-add_late_writes.ensures.ok in
    record {
      file = rw c.step.ensures.step (sym (file_on place file events lines none inside) ∙ c.loop-place.invariant.file);
      told = rw c.step.ensures.step (λ later more. c.loop-place.invariant.told later
          (told_on place file events lines none adds zero both late_writes_of _ _ later inside told more));
      some = told_rows_some adds zero both _ _ _ _ c.loop-place.invariant.some told;
    }

pub returns-clause-ok : goal.returns-clause-ok
returns-clause-ok g c =
    let left = none_left c.loop-place.place c.loop-place.file c.args.publication.events.now c.args.publication.lines.now none
    c.loop-place-test.false in
    c.loop-place.invariant.told _ (rw left (then_none g.R.RowSink.Adds g.met.R.RowSink.none g.met.R.RowSink.both _))

pub returns-in_err-add_late_writes-clause-err : goal.returns-in_err-add_late_writes-clause-err
returns-in_err-add_late_writes-clause-err g c =
    some_and_some g.R.RowSink.Adds g.met.R.RowSink.both _ _ _ _ c.loop-place.invariant.some
    c.in_err-add_late_writes.ensures.err
