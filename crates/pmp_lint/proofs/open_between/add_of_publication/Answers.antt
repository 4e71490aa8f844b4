use Rattle.std.proofs.Common.{◌∙◌, sym}
use Rattle.pmp_core.specs.declared.csr.Csr.TheVariants.{Cfg}
use Rattle.pmp_core.specs.declared.event.Event.{Event}
use Rattle.pmp_core.specs.declared.event.Event.TheVariants.{Write}
use Rattle.pmp_text.proofs.Prefixes.{on_err}
use Rattle.pmp_lint.specs.Events.{happenings_from}
use Rattle.pmp_lint.proofs.Happenings.{file_on, happening_here, happenings_on, none_left}
use Rattle.pmp_lint.proofs.OpenBetween.{all_events, one_event_more}
use Rattle.pmp_lint.proofs.Telling.{told_some}
use Rattle.pmp_lint.proofs.open_between.add_of_publication.Goals as goal

abbrev none : Event
none = Write (Cfg 0) 0

pub loop-place-preserved : goal.loop-place-preserved
loop-place-preserved g c =
    let place = c.loop-place.place in
    let file = c.loop-place.file in
    let events = c.args.publication.events.now in
    let lines = c.args.publication.lines.now in
    let inside = c.loop-place-test.true in
    record {
      file = rw c.step.ensures.step (sym (file_on place file events lines none inside) ∙ c.loop-place.invariant.file);
      told = rw c.step.ensures.step (one_event_more g.R.RowSink.Adds g.met.R.RowSink.none g.met.R.RowSink.both c.args.file.now c.run_events.new.self
          (happenings_from 0 c.args.file.now events lines) _ (happening_here place file events lines none) _ _ _
          (rw (happenings_on place file events lines none inside) at c.loop-place.invariant.told)
          (rw (
            c.registers.ensures.same,
            c.registers-in-loop-place.ensures.same,
            c.registers-in-loop-place-2.ensures.same,
            c.step.ensures.step,
            c.line_at.ensures,
          ) at c.in_ok-add_opened.ensures.ok));
    }

pub returns-clause-ok : goal.returns-clause-ok
returns-clause-ok g c =
    let file = c.args.file.now in
    let events = c.args.publication.events.now in
    let lines = c.args.publication.lines.now in
    let left = none_left c.loop-place.place c.loop-place.file events lines none c.loop-place-test.false in
    rw c.run_events.ensures.steps
    at (all_events g.R.RowSink.Adds g.met.R.RowSink.none g.met.R.RowSink.both file c.run_events.new.self (happenings_from 0 file events lines) _ _
    (rw left at c.loop-place.invariant.told))

pub returns-in_err-add_opened-clause-err : goal.returns-in_err-add_opened-clause-err
returns-in_err-add_opened-clause-err g c =
    on_err _ (told_some g.R.RowSink.Adds g.met.R.RowSink.none g.met.R.RowSink.both
    c.loop-place.invariant.told.findings _ _ _ c.loop-place.invariant.told.told c.in_err-add_opened.ensures.err)
