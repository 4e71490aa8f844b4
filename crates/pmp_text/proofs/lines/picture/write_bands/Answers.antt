use Rattle.std.proofs.Common.{None, append-nil, sym}
use Rattle.pmp_map.specs.declared.run.Run.{Run}
use Rattle.pmp_text.specs.MetNames.{given_names}
use Rattle.pmp_text.specs.Picture.{bands}
use Rattle.pmp_text.proofs.Picture.{bands_grow, ends_in_memory, is_proper}
use Rattle.pmp_text.proofs.Prefixes.{on_err, starts_before}
use Rattle.pmp_text.proofs.lines.picture.write_bands.Goals as goal

abbrev none : Run
none = record { first = 0; last = 0; owner = None }

pub loop-place-init : goal.loop-place-init
unfolding bands
loop-place-init g c = sym (append-nil (g.S.Sink.text c.args.out.now))

pub write_band-requires-clause-proper : goal.write_band-requires-clause-proper
write_band-requires-clause-proper g c =
    is_proper c.args.drawing.file.now c.args.runs.now c.requires.runs c.loop-place.place c.loop-place-test.true none

pub write_band-requires-clause-inside : goal.write_band-requires-clause-inside
write_band-requires-clause-inside g c =
    ends_in_memory c.args.drawing.file.now c.args.runs.now c.requires.runs c.loop-place.place
    c.loop-place-test.true none

pub loop-place-preserved : goal.loop-place-preserved
loop-place-preserved g c =
    bands_grow c.args.drawing.file.now (given_names c.args.drawing.names) c.args.runs.now c.loop-place.place none c.loop-place-test.true (g.S.Sink.text c.args.out.now)
    (g.S.Sink.text c.loop-place.out) _ c.in_ok-write_band.ensures.ok c.loop-place.invariant

pub returns-in_err-write_band-clause-err : goal.returns-in_err-write_band-clause-err
returns-in_err-write_band-clause-err g c =
    on_err c.from_residual.result (starts_before _ _ _ _ c.loop-place.invariant c.in_err-write_band.ensures.err)
