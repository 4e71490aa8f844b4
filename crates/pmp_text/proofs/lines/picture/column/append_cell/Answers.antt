use Rattle.std.proofs.Common.{[], append-nil, refl, sym}
use Rattle.pmp_text.proofs.BandNames.{names_grow}
use Rattle.pmp_text.proofs.lines.picture.column.append_cell.Goals as goal

pub loop-name-init : goal.loop-name-init
loop-name-init g c = ([], sym (append-nil (g.S.Sink.text c.args.out.now)), refl)

pub loop-name-preserved : goal.loop-name-preserved
loop-name-preserved g c =
    names_grow c.args.names.now c.args.run.now.first c.args.run.now.last (g.S.Sink.text c.args.out.now)
    (g.S.Sink.text c.loop-name.out) c.loop-name.name-index _ c.loop-name-test.true _ c.loop-name.is_first _
    c.in_ok-is_first.ensures.ok c.in_ok-is_first.ensures.next c.loop-name.invariant
