use Rattle.std.proofs.Common.{add-one, arith, length-drop, length-take, sym}
use Rattle.pmp_text.proofs.Pieces.{bounds, piece_at}
use Rattle.pmp_text.proofs.script.part_of.Goals as goal

pub offset_bounds-items-start : goal.offset_bounds-items-start
offset_bounds-items-start g c = omega (
  arith,
  bounds c.args.index _ _ c.args.ends.now c.requires.index c.requires.ascending
      c.end_of-start.ensures c.end_of-end.ensures,
)

pub slice_bounds-result-count : goal.slice_bounds-result-count
slice_bounds-result-count g c = omega (
  arith,
  bounds c.args.index _ _ c.args.ends.now c.requires.index c.requires.ascending
      c.end_of-start.ensures c.end_of-end.ensures,
)

pub slice_bounds-result-start : goal.slice_bounds-result-start
slice_bounds-result-start g c = omega (
  arith,
  bounds c.args.index _ _ c.args.ends.now c.requires.index c.requires.ascending
      c.end_of-start.ensures c.end_of-end.ensures,
)

pub slice_bounds-result-end : goal.slice_bounds-result-end
slice_bounds-result-end g c = omega (
  arith,
  bounds c.args.index _ _ c.args.ends.now c.requires.index c.requires.ascending
      c.end_of-start.ensures c.end_of-end.ensures,
)

pub returns-clause-part : goal.returns-clause-part
returns-clause-part g c =
    rw (c.end_of-start.ensures, c.end_of-end.ensures, add-one)
    (sym (piece_at c.args.items.now c.args.index 0 c.args.ends.now c.requires.index))

pub returns-clause-limit : goal.returns-clause-limit
returns-clause-limit g c = simp (length-take, length-drop) (omega (
  arith,
  bounds c.args.index _ _ c.args.ends.now
      c.requires.index c.requires.ascending c.end_of-start.ensures c.end_of-end.ensures,
))
