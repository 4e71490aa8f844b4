use Rattle.std.proofs.Common.{Ok, refl, ap, inl, inr}
use Rattle.std.proofs.lemmas.Result.{err_from_is_err_and}
use Rattle.pmp_text.proofs.WholeTraces.{none_read, not_read, one_row_more, with_rows}
use Rattle.pmp_text.proofs.trace.reader.read_rows.Goals as goal

pub loop-rows-init : goal.loop-rows-init
loop-rows-init c = rw c.new-rows.ensures.items (none_read c.args.left.now c.requires.first)

pub returns-in_err-row : goal.returns-in_err-row
returns-in_err-row c =
    let p = err_from_is_err_and c.from_residual.result c.from_residual.ensures.1 in
    rw (p.1, p.2) (not_read c.args.left.now.moments c.args.left.now.place.next c.args.left.now.records
    c.requires.numbered c.loop-rows.rows.items c.loop-rows.left c.loop-rows.invariant c.in_err-row.field-0.0
    c.in_err-row.ensures.err)

pub loop-rows-preserved : goal.loop-rows-preserved
loop-rows-preserved c =
    rw c.in_ok-push.ensures.items (one_row_more c.args.left.now.moments c.args.left.now.place.next
    c.args.left.now.records c.loop-rows.rows.items c.loop-rows.left c.next.new.self c.in-Some.row
    c.loop-rows.invariant (rw c.in-Some.is at c.in_ok-row.ensures.row))

pub returns-in_err-push : goal.returns-in_err-push
returns-in_err-push c =
    let p = err_from_is_err_and c.from_residual-in_err-push.result c.from_residual-in_err-push.ensures.1 in
    rw (p.1, p.2) (inr refl)

pub returns : goal.returns
returns c =
    with_rows c.args.left.now.moments c.args.left.now.place.next c.args.left.now.records c.requires.numbered
    c.loop-rows.rows.items c.loop-rows.left c.loop-rows.invariant (c.in_ok-row.ensures.end (ap Ok c.in_default.is)).0
