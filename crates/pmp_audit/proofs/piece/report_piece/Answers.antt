use Rattle.pmp_text.specs.Tables.{records_of}
use Rattle.pmp_audit.proofs.PieceRows.{fails_with_header, with_header}
use Rattle.pmp_audit.proofs.piece.report_piece.Goals as goal

pub returns-clause-ok : goal.returns-clause-ok
returns-clause-ok c =
    with_header c.args.piece.script.now c.args.piece.standing (records_of c.args.piece.text.now) c.in_ok-rows.ensures.header
    c.report_rows.result
    (rw (c.place.ensures, c.in_ok-rows.ensures.rows) at c.report_rows.ensures.ok)

pub returns-clause-err : goal.returns-clause-err
returns-clause-err c =
    fails_with_header c.args.piece.script.now c.args.piece.standing (records_of c.args.piece.text.now) c.in_ok-rows.ensures.header
    c.report_rows.result
    (rw (c.place.ensures, c.in_ok-rows.ensures.rows) at c.report_rows.ensures.err)
