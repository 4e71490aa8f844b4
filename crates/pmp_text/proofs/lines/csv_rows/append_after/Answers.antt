use Rattle.std.proofs.Common.{◌≡◌, length, rules, arith}
use Rattle.std.proofs.lemmas.List.{take_all}
use Rattle.pmp_text.proofs.CsvFields.{ends_row}
use Rattle.pmp_text.proofs.lines.csv_rows.append_after.Goals as goal

pub returns-clause-ok : goal.returns-clause-ok
returns-clause-ok g c =
    let all : c.loop-cell.cell-index ≡ length c.args.cells.now = omega arith in
    ends_row _ _ _ _ _ (rw (take_all (length c.args.cells.now) c.args.cells.now (omega arith)) at
    (rw all at c.loop-cell.invariant)) c.append-2.ensures.ok
