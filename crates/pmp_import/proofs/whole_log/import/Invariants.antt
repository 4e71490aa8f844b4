use Rattle.std.proofs.Common.{◌≡◌}
use Rattle.pmp_import.proofs.WholeLogs.{Going}
use Rattle.pmp_import.proofs.whole_log.import.Given as goal

abbrev pub invariant-loop-count : goal.invariant-loop-count
invariant-loop-count g l =
    Going l.fn.given l._count (g.R.Read.remaining l.fn.reader) (g.R.Read.remaining l.reader) l.held.items
    (g.W.Write.contents l.fn.writer) (g.W.Write.contents l.writer) l.text.items l.importer.walk
    × (l.importer.given ≡ l.fn.given)
