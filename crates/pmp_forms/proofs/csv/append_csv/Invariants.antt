use Rattle.std.proofs.Common.{◌≡◌, ◌++◌, drop}
use Rattle.pmp_text.specs.Cells.{csv_text}
use Rattle.pmp_forms.proofs.csv.append_csv.Given as goal

-- the rows so far, and those of the rest, are all
abbrev pub invariant-loop-row : goal.invariant-loop-row
invariant-loop-row l = l.out.items ++ csv_text (drop l.row-index l.rows) ≡ l.fn.out.items ++ csv_text l.rows
