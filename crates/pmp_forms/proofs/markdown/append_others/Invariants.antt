use Rattle.std.proofs.Common.{◌≡◌, ◌++◌, drop}
use Rattle.pmp_forms.specs.Markdown.{rows_after}
use Rattle.pmp_forms.proofs.markdown.append_others.Given as goal

-- the rows so far, and those of the rest, are all
abbrev pub invariant-loop-row : goal.invariant-loop-row
invariant-loop-row l =
    l.out.items ++ rows_after l.table l.before (drop l.row-index l.rows)
    ≡ l.fn.out.items ++ rows_after l.table l.fn.kind l.rows
