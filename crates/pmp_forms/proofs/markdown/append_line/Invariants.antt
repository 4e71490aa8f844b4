use Rattle.std.proofs.Common.{◌≡◌, ◌++◌, drop, map}
use Rattle.std.specs.List.{flat_map}
use Rattle.std.specs.Prelude.{codes}
use Rattle.pmp_text.specs.Cells.{cell_value, shown_text}
use Rattle.pmp_forms.specs.Markdown.{cell, line}
use Rattle.pmp_forms.proofs.markdown.append_line.Given as goal

-- the cells so far, and those of the rest, are all
abbrev pub invariant-loop-one : goal.invariant-loop-one
invariant-loop-one l =
    l.out.items ++ (flat_map cell (map shown_text (map (cell_value (λ text. text.items)) (drop l.one-index l.cells)))
    ++ codes "\n") ≡ l.fn.out.items ++ line (map shown_text (map (cell_value (λ text. text.items)) l.cells))
