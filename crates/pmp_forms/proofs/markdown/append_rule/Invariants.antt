use Rattle.std.proofs.Common.{◌≡◌, ◌++◌, drop, map}
use Rattle.std.specs.List.{flat_map}
use Rattle.std.specs.Prelude.{codes}
use Rattle.pmp_text.specs.Columns.{column_value}
use Rattle.pmp_forms.specs.Markdown.{cell, line}
use Rattle.pmp_forms.proofs.markdown.append_rule.Given as goal

-- the cells so far, and those of the rest, are all
abbrev pub invariant-loop-column : goal.invariant-loop-column
invariant-loop-column l =
    l.out.items ++ (flat_map cell (map (λ column. codes "---") (map column_value (drop l._column-index l.columns)))
    ++ codes "\n") ≡ l.fn.out.items ++ line (map (λ column. codes "---") (map column_value l.columns))
