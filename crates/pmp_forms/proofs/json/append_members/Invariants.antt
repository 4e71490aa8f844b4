use Rattle.std.proofs.Common.{◌≡◌, ◌++◌, false, length, map}
use Rattle.serde_json.specs.Written.{members_text}
use Rattle.pmp_text.specs.Cells.{cell_value}
use Rattle.pmp_text.specs.Columns.{column_value}
use Rattle.pmp_forms.specs.Json.{members}
use Rattle.pmp_forms.proofs.json.append_members.Given as goal

-- the members so far, and those of the rest, are all
abbrev pub invariant-loop-column : goal.invariant-loop-column
invariant-loop-column l =
    l.out.items ++ members_text l.is_behind
    (members (map column_value l.heads) (map (cell_value (λ text. text.items)) l.rest))
    ≡ l.fn.out.items ++ members_text false
    (members (map column_value l.columns) (map (cell_value (λ text. text.items)) l.cells))

abbrev pub decreases-loop-column : goal.decreases-loop-column
decreases-loop-column l = length l.heads
