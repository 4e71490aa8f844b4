use Rattle.std.proofs.Common.{◌≡◌, ◌++◌, drop}
use Rattle.std.specs.List.{flat_map}
use Rattle.pmp_forms.specs.Json.{object_after}
use Rattle.pmp_forms.proofs.json.append_others.Given as goal

-- the rows so far, and those of the rest, are all
abbrev pub invariant-loop-row : goal.invariant-loop-row
invariant-loop-row l =
    l.out.items ++ flat_map (object_after l.table) (drop l.row-index l.rows)
    ≡ l.fn.out.items ++ flat_map (object_after l.table) l.rows
