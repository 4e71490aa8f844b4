-- The exit status of an outcome.
use Rattle.std.specs.Prelude.{ℕ, ◌==◌, if◌then◌else◌}
use Rattle.pmp_tool.specs.declared.outcome.Outcome.{Outcome}
use Rattle.pmp_tool.specs.declared.outcome.Outcome.TheVariants.{Audited, Compared, Decided, Explained, Found, Judged, Replayed}
use Rattle.pmp_tool.specs.Expected.{is_met}

-- status 0: a check with the expected answer, a `why` with an access allowed, an audit with all accesses allowed, a
-- policy with no row broken, writes all stored as written with all expectations met, a comparison or a lint without
-- rows, and all else
abbrev pub outcome_status : Outcome → ℕ
outcome_status (Decided decision asked) = if is_met asked.expected decision then 0 else 1
outcome_status (Explained decision is_bare) = if decision.allowed then 0 else 1
outcome_status (Audited summary) = if summary.faults == 0 then 0 else 1
outcome_status (Judged summary) = if summary.broken == 0 then 0 else 1
outcome_status (Replayed summary) =
    if summary.differing == 0 then (if summary.not_stored == 0 then 0 else 1) else 1
outcome_status (Found count) = if count == 0 then 0 else 1
outcome_status (Compared rows) = if rows == 0 then 0 else 1
outcome_status _ = 0
