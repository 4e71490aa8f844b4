use Rattle.std.proofs.Common.{◌≡◌, ◌∙◌, ◌+◌, ℕ, List, ap}
use Rattle.std.specs.Prelude.{option_map}
use Rattle.pmp_text.specs.declared.trace.TraceRow.{TraceRow}
use Rattle.pmp_text.specs.Traces.{first_bare}
use Rattle.pmp_text.proofs.PieceFaults.{position_shifted}
use Rattle.pmp_audit.proofs.trace_audit.first_bare.Goals as goal

numbered : (rows : List TraceRow) → option_map (λ place. 1 + place) (first_bare 0 rows) ≡ first_bare 1 rows
numbered = position_shifted (λ (row : TraceRow). row.is_bare) 1 0

pub returns-in_err-place : goal.returns-in_err-place
returns-in_err-place c =
    c.from_residual.ensures ∙ ap (option_map (λ (place : ℕ). 1 + place)) c.in_err-place.ensures.place
    ∙ numbered c.args.rows.now

pub returns : goal.returns
returns c =
    ap (option_map (λ (place : ℕ). 1 + place)) c.in_ok-place.ensures.place ∙ numbered c.args.rows.now
