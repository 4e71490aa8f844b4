-- Reports with numbers from any one on, one behind the other.
use Rattle.std.proofs.Common.{◌≡◌, ℕ, suc, get_or, ◌+◌, ◌<◌, List, [], ◌∷◌, ◌++◌}
use Rattle.std.proofs.Common.{length, take, sym, ap, ◌∙◌, append_assoc, append-nil, arith}
use Rattle.std.proofs.lemmas.List.{length-take-le, take_more}
use Rattle.pmp_core.specs.declared.decision.Decision.{Decision}
use Rattle.pmp_text.specs.declared.trace.TraceRow.{TraceRow}
use Rattle.pmp_text.specs.LongTraces.{report_text_from}
use Rattle.pmp_text.specs.Reports.{report_row}

-- a report behind another one goes on with its numbers
pub report_goes_on : (rows more : List TraceRow) (decisions others : List Decision) (first : ℕ)
    → length decisions ≡ length rows
    → report_text_from first (rows ++ more) (decisions ++ others)
    ≡ report_text_from first rows decisions ++ report_text_from (first + length rows) more others
unfolding report_text_from
report_goes_on [] more [] others first same =
    let number : first ≡ first + 0 = omega arith in
    ap (λ (n : ℕ). report_text_from n more others) number
report_goes_on [] more (decision ∷ decisions) others first same = absurd (omega arith)
report_goes_on (row ∷ rows) more [] others first same = absurd (omega arith)
report_goes_on (row ∷ rows) more (decision ∷ decisions) others first same =
    let line = report_row first row.access decision in
    let number : first + 1 + length rows ≡ first + suc (length rows) = omega arith in
    ap (λ (l : List ℕ). line ++ l) (report_goes_on rows more decisions others (first + 1) (omega arith))
    ∙ sym (append_assoc line (report_text_from (first + 1) rows decisions)
    (report_text_from (first + 1 + length rows) more others))
    ∙ ap (λ (n : ℕ). (line ++ report_text_from (first + 1) rows decisions) ++ report_text_from n more others) number

-- one row more
pub one_listed : (rows : List TraceRow) (decisions : List Decision) (place : ℕ) (row : TraceRow) (other : Decision)
    → length decisions ≡ length rows → place < length rows → row ≡ get_or rows place row
    → report_text_from 1 (take (place + 1) rows) (take (place + 1) decisions)
    ≡ report_text_from 1 (take place rows) (take place decisions)
    ++ report_row (place + 1) row.access (get_or decisions place other)
unfolding report_text_from
one_listed rows decisions place row other same inside is =
    let decision = get_or decisions place other in
    let many = length-take-le place rows (omega arith) in
    let few = length-take-le place decisions (omega arith) in
    let number : 1 + length (take place rows) ≡ place + 1 = omega arith in
    (λ i. report_text_from 1 ((take_more rows place row inside
    ∙ ap (λ (r : TraceRow). take place rows ++ r ∷ []) (sym is)) i) (take_more decisions place other (omega arith) i))
    ∙ report_goes_on (take place rows) (row ∷ []) (take place decisions) (decision ∷ []) 1 (omega arith)
    ∙ ap (λ (l : List ℕ). report_text_from 1 (take place rows) (take place decisions) ++ l)
    (append-nil (report_row (1 + length (take place rows)) row.access decision)
    ∙ ap (λ (n : ℕ). report_row n row.access decision) number)
