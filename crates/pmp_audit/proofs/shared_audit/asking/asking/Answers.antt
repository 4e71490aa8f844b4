use Rattle.std.proofs.Common.{◌≡◌, ◌≢◌, ◌∙◌, length, sym, rules, arith}
use Rattle.std.proofs.Math.Seq.{take-length}
use Rattle.std.proofs.lemmas.Iterator.{YieldsList-from_slice, IsFirst-from_position}
use borrow.Author.Tests.{tests}
use Rattle.pmp_text.specs.declared.trace.TraceRow.{TraceRow}
use Rattle.pmp_audit.proofs.Asking.{asking_is}
use Rattle.pmp_audit.proofs.shared_audit.asking.asking.Goals as goal

pub returns-in-Some : goal.returns-in-Some
returns-in-Some c =
    let rows = c.args.rows.now in
    let first = IsFirst-from_position _ _ _ (λ (row : TraceRow). row.after ≢ c.args.after)
    (λ (row : TraceRow). row.after ≡ c.args.after) c.in-Some.ensures.ran (YieldsList-from_slice rows c.iter.ensures.rest)
    (λ x q k. search (rules, tests)) (λ x q k. search (rules, tests)) in
    asking_is c.args.after rows c.in-Some.count (omega (arith, first.0)) first.2 (λ _. first.1)

pub returns-in-None : goal.returns-in-None
returns-in-None c =
    let rows = c.args.rows.now in
    let none = IsFirst-from_position _ _ _ (λ (row : TraceRow). row.after ≢ c.args.after)
    (λ (row : TraceRow). row.after ≡ c.args.after) c.in-None.ensures.ran (YieldsList-from_slice rows c.iter.ensures.rest)
    (λ x q k. search (rules, tests)) (λ x q k. search (rules, tests)) in
    sym (take-length rows)
    ∙ asking_is c.args.after rows (length rows) (omega arith) none (λ inside. absurd (omega arith))
