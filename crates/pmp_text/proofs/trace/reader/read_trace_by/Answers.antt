use Rattle.std.proofs.Common.{◌∙◌, ℕ, List, [], Result, Ok, Err, Vec, Global, map, refl, inl, sym, ap, append-nil, arith}
use Rattle.std.specs.Prelude.{IfOk}
use Rattle.std.proofs.lemmas.Result.{err_from_is_err_and}
use Rattle.pmp_text.specs.declared.trace.TraceRow.{TraceRow}
use Rattle.pmp_text.specs.declared.fault.Fault.{Fault}
use Rattle.pmp_text.specs.Moments.{KnownMoments}
use Rattle.pmp_text.specs.Outcomes.{Gives}
use Rattle.pmp_text.specs.Tables.{records_of}
use Rattle.pmp_text.specs.TraceFaults.{IsInOrder, afters}
use Rattle.pmp_text.specs.Traces.{is_header, row_fields, rows_meaning, trace_meaning}
use Rattle.pmp_text.proofs.LeastRows.{trace_in_order}
use Rattle.pmp_text.proofs.Rows.{long_text, trace_is}
use Rattle.pmp_text.proofs.WholeTraces.{behind_header, few_rows, not_opened, without_header}
use Rattle.pmp_text.proofs.trace.reader.read_trace_by.Goals as goal
use Rattle.pmp_text.specs.declared.fault.Source.TheVariants as source

pub returns-then-text-gt-MAX_TRACE-clause-given : goal.returns-then-text-gt-MAX_TRACE-clause-given
returns-then-text-gt-MAX_TRACE-clause-given c =
    rw (c.at_row.ensures, c.whole.ensures) (inl (trace_is c.args.moments.now c.args.text.now
    ∙ long_text source.Trace is_header (rows_meaning c.args.moments.now) c.args.text.now (omega arith)))

pub returns-in_err-left-clause-given : goal.returns-in_err-left-clause-given
returns-in_err-left-clause-given c =
    let p = err_from_is_err_and c.from_residual.result c.from_residual.ensures.1 in
    rw (p.1, p.2) (not_opened c.args.moments.now c.args.text.now (omega arith) c.in_err-left.field-0.0
    (rw c.beginning.ensures at c.in_err-left.ensures.err))

pub read_rows-requires-clause-first : goal.read_rows-requires-clause-first
read_rows-requires-clause-first c = rw (c.in_ok-left.ensures.rows, c.beginning.ensures) refl

pub read_rows-requires-clause-numbered : goal.read_rows-requires-clause-numbered
read_rows-requires-clause-numbered c =
    let all = records_of c.args.text.now in
    let few = few_rows c.args.moments.now c.args.text.now (omega arith) all [] (sym (append-nil all)) in
    rw (c.in_ok-left.ensures.rows, c.beginning.ensures) (omega (arith, few))

pub returns-then-place-clause-given : goal.returns-then-place-clause-given
returns-then-place-clause-given c =
    let rows = rw c.beginning.ensures at c.in_ok-left.ensures.rows in
    let headed = rw c.beginning.ensures at c.in_ok-left.ensures.header in
    let begun = sym (ap (λ r. r.place.begun) rows) ∙ (rw c.place.ensures at c.if-place.true) in
    rw (behind_header c.args.moments.now c.args.text.now (omega arith) begun headed)
    (rw rows at c.read_rows.ensures)

in_order : (moments : KnownMoments) (text : List ℕ) (answer : Result (Vec TraceRow Global) Fault)
    → Gives (λ rows. map row_fields rows.items) answer (trace_meaning moments text)
    → IfOk answer (λ rows. IsInOrder moments.publications 0 (afters (map row_fields rows.items)))
in_order moments text (Ok rows) given = trace_in_order moments _ text given
in_order moments text (Err fault) given = tt

pub returns-then-place-clause-ordered : goal.returns-then-place-clause-ordered
returns-then-place-clause-ordered c =
    in_order c.args.moments.now c.args.text.now c.read_rows.result (returns-then-place-clause-given c)

pub returns-clause-given : goal.returns-clause-given
returns-clause-given c =
    let rows = rw c.beginning.ensures at c.in_ok-left.ensures.rows in
    let begun = sym (ap (λ r. r.place.begun) rows) ∙ (rw c.place.ensures at c.if-place.false) in
    rw (c.at_row-else-place.ensures, c.whole-else-place.ensures)
    (inl (without_header c.args.moments.now c.args.text.now (omega arith) begun))
