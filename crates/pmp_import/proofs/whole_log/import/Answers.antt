use Rattle.std.proofs.Common.{rules, ◌≡◌, Err, ◌∙◌, arith, subst}
use Rattle.pmp_text.specs.declared.refusal.Refusal.TheVariants.{Memory, Output}
use Rattle.pmp_import.specs.declared.given.Given.{Given}
use Rattle.pmp_import.specs.Imported.{at}
use Rattle.pmp_import.specs.Steps.{StopsAtEnd}
use Rattle.pmp_import.proofs.WholeLogs.{cant_begin, cant_write, cant_write_last, ends_well, going_begins, goes_on, stops_at}
use Rattle.pmp_import.proofs.WholeLogs.{stops_at_count, stops_at_cut, stops_at_end, stops_at_last}
use Rattle.pmp_import.proofs.whole_log.import.Goals as goal
use Rattle.pmp_text.specs.Outcomes as outcome

pub returns-in_err-begin-clause-err : goal.returns-in_err-begin-clause-err
returns-in_err-begin-clause-err g c =
    let stopped : c.from_residual.result ≡ Err outcome.no_memory = search rules in
    rw stopped (cant_begin c.args.given _ _)

pub loop-count-init : goal.loop-count-init
loop-count-init g c = (
  going_begins c.args.given _ _ _ _ _ c.new-held.ensures.items (search rules) c.new-importer.ensures.walk,
  c.new-importer.ensures.given,
)

pub cut_lines-requires : goal.cut_lines-requires
cut_lines-requires g c = let short = c.loop-count.invariant.0.taken.short in omega arith

-- ---- whole lines

pub returns-in_err-take_lines-in-Ok-Front-clause-err : goal.returns-in_err-take_lines-in-Ok-Front-clause-err
returns-in_err-take_lines-in-Ok-Front-clause-err g c =
    let (going, same) = c.loop-count.invariant in
    let cut = rw c.in-Ok-Front.field-0-is at c.in-Ok-Front.ensures in
    let fault = c.in_err-take_lines-in-Ok-Front.field-0.0 in
    let stopped : c.from_residual-in_err-take_lines-in-Ok-Front.result ≡ Err fault = search rules in
    rw stopped (stops_at going c.in-Ok-Front.piece.items cut fault
    (rw (same, c.deref.ensures.value) at c.in_err-take_lines-in-Ok-Front.ensures.err))

pub returns-in_err-write_out-in-Ok-Front-clause-err : goal.returns-in_err-write_out-in-Ok-Front-clause-err
returns-in_err-write_out-in-Ok-Front-clause-err g c =
    let (going, same) = c.loop-count.invariant in
    let cut = rw c.in-Ok-Front.field-0-is at c.in-Ok-Front.ensures in
    let reads = rw (same, c.deref.ensures.value) at c.in_ok-take_lines-in-Ok-Front.ensures.ok in
    let wrote = rw c.deref-in-Ok-Front.ensures.value at c.in_err-write_out-in-Ok-Front.ensures.err in
    let stopped : c.from_residual-in_err-write_out-in-Ok-Front.result ≡ Err outcome.no_output = search rules in
    rw stopped (cant_write going c.in-Ok-Front.piece.items cut _ reads wrote)

pub loop-count-preserved : goal.loop-count-preserved
loop-count-preserved g c =
    let (going, same) = c.loop-count.invariant in
    let cut = rw c.in-Ok-Front.field-0-is at c.in-Ok-Front.ensures in
    let reads = rw (same, c.deref.ensures.value) at c.in_ok-take_lines-in-Ok-Front.ensures.ok in
    let wrote = rw c.deref-in-Ok-Front.ensures.value at c.in_ok-write_out-in-Ok-Front.ensures.ok in (
      rw c.clear.ensures.items (goes_on going c.in-Ok-Front.piece.items cut reads wrote),
      search rules,
    )

-- ---- the last lines

pub returns-in_err-take_lines-in-Ok-Last-clause-err : goal.returns-in_err-take_lines-in-Ok-Last-clause-err
returns-in_err-take_lines-in-Ok-Last-clause-err g c =
    let (going, same) = c.loop-count.invariant in
    let cut = rw c.in-Ok-Last.field-0-is at c.in-Ok-Last.ensures in
    let fault = c.in_err-take_lines-in-Ok-Last.field-0.0 in
    let stopped : c.from_residual-in_err-take_lines-in-Ok-Last.result ≡ Err fault = search rules in
    rw stopped (stops_at_last going c.in-Ok-Last.piece.items cut fault
    (rw (same, c.deref-in-Ok-Last.ensures.value) at c.in_err-take_lines-in-Ok-Last.ensures.err))

pub returns-in_err-end-in-Ok-Last-clause-err : goal.returns-in_err-end-in-Ok-Last-clause-err
returns-in_err-end-in-Ok-Last-clause-err g c =
    let (going, same) = c.loop-count.invariant in
    let cut = rw c.in-Ok-Last.field-0-is at c.in-Ok-Last.ensures in
    let fault = c.in_err-end-in-Ok-Last.field-0.0 in
    let stopped : c.from_residual-in_err-end-in-Ok-Last.result ≡ Err fault = search rules in
    let reads = rw (same, c.deref-in-Ok-Last.ensures.value) at c.in_ok-take_lines-in-Ok-Last.ensures.ok in
    let given : c.take_lines-in-Ok-Last.new.self.given ≡ c.args.given = c.take_lines-in-Ok-Last.ensures.given ∙ same in
    rw stopped (stops_at_end going c.in-Ok-Last.piece.items cut reads fault
    (subst (λ (it : Given). StopsAtEnd it c.take_lines-in-Ok-Last.new.self.walk fault) given
    c.in_err-end-in-Ok-Last.ensures.err))

pub returns-in_err-write_out-in-Ok-Last-clause-err : goal.returns-in_err-write_out-in-Ok-Last-clause-err
returns-in_err-write_out-in-Ok-Last-clause-err g c =
    let (going, same) = c.loop-count.invariant in
    let cut = rw c.in-Ok-Last.field-0-is at c.in-Ok-Last.ensures in
    let reads = rw (same, c.deref-in-Ok-Last.ensures.value) at c.in_ok-take_lines-in-Ok-Last.ensures.ok in
    let given : c.take_lines-in-Ok-Last.new.self.given ≡ c.args.given = c.take_lines-in-Ok-Last.ensures.given ∙ same in
    let end = rw given at c.in_ok-end-in-Ok-Last.ensures.ok in
    let wrote = rw c.deref-in-Ok-Last-2.ensures.value at c.in_err-write_out-in-Ok-Last.ensures.err in
    let stopped : c.from_residual-in_err-write_out-in-Ok-Last.result ≡ Err outcome.no_output = search rules in
    rw stopped (cant_write_last going c.in-Ok-Last.piece.items cut reads _ end wrote)

pub returns-in-Ok-Last-clause-ok : goal.returns-in-Ok-Last-clause-ok
returns-in-Ok-Last-clause-ok g c =
    let (going, same) = c.loop-count.invariant in
    let cut = rw c.in-Ok-Last.field-0-is at c.in-Ok-Last.ensures in
    let reads = rw (same, c.deref-in-Ok-Last.ensures.value) at c.in_ok-take_lines-in-Ok-Last.ensures.ok in
    let given : c.take_lines-in-Ok-Last.new.self.given ≡ c.args.given = c.take_lines-in-Ok-Last.ensures.given ∙ same in
    let end = rw given at c.in_ok-end-in-Ok-Last.ensures.ok in
    let wrote = rw c.deref-in-Ok-Last-2.ensures.value at c.in_ok-write_out-in-Ok-Last.ensures.ok in
    ends_well going c.in-Ok-Last.piece.items cut reads end wrote

-- ---- no lines

pub returns-in-Err-clause-err : goal.returns-in-Err-clause-err
returns-in-Err-clause-err g c = rw c.stop.ensures (stops_at_cut c.loop-count.invariant.0
    (g.R.Read.remaining c.cut_lines.new.reader) c.in-Err.fault c.cut_lines.new.held.items c.in-Err.ensures)

pub returns-clause-err : goal.returns-clause-err
returns-clause-err g c = rw c.at.ensures (stops_at_count c.loop-count.invariant.0 (omega arith))
