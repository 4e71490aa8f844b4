use Rattle.std.proofs.Common.{rules, ◌≡◌, Err, arith}
use Rattle.pmp_import.proofs.WholeSurveys.{count_fault, cut_fault, fault_at, fault_at_last, found_all, looking_begins}
use Rattle.pmp_import.proofs.WholeSurveys.{looks_on}
use Rattle.pmp_import.proofs.whole_log.survey_log.Goals as goal

pub loop-count-init : goal.loop-count-init
loop-count-init g c =
    looking_begins c.args.format c.args.hart _ _ _ c.new-held.ensures.items c.new-survey.ensures

pub cut_lines-requires : goal.cut_lines-requires
cut_lines-requires g c = let short = c.loop-count.invariant.taken.short in omega arith

-- ---- whole lines

pub returns-in_err-take_lines-in-Ok-Front-clause-err : goal.returns-in_err-take_lines-in-Ok-Front-clause-err
returns-in_err-take_lines-in-Ok-Front-clause-err g c =
    let cut = rw c.in-Ok-Front.field-0-is at c.in-Ok-Front.ensures in
    let fault = c.in_err-take_lines-in-Ok-Front.field-0.0 in
    let stopped : c.from_residual.result ≡ Err fault = search rules in
    rw stopped (fault_at c.loop-count.invariant c.in-Ok-Front.piece.items cut fault
    (rw c.deref.ensures.value at c.in_err-take_lines-in-Ok-Front.ensures.err))

pub loop-count-preserved : goal.loop-count-preserved
loop-count-preserved g c =
    let cut = rw c.in-Ok-Front.field-0-is at c.in-Ok-Front.ensures in
    looks_on c.loop-count.invariant c.in-Ok-Front.piece.items cut
    (rw c.deref.ensures.value at c.in_ok-take_lines-in-Ok-Front.ensures.ok)

-- ---- the last lines

pub returns-in_err-take_lines-in-Ok-Last-clause-err : goal.returns-in_err-take_lines-in-Ok-Last-clause-err
returns-in_err-take_lines-in-Ok-Last-clause-err g c =
    let cut = rw c.in-Ok-Last.field-0-is at c.in-Ok-Last.ensures in
    let fault = c.in_err-take_lines-in-Ok-Last.field-0.0 in
    let stopped : c.from_residual-in_err-take_lines-in-Ok-Last.result ≡ Err fault = search rules in
    rw stopped (fault_at_last c.loop-count.invariant c.in-Ok-Last.piece.items cut fault
    (rw c.deref-in-Ok-Last.ensures.value at c.in_err-take_lines-in-Ok-Last.ensures.err))

pub returns-in-Ok-Last-clause-ok : goal.returns-in-Ok-Last-clause-ok
returns-in-Ok-Last-clause-ok g c =
    let cut = rw c.in-Ok-Last.field-0-is at c.in-Ok-Last.ensures in
    found_all c.loop-count.invariant c.in-Ok-Last.piece.items cut
    (rw c.deref-in-Ok-Last.ensures.value at c.in_ok-take_lines-in-Ok-Last.ensures.ok)

-- ---- no lines

pub returns-in-Err-clause-err : goal.returns-in-Err-clause-err
returns-in-Err-clause-err g c = rw c.stop.ensures (cut_fault c.loop-count.invariant
    (g.R.Read.remaining c.cut_lines.new.reader) c.in-Err.fault c.cut_lines.new.held.items c.in-Err.ensures)

pub returns-clause-err : goal.returns-clause-err
returns-clause-err g c = rw c.at.ensures (count_fault c.loop-count.invariant (omega arith))
