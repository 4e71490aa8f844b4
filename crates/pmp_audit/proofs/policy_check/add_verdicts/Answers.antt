use Rattle.std.proofs.Common.{map, take, arith, refl, rules}
use Rattle.std.proofs.lemmas.List.{get_or-map, length-map, length-take-le}
use Rattle.pmp_text.proofs.AddedRows.{some_and_some}
use Rattle.pmp_text.specs.Labels.{label_text}
use Rattle.pmp_audit.specs.declared.policy_check.sweep.Judged.{Judged}
use Rattle.pmp_audit.proofs.PolicyVerdicts.{none_written, one_row_more, one_written, rows_so_far}
use Rattle.pmp_audit.proofs.policy_check.add_verdicts.Goals as goal

pub loop-one-init : goal.loop-one-init
loop-one-init g c =
    none_written g.R.RowSink.Adds g.met.R.RowSink.none _ (map label_text c.args.telling.now.labels.now)
    c.args.out.now c.default-summary.result c.default-summary.ensures.0 c.default-summary.ensures.1.0
    c.default-summary.ensures.1.1

pub add_told-requires-clause-room : goal.add_told-requires-clause-room
add_told-requires-clause-room g c =
    let i = c.loop-one.one-index in
    let all = c.args.judged.now in
    let labels = map label_text c.args.telling.now.labels.now in
    let done = rows_so_far g.R.RowSink.Adds g.met.R.RowSink.both _ (take i all) labels c.args.out.now
    c.loop-one.out c.loop-one.summary c.loop-one.invariant in
    let test = c.loop-one-test.true in
    let count = length-take-le i all (omega (arith, test)) in
    omega (arith, done, count, test)

pub loop-one-preserved : goal.loop-one-preserved
loop-one-preserved g c =
    let i = c.loop-one.one-index in
    let all = c.args.judged.now in
    let (told, is, text) = c.in_ok-add_told.ensures.ok in
    rw (one_row_more all i c.one-item.result c.loop-one-test.true c.one-item.is)
    (one_written g.R.RowSink.Adds g.met.R.RowSink.both _ (take i all) (map label_text c.args.telling.now.labels.now)
    c.args.out.now c.loop-one.out c.loop-one.summary c.loop-one.invariant c.one-item.result c.add_told.new.out _ told is
    text (refl, search rules, search rules))

pub add_told-requires-clause-within : goal.add_told-requires-clause-within
add_told-requires-clause-within g c =
    let i = c.loop-one.one-index in
    let all = c.args.judged.now in
    let one = c.one-item.result in
    let inside = c.loop-one-test.true in
    rw (get_or-map (λ (j : Judged). j.row) all i one one.row inside, ← c.one-item.is) at
    (c.requires i one.row (omega (arith, inside, length-map all (λ (j : Judged). j.row))))

pub returns-in_err-add_told-clause-err : goal.returns-in_err-add_told-clause-err
returns-in_err-add_told-clause-err g c =
    some_and_some g.R.RowSink.Adds g.met.R.RowSink.both _ _ _ _ (_, c.loop-one.invariant.added)
    c.in_err-add_told.ensures.err
