use Rattle.std.proofs.Common.{◌≡◌, ◌+◌, cond, ap, sym, subst, ◌∙◌, ℕ, arith}
use Rattle.pmp_text.specs.Changes.{has_row}
use Rattle.pmp_text.proofs.AddedRows.{left_some}
use Rattle.pmp_audit.proofs.Differences.{AreWrittenTo, one_more_written}
use Rattle.pmp_audit.proofs.script_diff.add_differences.Goals as goal
use Rattle.pmp_audit.proofs.script_diff.add_differences.Goals.{then-branch, else-branch}

pub loop-first-preserved : goal.loop-first-preserved
loop-first-preserved g c =
    let run = c.compared_run_from-run.result in
    let has = c.in_ok-add_change.ensures.has in
    let counted : c.if-branch.rows ≡ c.loop-first.rows + cond (has_row c.args.only run) 1 0 =
    elim c.if-branch.branch [
      | then-branch w ↦ w.rows-is ∙ ap (λ b. c.loop-first.rows + cond b 1 0) (sym w.if-branch.true ∙ has)
      | else-branch w ↦
          w.rows-is ∙ omega arith ∙ ap (λ b. c.loop-first.rows + cond b 1 0) (sym w.if-branch.false ∙ has)
    ] in
    subst (λ (n : ℕ). AreWrittenTo g.R.RowSink.Adds c.args.aspect c.args.old.now c.args.new.now c.args.only c.args.out.now
    (run.last + 1) n c.add_change.new.out) (sym counted)
    (one_more_written g.R.RowSink.Adds g.met.R.RowSink.none g.met.R.RowSink.both c.args.aspect c.args.old.now c.args.new.now c.args.only c.args.out.now c.loop-first.first
    c.loop-first.rows c.loop-first.out c.add_change.new.out run
    c.loop-first.invariant c.compared_run_from-run.ensures.begins c.compared_run_from-run.ensures.longest
    c.in_ok-add_change.ensures.ok)

pub returns-in_err-add_change-clause-err : goal.returns-in_err-add_change-clause-err
returns-in_err-add_change-clause-err g c =
    left_some g.R.RowSink.Adds g.met.R.RowSink.both _ _ _ _ _ c.loop-first.invariant.added
    c.in_err-add_change.ensures.err
