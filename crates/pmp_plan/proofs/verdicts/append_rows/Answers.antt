use Rattle.std.proofs.Common.{◌∙◌, ◌+◌, ◌++◌, sym, ap, append_assoc, List, [], ℕ}
use Rattle.std.proofs.lemmas.List.{append-nil}
use Rattle.pmp_plan.specs.Verdicts.{no_row, verdict_line}
use Rattle.pmp_plan.proofs.Judging.{judged_more, row_verdict}
use Rattle.pmp_plan.proofs.verdicts.append_rows.Goals as goal

pub loop-index-init : goal.loop-index-init
loop-index-init g c = ([], no_row, sym (append-nil (g.S.Sink.text c.args.out.now)))

pub loop-index-preserved : goal.loop-index-preserved
loop-index-preserved g c =
    let (text, judged, is) = c.loop-index.invariant in
    let i = c.loop-index.index in
    let unmet = c.first_unmet-unmet.result in
    let line = verdict_line (i + 1) unmet in (
      text ++ line,
      judged_more c.args.registers.now c.args.rows.now i c.index-rows-index.result unmet text c.loop-index-test.true
          c.index-rows-index.is judged
          (row_verdict c.args.registers.now c.index-rows-index.result unmet c.first_unmet-unmet.ensures),
      c.in_ok-append_verdict.ensures ∙ ap (λ (l : List ℕ). l ++ line) is
          ∙ append_assoc (g.S.Sink.text c.args.out.now) text line,
    )
