use Rattle.std.proofs.Common.{◌≡◌, ◌∙◌, ◌+◌, rules, sym, ap}
use Rattle.pmp_core.specs.Ranges.{decision_of}
use Rattle.pmp_text.specs.Reports.{file_of_script}
use Rattle.pmp_lint.specs.Why.{decided_at}
use Rattle.pmp_lint.proofs.Events.{file_more}
use Rattle.pmp_lint.proofs.AnswerRuns.{since_anew, since_goes_on}
use Rattle.pmp_lint.proofs.because.decided_at.Goals as goal
use Rattle.pmp_lint.proofs.because.decided_at.Goals.{then-not-is_same, else-not-is_same}

pub loop-index-preserved : goal.loop-index-preserved
loop-index-preserved c =
    let script = c.args.script.now in
    let access = c.args.access.now in
    let index = c.loop-index.index in
    let here : decided_at script index access ≡ c.loop-index.decision =
    sym (c.loop-index.invariant.computed ∙ ap (λ file. decision_of file access) c.loop-index.invariant.file) in
    let file : c.run_events.new.self ≡ file_of_script script (index + 1) =
    rw (file_more script index (search rules))
    (rw (c.batch.ensures.events, c.loop-index.invariant.file) at c.run_events.ensures.steps) in
    let next : decided_at script (index + 1) access ≡ c.decide-next.result =
    sym (c.decide-next.ensures.computed ∙ ap (λ file. decision_of file access) file) in
    record {
      file = file;
      by_bytes = c.decide-next.ensures.by_bytes;
      computed = c.decide-next.ensures.computed;
      since = elim c.if-not-is_same.branch [
        | then-not-is_same w ↦ rw w.since-is (since_anew script access index (λ e.
            let yes = c.is_same.ensures.no (sym next ∙ e ∙ here) in
            absurd (cc)))
        | else-not-is_same w ↦ rw w.since-is (since_goes_on script access index c.loop-index.since
            c.loop-index.invariant.since (next ∙ c.is_same.ensures.yes (cc) ∙ sym here))
      ];
    }
