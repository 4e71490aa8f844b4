use Rattle.std.proofs.Common.{◌≡◌, ◌+◌, ◌∙◌, ap, arith, length}
use Rattle.pmp_text.specs.Reports.{file_of_script}
use Rattle.pmp_audit.specs.Replay.{file_at}
use Rattle.pmp_audit.proofs.LastingMoments.{all_more}
use Rattle.pmp_audit.proofs.moments.lasting.Goals as goal

pub loop-done-preserved : goal.loop-done-preserved
loop-done-preserved c =
    let script = c.args.script.now in
    let done = c.loop-done.done in
    let stands : c.advance.new.self ≡ record { script = script; done = done + 1 } =
    rw c.loop-done.invariant.0 at c.advance.ensures in
    let file : c.file-in-loop-done.result.now ≡ file_of_script script (done + 1) =
    c.file-in-loop-done.ensures ∙ ap file_at stands in (
      stands,
      rw (c.lasting_with-lasting-in-loop-done.ensures, file)
          (all_more script done c.loop-done.lasting c.loop-done.invariant.1),
    )

pub returns : goal.returns
returns c =
    let last : c.loop-done.done ≡ length c.args.script.now.batches =
    omega (arith, c.loop-done-test.false, c.batches-done-end.ensures, c.loop-done.auto.done-end) in
    rw last at c.loop-done.invariant.1
