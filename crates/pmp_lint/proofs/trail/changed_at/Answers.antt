use Rattle.std.proofs.Common.{rules}
use Rattle.pmp_lint.proofs.Events.{changed_more, file_more}
use Rattle.pmp_lint.proofs.trail.changed_at.Goals as goal

pub loop-index-preserved : goal.loop-index-preserved
loop-index-preserved c =
    let script = c.args.script.now in
    let index = c.loop-index.index in
    let after = c.after-trail.ensures in
    record {
      file = rw (file_more script index (search rules)) (rw (c.batch.ensures.events, c.loop-index.invariant.file) at after.file);
      line = rw (changed_more script index c.args.subject)
          (rw (c.batch.ensures.events, c.lines.ensures, c.loop-index.invariant.file, c.loop-index.invariant.line) at after.line);
    }
