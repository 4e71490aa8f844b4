use Rattle.std.proofs.Common.{rules}
use Rattle.pmp_lint.proofs.because.why.Goals as goal

pub returns : goal.returns
returns c =
    let decided = c.decided_at-decided.ensures in
    record {
      by_bytes = rw decided.file at decided.by_bytes;
      since = decided.since;
      decider = search rules;
    }
