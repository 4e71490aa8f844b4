use Rattle.std.proofs.Common.{◌++◌, take}
use Rattle.std.proofs.KnownBytes.{Appends-trans}
use Rattle.pmp_text.proofs.Transfers.{front_grows}
use Rattle.pmp_text.proofs.output.write_out.Goals as goal

pub loop-rest-preserved : goal.loop-rest-preserved
loop-rest-preserved g c =
    let (done, split, written) = c.loop-rest.invariant in
    let count = c.in_ok-count.count in (
      done ++ take count c.loop-rest.rest.now,
      front_grows _ done _ count split,
      Appends-trans _ _ _ _ _ written c.in_ok-count.ensures.bytes,
    )
