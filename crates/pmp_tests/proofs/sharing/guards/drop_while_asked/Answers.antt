use Rattle.std.proofs.Crossing.{crosses}
use denote.Param.Send.{sendable}
use Rattle.pmp_share.proofs.Crossing.{checker_send}
use Rattle.pmp_tests.proofs.sharing.guards.drop_while_asked.Goals as goal

pub spawn-requires-send-F : goal.spawn-requires-send-F
spawn-requires-send-F g c κs = search (checker_send, crosses, sendable) depth 20
