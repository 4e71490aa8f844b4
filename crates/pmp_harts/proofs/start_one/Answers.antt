use Rattle.std.proofs.Crossing.{crosses}
use denote.Param.Send.{sendable}
use Rattle.pmp_share.proofs.Crossing.{checker_send}
use Rattle.pmp_share.proofs.RingCrossing.{receiver_send}
use Rattle.pmp_harts.proofs.Crossing.{answer_send, fence_send, fence_sync}
use Rattle.pmp_harts.proofs.start_one.Goals as goal

pub spawn-requires-send-F : goal.spawn-requires-send-F
spawn-requires-send-F g c κs within = search (checker_send, receiver_send, fence_send, fence_sync, crosses, sendable) depth 20

pub spawn-requires-send-T : goal.spawn-requires-send-T
spawn-requires-send-T g c κs within = search (answer_send, crosses, sendable) depth 20
