use Rattle.std.proofs.Crossing.{crosses}
use denote.Param.Send.{sendable}
use Rattle.pmp_share.proofs.PublisherCrossing.{guard_send}
use Rattle.pmp_share.proofs.RingCrossing.{sender_send}
use Rattle.pmp_tests.proofs.sharing.sending.each_notice_comes_once_and_in_order.Goals as goal

pub spawn-requires-send-F : goal.spawn-requires-send-F
spawn-requires-send-F g c κs = search (guard_send, sender_send, crosses, sendable) depth 20

pub spawn-requires-send-T : goal.spawn-requires-send-T
spawn-requires-send-T g c κs = search (guard_send, crosses, sendable) depth 14
