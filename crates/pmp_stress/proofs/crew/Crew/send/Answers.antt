use Rattle.std.proofs.Crossing.{crosses}
use denote.Param.Send.{sendable}
use Rattle.pmp_share.proofs.Crossing.{checker_send}
use Rattle.pmp_stress.proofs.Crossing.{duty_send, meeting_send, meeting_sync, done_send}
use Rattle.pmp_stress.proofs.crew.Crew.send.Goals as goal

pub spawn-requires-send-F : goal.spawn-requires-send-F
spawn-requires-send-F g c κs = search (checker_send, duty_send, meeting_send, meeting_sync, crosses, sendable) depth 20

pub spawn-requires-send-T : goal.spawn-requires-send-T
spawn-requires-send-T g c κs = search (done_send, crosses, sendable) depth 14
