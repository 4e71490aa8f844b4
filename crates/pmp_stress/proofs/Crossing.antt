-- What a checker's thread takes with it may move there, and what it answers may move back.
use denote.Param.Send.{IsSend, IsSync, sendable}
use denote.Param.SendFields.{declared_send, as_row_send}
use Rattle.std.proofs.Crossing.{crosses}
use Rattle.pmp_share.proofs.Crossing.{checker_send}
use Rattle.pmp_stress.specs.contracts.crew.Done as done
use Rattle.pmp_stress.specs.contracts.crew.Duty as duty
use Rattle.pmp_stress.specs.contracts.meeting.Meeting as meeting

pub duty_send : IsSend duty.the_row
duty_send = search (crosses, sendable) depth 24

pub meeting_send : IsSend meeting.the_row
meeting_send = search (crosses, sendable) depth 14

pub meeting_sync : IsSync meeting.the_row
meeting_sync = search (crosses, sendable) depth 14

pub done_send : IsSend done.the_row
done_send = declared_send done.the_type (
  search (crosses, sendable) depth 20,
  (
    search (as_row_send, sendable) depth 6,
    (search (crosses, sendable) depth 30, (search (checker_send, crosses, sendable) depth 12, tt)),
  ),
)
