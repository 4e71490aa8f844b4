-- The fence that a hart takes with it may be shared, and what it brings back may move out of its thread.
use denote.Param.Send.{IsSend, IsSync, sendable}
use denote.Param.SendFields.{declared_send, as_row_send}
use Rattle.std.proofs.Crossing.{crosses}
use Rattle.pmp_core.specs.contracts.access.Access as access
use Rattle.pmp_harts.specs.contracts.fence.Fence as fence
use Rattle.pmp_harts.specs.contracts.hart.Answer as answer

pub fence_send : IsSend fence.the_row
fence_send = search (crosses, sendable) depth 14

pub fence_sync : IsSync fence.the_row
fence_sync = search (crosses, sendable) depth 14

access_send : IsSend access.the_row
access_send = search (crosses, sendable) depth 14

pub answer_send : IsSend answer.the_row
answer_send = declared_send answer.the_type (
  search (access_send, sendable) depth 8,
  (
    search (as_row_send, sendable) depth 6,
    (
      search (as_row_send, sendable) depth 6,
      (search (as_row_send, sendable) depth 6, (search (crosses, sendable) depth 12, tt)),
    ),
  ),
)
