-- The ends of a ring of notices may move into threads.
use denote.Param.Send.{IsSend, sendable}
use Rattle.std.proofs.Crossing.{send, frees}
use Rattle.std.specs.contracts.impls.GlobalAllocator.TheImpl as heap
use Rattle.std.specs.contracts.alloc.Global as global
use Rattle.core.proofs.Crossing as core
use Rattle.rtrb.specs.contracts.producer.Producer as producer_of
use Rattle.rtrb.specs.contracts.consumer.Consumer as consumer_of
use Rattle.rtrb.proofs.producer.Producer.TheSendSync as producer
use Rattle.rtrb.proofs.consumer.Consumer.TheSendSync as consumer
use Rattle.pmp_share.specs.contracts.notice.Notice as notice
use Rattle.pmp_share.specs.contracts.notice_ring.OneUnit as one_unit
use Rattle.pmp_share.specs.contracts.notice_ring.OneUnitProtocolNotice.TheImpl as rule
use Rattle.pmp_share.specs.contracts.notice_ring.NoticeSender as sender
use Rattle.pmp_share.specs.contracts.notice_ring.NoticeSender.TheInside as sender_inside
use Rattle.pmp_share.specs.contracts.notice_ring.NoticeReceiver as receiver
use Rattle.pmp_share.specs.contracts.notice_ring.NoticeReceiver.TheInside as receiver_inside
use Rattle.pmp_share.proofs.Crossing.{notice_send}

producer_send : IsSend (producer_of.the_field notice.the_row global.the_row one_unit.the_row heap.ghosts
    rule.ghosts).row
producer_send = producer.the_field_send notice.the_row global.the_row one_unit.the_row heap.ghosts rule.ghosts
    notice_send send frees

consumer_send : IsSend (consumer_of.the_field notice.the_row global.the_row one_unit.the_row heap.ghosts
    rule.ghosts).row
consumer_send = consumer.the_field_send notice.the_row global.the_row one_unit.the_row heap.ghosts rule.ghosts
    notice_send send frees

sender_inside_send : IsSend sender_inside.the_row
sender_inside_send = search (producer_send, core.crosses, sendable) depth 12

pub sender_send : IsSend sender.the_row
sender_send = search (sender_inside_send, sendable) depth 6

receiver_inside_send : IsSend receiver_inside.the_row
receiver_inside_send = search (consumer_send, core.crosses, sendable) depth 12

pub receiver_send : IsSend receiver.the_row
receiver_send = search (receiver_inside_send, sendable) depth 6
