-- Publishers, batches and journals may move into threads.
use denote.RattleType.{RattleType}
use denote.Param.Send.{IsSend, sendable}
use denote.Param.SendFields.{declared_send, as_row_send}
use denote.Struct.Field.{row_field}
use Rattle.std.proofs.Crossing.{crosses, send, sync, frees}
use Rattle.std.specs.contracts.impls.GlobalAllocator.TheImpl as heap
use Rattle.std.specs.contracts.alloc.Global as global
use Rattle.core.proofs.Crossing as core
use Rattle.core.specs.contracts.option.Option as option
use Rattle.arrayvec.proofs.array_vec.ArrayVec.TheSendSync as array_vec
use Rattle.left_right.specs.contracts.writer.Writer as writer_of
use Rattle.left_right.proofs.writer.Writer.TheSendSync as writer
use Rattle.logbook.proofs.tokens.Seen.TheSendSync as seen
use Rattle.logbook.proofs.word.Word.TheSendSync as word
use Rattle.pmp_core.specs.contracts.event.Event as event
use Rattle.pmp_core.specs.contracts.register_file.RegFile as file
use Rattle.pmp_map.specs.contracts.run.Run as run
use Rattle.pmp_map.specs.contracts.run_map.RunMap as run_map
use Rattle.pmp_map.specs.contracts.run_map.RunMap.TheInside as map_inside
use Rattle.pmp_map.specs.contracts.tables.Tables as tables
use Rattle.pmp_share.specs.contracts.batch.Batch as batch
use Rattle.pmp_share.specs.contracts.batch.Batch.TheInside as batch_inside
use Rattle.pmp_share.specs.contracts.ending.Ending as ending
use Rattle.pmp_share.specs.contracts.history.LawRuleLinkedListEventU64.TheImpl as law
use Rattle.pmp_share.specs.contracts.journal.Journal as journal
use Rattle.pmp_share.specs.contracts.knowledge.Known as known
use Rattle.pmp_share.specs.contracts.logged_batch.LoggedBatch as logged
use Rattle.pmp_share.specs.contracts.publisher.Publisher as publisher
use Rattle.pmp_share.specs.contracts.publisher.Publisher.TheInside as publisher_inside
use Rattle.pmp_share.specs.contracts.publisher_guard.PublisherGuard as guard
use Rattle.pmp_share.specs.contracts.publisher_guard.PublisherGuard.TheInside as guard_inside
use Rattle.pmp_share.specs.contracts.recorder.Recorder as recorder
use Rattle.pmp_share.specs.contracts.recorder.Recorder.TheInside as recorder_inside
use Rattle.pmp_share.specs.contracts.rule.OneHistory as one_history
use Rattle.pmp_share.specs.contracts.rule.OneHistoryProtocolVersionKnowledge.TheImpl as rule
use Rattle.pmp_share.specs.contracts.version.Version as version
use Rattle.pmp_share.specs.contracts.version.VersionAbsorbLoggedBatch.TheImpl as absorb
use Rattle.pmp_share.specs.contracts.version_state.VersionState as version_state
use Rattle.pmp_share.specs.contracts.writer_state.WriterState as writer_state
use Rattle.pmp_share.specs.contracts.writer_state.WriterState.TheInside as writer_state_inside
use Rattle.pmp_share.proofs.Crossing.{file_send, version_sync}

event_send : IsSend event.the_row
event_send = search (crosses, sendable) depth 14

batch_inside_send : IsSend batch_inside.the_row
batch_inside_send = search (array_vec.the_send, event_send, core.crosses, crosses, sendable) depth 14

pub batch_send : IsSend batch.the_row
batch_send = search (batch_inside_send, sendable) depth 6

pub journal_send : IsSend journal.the_row
journal_send = search (crosses, sendable) depth 16

journal_field_send : IsSend (journal.the_field).row
journal_field_send = search (crosses, sendable) depth 16

run_send : IsSend run.the_row
run_send = search (crosses, sendable) depth 14

tables_send : IsSend (tables.the_field).row
tables_send = search (crosses, sendable) depth 14

map_inside_send : IsSend map_inside.the_row
map_inside_send = declared_send map_inside.the_type (
  search (core.crosses, sendable) depth 12,
  (as_row_send tables.the_field tables_send, (search (run_send, crosses, sendable) depth 12, tt)),
)

map_send : IsSend (run_map.the_field).row
map_send = search (map_inside_send, sendable) depth 6

version_send : IsSend version.the_row
version_send = declared_send version.the_type (
  as_row_send journal.the_field journal_field_send,
  (
    as_row_send file.the_field file_send,
    (
      as_row_send run_map.the_field map_send,
      (seen.the_send _ _ _ law.ghosts, (search (core.crosses, sendable) depth 12, tt)),
    ),
  ),
)

logged_send : IsSend logged.the_row
logged_send = search (seen.the_send, crosses, sendable) depth 14

writer_send : IsSend (writer_of.the_field version.the_row logged.the_row (option.the_row known.the_row)
    one_history.the_row global.the_row version_state.the_row absorb.ghosts rule.ghosts heap.ghosts).row
writer_send = writer.the_field_send version.the_row logged.the_row (option.the_row known.the_row) one_history.the_row
    global.the_row version_state.the_row absorb.ghosts rule.ghosts heap.ghosts version_send logged_send send
    version_sync sync frees

recorder_inside_send : IsSend recorder_inside.the_row
recorder_inside_send = search (word.the_send, seen.the_send, crosses, sendable) depth 14

recorder_send : IsSend recorder.the_row
recorder_send = search (recorder_inside_send, sendable) depth 6

writer_state_inside_send : IsSend writer_state_inside.the_row
writer_state_inside_send = search (writer_send, recorder_send, crosses, sendable) depth 14

writer_state_send : IsSend writer_state.the_row
writer_state_send = search (writer_state_inside_send, sendable) depth 6

publisher_inside_send : IsSend publisher_inside.the_row
publisher_inside_send = declared_send publisher_inside.the_type (
  writer_state_send,
  (
    journal_send,
    (search (as_row_send, sendable) depth 6, (search (as_row_send, sendable) depth 6, tt)),
  ),
)

pub publisher_send : IsSend publisher.the_row
publisher_send = search (publisher_inside_send, sendable) depth 6

ending_send : (R : RattleType) → IsSend R → IsSend (ending.the_row R)
ending_send R runtime_send = declared_send (ending.the_type R) (as_row_send (row_field R) runtime_send, tt)

guard_inside_send : (R : RattleType) → IsSend R → IsSend (guard_inside.the_row R)
guard_inside_send R runtime_send = declared_send (guard_inside.the_type R)
    (search (ending_send R runtime_send, sendable) depth 6, (publisher_send, tt))

pub guard_send : (R : RattleType) → IsSend R → IsSend (guard.the_row R)
guard_send R runtime_send = search (guard_inside_send R runtime_send, sendable) depth 6
