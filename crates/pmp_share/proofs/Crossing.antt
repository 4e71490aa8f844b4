-- Checkers and notices may move into threads.
use denote.Param.Send.{IsSend, IsSync, sendable}
use denote.Param.SendFields.{declared_send, declared_sync, as_row_send, as_row_sync}
use Rattle.std.proofs.Crossing.{crosses, send, sync, frees}
use Rattle.std.specs.contracts.impls.GlobalAllocator.TheImpl as heap
use Rattle.core.proofs.Crossing as core
use Rattle.pmp_core.specs.contracts.register_file.RegFile as file
use Rattle.pmp_core.specs.contracts.register_file.RegFile.TheInside as file_inside
use Rattle.pmp_core.specs.contracts.saved_registers.SavedRegisters as saved
use Rattle.pmp_map.specs.contracts.run.Run as run
use Rattle.pmp_map.specs.contracts.run_map.RunMap as run_map
use Rattle.pmp_map.specs.contracts.run_map.RunMap.TheInside as map_inside
use Rattle.pmp_map.specs.contracts.tables.Tables as tables
use Rattle.pmp_share.specs.contracts.journal.Journal as journal
use Rattle.pmp_share.specs.contracts.version.Version as version
use Rattle.pmp_share.specs.contracts.digest.Digest as digest
use Rattle.pmp_share.specs.contracts.digest.Digest.TheInside as digest_inside
use Rattle.pmp_share.specs.contracts.reader_state.ReaderState as reader_state
use Rattle.pmp_share.specs.contracts.reader_state.ReaderState.TheInside as reader_state_inside
use Rattle.pmp_share.specs.contracts.checker.Checker as checker
use Rattle.pmp_share.specs.contracts.checker.Checker.TheInside as checker_inside
use Rattle.pmp_share.specs.contracts.notice.Notice as notice
use Rattle.pmp_share.specs.contracts.notice.Notice.TheInside as notice_inside
use Rattle.pmp_share.specs.contracts.history.LawRuleLinkedListEventU64.TheImpl as law
use Rattle.pmp_share.specs.contracts.rule.OneHistoryProtocolVersionKnowledge.TheImpl as rule
use Rattle.logbook.proofs.tokens.Seen.TheSendSync as seen
use Rattle.left_right.specs.contracts.reader.Reader as reader_of
use Rattle.core.specs.contracts.option.Option as option
use Rattle.std.specs.contracts.alloc.Global as global
use Rattle.pmp_share.specs.contracts.knowledge.Known as known
use Rattle.pmp_share.specs.contracts.rule.OneHistory as one_history
use Rattle.left_right.proofs.reader.Reader.TheSendSync as reader

saved_send : IsSend (saved.the_field).row
saved_send = search (crosses, sendable) depth 14

file_fields_send : IsSend file_inside.the_row
file_fields_send = search (saved_send, crosses, sendable) depth 14

pub file_send : IsSend (file.the_field).row
file_send = search (file_fields_send, sendable) depth 14

saved_sync : IsSync (saved.the_field).row
saved_sync = search (crosses, sendable) depth 14

file_fields_sync : IsSync file_inside.the_row
file_fields_sync = search (saved_sync, crosses, sendable) depth 14

file_sync : IsSync (file.the_field).row
file_sync = search (file_fields_sync, sendable) depth 14

journal_sync : IsSync (journal.the_field).row
journal_sync = search (crosses, sendable) depth 16

run_sync : IsSync run.the_row
run_sync = search (crosses, sendable) depth 14

tables_sync : IsSync (tables.the_field).row
tables_sync = search (crosses, sendable) depth 14

map_inside_sync : IsSync map_inside.the_row
map_inside_sync = declared_sync map_inside.the_type (
  search (core.crosses, sendable) depth 12,
  (as_row_sync tables.the_field tables_sync, (search (run_sync, crosses, sendable) depth 12, tt)),
)

map_sync : IsSync (run_map.the_field).row
map_sync = search (map_inside_sync, sendable) depth 6

pub version_sync : IsSync version.the_row
version_sync = declared_sync version.the_type (
  as_row_sync journal.the_field journal_sync,
  (
    as_row_sync file.the_field file_sync,
    (
      as_row_sync run_map.the_field map_sync,
      (seen.the_sync _ _ _ law.ghosts, (search (core.crosses, sendable) depth 12, tt)),
    ),
  ),
)

digest_inside_send : IsSend digest_inside.the_row
digest_inside_send = declared_send digest_inside.the_type (
  as_row_send file.the_field file_send,
  (
    search (as_row_send, sendable) depth 6,
    (
      search (as_row_send, sendable) depth 6,
      (seen.the_send _ _ _ law.ghosts, (search (core.crosses, sendable) depth 12, tt)),
    ),
  ),
)

digest_send : IsSend digest.the_row
digest_send = search (digest_inside_send, sendable) depth 6

reader_send : IsSend (reader_of.the_field version.the_row (option.the_row known.the_row) one_history.the_row
    global.the_row rule.ghosts heap.ghosts).row
reader_send = reader.the_field_send version.the_row (option.the_row known.the_row) one_history.the_row global.the_row
    rule.ghosts heap.ghosts send version_sync sync frees

reader_state_inside_send : IsSend reader_state_inside.the_row
reader_state_inside_send = declared_send reader_state_inside.the_type (
  as_row_send (reader_of.the_field version.the_row (option.the_row known.the_row) one_history.the_row global.the_row
      rule.ghosts heap.ghosts) reader_send,
  (search (digest_send, crosses, sendable) depth 12, tt),
)

reader_state_send : IsSend reader_state.the_row
reader_state_send = search (reader_state_inside_send, sendable) depth 6

checker_inside_send : IsSend checker_inside.the_row
checker_inside_send = declared_send checker_inside.the_type (reader_state_send, tt)

pub checker_send : IsSend checker.the_row
checker_send = search (checker_inside_send, sendable) depth 6

notice_inside_send : IsSend notice_inside.the_row
notice_inside_send = declared_send notice_inside.the_type (reader_state_send, tt)

pub notice_send : IsSend notice.the_row
notice_send = search (notice_inside_send, sendable) depth 6
