use Rattle.pmp_share.proofs.RuleFacts.{admits, tells, hears}
use Rattle.pmp_share.proofs.writer_state.WriterState.reader_state.Goals as goal

pub reader-requires : goal.reader-requires
reader-requires c = admits

pub tell-requires : goal.tell-requires
tell-requires c = tells _ _

pub learn-requires-clause-rule : goal.learn-requires-clause-rule
learn-requires-clause-rule c = rw c.in-Ok.ensures.view (hears c.in-Ok.reader.place.id c.tell.result.id _)
