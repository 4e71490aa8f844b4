use Rattle.pmp_share.proofs.RuleFacts.{looks}
use Rattle.pmp_share.proofs.reader_state.ReaderState.asked.Goals as goal

pub enter_as-requires : goal.enter_as-requires
enter_as-requires g c = looks c.self.inside.reader.place.id _
