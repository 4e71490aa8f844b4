use Rattle.std.proofs.Common.{sym, ◌∙◌, drop}
use Rattle.pmp_share.specs.Known.{known}
use Rattle.pmp_share.specs.WriterStates.{after}
use Rattle.pmp_share.specs.Tokens.{unit_with}
use Rattle.pmp_share.proofs.RuleFacts.{shows_told}
use Rattle.pmp_share.proofs.WriterFacts.{turned_or_not}
use Rattle.pmp_share.proofs.writer_state.WriterState.turn.Goals as goal

pub publish_as-writer-requires : goal.publish_as-writer-requires
publish_as-writer-requires g c next is =
    let writer = c.self.inside.writer in
    let was = c.self.invariant in
    shows_told _ _ writer.desk.shown.value (after writer.desk.shown.value (drop writer.behind writer.log.items))
    (was.next_unit ∙ sym was.unit) was.next_noted was.begins next is

pub invariant_of-state : goal.invariant_of-state
invariant_of-state g c =
    let writer = c.self.inside.writer in
    let next = c.publish_as-writer.result.0 in
    let recorder = c.self.inside.recorder in
    turned_or_not c.publish_as-writer.result.1 (known (unit_with recorder.book c.self.inside.base.value) recorder.list)
    c.self.inside.ahead _ _ writer.desk.shown.value _ (drop writer.behind writer.log.items)
    (drop next.behind next.log.items) c.self.invariant c.publish_as-writer.ensures.values
    c.publish_as-writer.ensures.rule
