use Rattle.std.proofs.Common.{ap, sym, ◌∙◌, ◌∷◌, ◌++◌, [], drop}
use Rattle.pmp_share.specs.Batches.{Batches}
use Rattle.pmp_share.specs.Known.{known}
use Rattle.pmp_share.specs.WriterStates.{WriterProgress}
use Rattle.pmp_share.specs.Tokens.{unit_with}
use Rattle.pmp_share.proofs.WriterFacts.{handed_more}
use Rattle.pmp_share.proofs.writer_state.WriterState.hand.Goals as goal

pub invariant_of-self : goal.invariant_of-self
invariant_of-self c =
    let inside = c.self-2.inside in
    let state = c.self-2.view_is ∙ c.in_ok-note.ensures.noted in
    let list =
    ap (λ (s : WriterProgress). s.noted) state
    ∙ ap (λ (b : Batches). b ++ c.extend_from_slice.new.self.items ∷ [])
    (sym (ap (λ (s : WriterProgress). s.handed) state)) in
    rw c.append.ensures.desk
    (handed_more (known (unit_with inside.recorder.book inside.base.value) inside.recorder.list) _ _ _
    (drop inside.writer.behind inside.writer.log.items) _ _ c.self-2.invariant c.in-Ok.ensures.pending
    c.history-history.ensures.1 (ap (λ book. unit_with book inside.base.value) c.history-history.ensures.0) list)
