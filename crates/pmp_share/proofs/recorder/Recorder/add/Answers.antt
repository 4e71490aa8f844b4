use Rattle.std.proofs.Common.{◌≡◌, sym, ◌∙◌, ap, length}
use Rattle.pmp_share.proofs.Adding.{adds_moves}
use Rattle.pmp_share.proofs.recorder.Recorder.add.Goals as goal

pub compare_exchange-found-requires : goal.compare_exchange-found-requires
compare_exchange-found-requires c =
    let head = c.self.invariant.1 in
    let offer = c.plain-offer.ensures in
    let pen = c.no_pen-pen.ensures in
    let history = c.again-history.ensures in
    let counted : length c.again-history.result.log ≡ c.self.inside.count =
    ap (λ history. length history.log) history ∙ sym c.self.invariant.0 in (
      ap (λ w. w.tracked) head,
      ap (λ history. history.book) history ∙ sym (ap (λ w. w.book) head),
      pen.0 ∙ (ap (λ history. history.book) history ∙ sym (ap (λ w. w.book) head)),
      offer.0,
      rw (ap (λ w. w.key) head, pen.1, offer.1, offer.3)
          (adds_moves c.again-history.result.log c.args.batch.now.items c.self.inside.count c.in-Some.next
          counted c.in-Some.ensures.1),
    )
