-- What a later look tells of an earlier one.
use Rattle.std.proofs.Common.{◌≡◌, ◌++◌, drop, fold, sym, ap, ◌∙◌}
use Rattle.std.proofs.lemmas.Grind.{fold-append}
use Rattle.std.proofs.Math.Seq.{drop-append_seam}
use Rattle.pmp_core.specs.RegisterWrite.{step}
use Rattle.pmp_core.specs.Histories.{joined}
use Rattle.pmp_core.specs.LockLaw.{LockLaw}
use Rattle.pmp_share.specs.Batches.{Batches, event_count, file_from}
use Rattle.pmp_share.specs.Laws.{further_events, FurtherEventsLaw, LaterLookLaw}
use Rattle.pmp_share.proofs.JournalFacts.{joined-append}

further : (batches front rest : Batches) → batches ≡ front ++ rest → further_events batches front ≡ joined rest
further batches front rest e =
    ap (λ (b : Batches). drop (event_count front) (joined b)) e
    ∙ ap (drop (event_count front)) (joined-append front rest)
    ∙ drop-append_seam (joined front) (joined rest)

pub further_events_law : FurtherEventsLaw
further_events_law base batches front (rest, e) =
    ap (file_from base) e ∙ ap (fold step base) (joined-append front rest)
    ∙ fold-append step base (joined front) (joined rest)
    ∙ ap (fold step (file_from base front)) (sym (further batches front rest e))

pub later_look_law : LockLaw → LaterLookLaw
later_look_law locks base later earlier starts i frozen writes = rw (further_events_law base later earlier starts)
    (locks (file_from base earlier) i (further_events later earlier) frozen writes)
