use Rattle.std.proofs.Common.{[], ◌∷◌, Some, Ok, drop, sym, ap, ◌∙◌, arith}
use Rattle.std.proofs.lemmas.List.{drop-append-le}
use Rattle.pmp_text.specs.EventLogs.{Kept}
use Rattle.pmp_text.specs.Steps.Cuts.{cut_from}
use Rattle.pmp_text.proofs.Pieces.{same_pieces}
use Rattle.pmp_text.proofs.script.progress.OpenBatch.add.Goals as goal

pub returns-clause-added : goal.returns-clause-added
returns-clause-added g c =
    let is = c.requires.open in
    let kept = g.L.EventLog.kept c.args.log.now in
    let published = c.args.self.now.published in
    let pushed = c.in_ok-push.ensures.ok in
    let batches = sym ((λ i. cut_from 0 (pushed i).ends (pushed i).events)
    ∙ same_pieces kept.events (c.args.event ∷ []) 0 kept.ends is.ascending (omega (arith, is.last, is.inside))) in
    let numbers = sym ((λ i. cut_from 0 (pushed i).ends (pushed i).lines)
    ∙ same_pieces kept.lines (c.args.line ∷ []) 0 kept.ends is.ascending (omega (arith, is.last, is.inside, is.lined))) in
    let batch = sym (ap (λ (k : Kept). drop published k.events) pushed
    ∙ drop-append-le published kept.events (c.args.event ∷ []) is.inside) in
    let own_lines = sym (ap (λ (k : Kept). drop published k.lines) pushed
    ∙ drop-append-le published kept.lines (c.args.line ∷ []) (omega (arith, is.inside, is.lined))) in
    λ i. Ok (record {
      published = record { batches = batches i; lines = numbers i };
      batch = batch i;
      lines = own_lines i;
      since = Some (sym c.unwrap_or.ensures i);
    })
