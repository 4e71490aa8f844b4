use Rattle.std.proofs.Common.{◌≡◌, List, None, Ok, drop, length, refl, sym, ap, ◌∙◌, arith}
use Rattle.std.proofs.lemmas.List.{drop_all}
use Rattle.pmp_core.specs.declared.event.Event.{Event}
use Rattle.pmp_text.specs.EventLogs.{Kept}
use Rattle.pmp_text.specs.Steps.Cuts.{cut_from}
use Rattle.pmp_text.proofs.Pieces.{last_of_more, one_end_more, rest_is_piece}
use Rattle.pmp_text.proofs.script.progress.OpenBatch.publish.Goals as goal
use Rattle.pmp_text.proofs.script.progress.OpenBatch.publish.Goals.{After-self-2-1}

whole : (g : _) (c : After-self-2-1 g) → length c.events.result.now ≡ length (g.L.EventLog.kept c.args.log.now).events
whole g c =
    ap (λ (es : List Event). length es) c.events.ensures
    ∙ ap (λ (k : Kept). length k.events) c.in_ok-end.ensures.ok

pub returns-clause-open : goal.returns-clause-open
returns-clause-open g c =
    let is = c.requires in
    let kept = g.L.EventLog.kept c.args.log.now in
    let count = whole g c in
    rw (c.in_ok-end.ensures.ok, count) (record {
      ascending = one_end_more (length kept.events) 0 kept.ends is.ascending
          (omega (arith, is.last, is.inside)) (omega (arith, is.last, is.few));
      last = sym (last_of_more (length kept.events) 0 kept.ends);
      inside = omega arith;
      few = omega arith;
      lined = is.lined;
      closed = λ none. refl;
    })

pub returns-clause-published : goal.returns-clause-published
returns-clause-published g c =
    let is = c.requires in
    let kept = g.L.EventLog.kept c.args.log.now in
    let count = whole g c in
    let ended = c.in_ok-end.ensures.ok in
    let end = length kept.events in
    let batches = sym (rest_is_piece kept.events kept.ends c.args.self.now.published end is.last refl)
    ∙ (λ i. cut_from 0 (sym ended i).ends (sym ended i).events) in
    let numbers = sym (rest_is_piece kept.lines kept.ends c.args.self.now.published end is.last (sym is.lined))
    ∙ (λ i. cut_from 0 (sym ended i).ends (sym ended i).lines) in
    let no_events = sym ((λ i. drop (count i) (ended i).events) ∙ drop_all end kept.events (omega arith)) in
    let no_lines = sym ((λ i. drop (count i) (ended i).lines) ∙ drop_all end kept.lines (omega (arith, is.lined))) in
    λ i. Ok (record {
      published = record { batches = batches i; lines = numbers i };
      batch = no_events i;
      lines = no_lines i;
      since = None;
    })
