use Rattle.std.proofs.Common.{◌≡◌, ◌+◌, ◌++◌, [], ◌∷◌, List, take, ap, ◌∙◌, arith, sym}
use Rattle.std.proofs.lemmas.List.{take_more}
use Rattle.std.proofs.lemmas.Result.{err_from_is_err_and}
use Rattle.pmp_core.specs.declared.event.Event.{Event}
use Rattle.pmp_share.specs.Batches.{Batches}
use Rattle.pmp_share.specs.Tokens.{PublisherToken, UnitId}
use Rattle.pmp_audit.proofs.DecidedRows.{none_decided, decided_next, all_decided, room_for}
use Rattle.pmp_audit.proofs.Stopping.{stops_after}
use Rattle.pmp_audit.proofs.shared_audit.deciding.decide_rows.Goals as goal

pub loop-index-init : goal.loop-index-init
loop-index-init g c =
    let script = c.args.script.now in
    let rows = c.args.rows.now in
    let same = c.decide_asking.ensures.same in
    let start = none_decided script rows c.requires.order in
    record {
      published = ap (λ (p : PublisherToken). p.published) same ∙ c.requires.published;
      pending = ap (λ (p : PublisherToken). p.pending) same ∙ c.requires.pending;
      unit = ap (λ (p : PublisherToken). p.unit) same;
      checkers = c.in_ok-decide_asking.ensures.ok.0;
      decided = decided_next script rows 0 c.args.unit.now.publisher.unit.base c.args.unit.now.publisher.published []
          c.decide_asking.new.unit.decided.items start c.requires.base c.requires.published
          (rw c.clear.ensures.items at c.in_ok-decide_asking.ensures.ok.1);
    }

pub publish-requires-clause-room : goal.publish-requires-clause-room
publish-requires-clause-room g c =
    room_for c.args.script.now c.loop-index.index c.loop-index.unit.publisher.published c.batch.result.now
    c.requires.size (omega (arith, c.batches-index-end.ensures)) c.loop-index.invariant.published c.batch.ensures.events

pub loop-index-preserved : goal.loop-index-preserved
loop-index-preserved g c =
    let script = c.args.script.now in
    let rows = c.args.rows.now in
    let at = c.loop-index in
    let same = c.decide_asking-in-loop-index.ensures.same in
    let batch = c.batch.result.now in
    let done : c.publish.new.publisher.published ≡ take (at.index + 1) script.batches =
    c.in_ok-publish.ensures.published ∙ ap (λ (p : Batches). p ++ batch ∷ []) at.invariant.published
    ∙ ap (λ (b : List Event). take at.index script.batches ++ b ∷ []) c.batch.ensures.events
    ∙ sym (take_more script.batches at.index [] (omega (arith, c.batches-index-end.ensures))) in
    let unit : c.publish.new.publisher.unit ≡ c.args.unit.now.publisher.unit =
    c.publish.ensures.unit ∙ at.invariant.unit in
    let checkers = c.in_ok-decide_asking-2.ensures.ok.0 in
    record {
      published = ap (λ (p : PublisherToken). p.published) same ∙ done;
      pending = ap (λ (p : PublisherToken). p.pending) same ∙ c.in_ok-publish.ensures.alone;
      unit = ap (λ (p : PublisherToken). p.unit) same ∙ unit;
      checkers = rw (unit, at.invariant.checkers.many) at checkers;
      decided = decided_next script rows (at.index + 1) c.publish.new.publisher.unit.base
          c.publish.new.publisher.published at.unit.decided.items c.decide_asking-in-loop-index.new.unit.decided.items
          at.invariant.decided (ap (λ (u : UnitId). u.base) unit ∙ c.requires.base) done
          c.in_ok-decide_asking-2.ensures.ok.1;
    }

pub returns-clause-decided : goal.returns-clause-decided
returns-clause-decided g c =
    all_decided c.args.script.now c.args.rows.now (c.loop-index.index + 1) c.loop-index.unit.decided.items
    (omega (arith, c.batches-index-end.ensures)) c.loop-index.invariant.decided

pub returns-in_err-decide_asking-2-clause-refused : goal.returns-in_err-decide_asking-2-clause-refused
returns-in_err-decide_asking-2-clause-refused g c =
    let script = c.args.script.now in
    let at = c.loop-index in
    let batch = c.batch.result.now in
    let done : c.publish.new.publisher.published ≡ take (at.index + 1) script.batches =
    c.in_ok-publish.ensures.published ∙ ap (λ (p : Batches). p ++ batch ∷ []) at.invariant.published
    ∙ ap (λ (b : List Event). take at.index script.batches ++ b ∷ []) c.batch.ensures.events
    ∙ sym (take_more script.batches at.index [] (omega (arith, c.batches-index-end.ensures))) in
    let exit = c.from_residual-in_err-decide_asking-2 in
    let p = err_from_is_err_and exit.result exit.ensures.1 in
    rw (p.1, p.2) (stops_after script.batches c.publish.new.publisher.published c.args.rows.now (at.index + 1) done
    c.in_err-decide_asking-2.field-0.0 c.in_err-decide_asking-2.ensures.err.0 c.in_err-decide_asking-2.ensures.err.1)

pub returns-in_err-decide_asking-clause-refused : goal.returns-in_err-decide_asking-clause-refused
returns-in_err-decide_asking-clause-refused g c =
    let p = err_from_is_err_and c.from_residual.result c.from_residual.ensures.1 in
    let why = c.in_err-decide_asking.ensures.err in
    rw (p.1, p.2) (stops_after c.args.script.now.batches c.args.unit.now.publisher.published c.args.rows.now 0
    c.requires.published c.in_err-decide_asking.field-0.0 why.0 why.1)
