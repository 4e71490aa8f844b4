use Rattle.std.proofs.Common.{◌≡◌, ◌∙◌, sym, ap, arith, fold, length, take, ℕ}
use Rattle.std.proofs.lemmas.List.{length-take-le}
use Rattle.pmp_core.specs.Histories.{joined}
use Rattle.pmp_core.specs.RegisterFile.{RegisterFile}
use Rattle.pmp_core.specs.RegisterWrite.{step}
use Rattle.pmp_web.proofs.FirstEvents.{first_below, first_events}
use Rattle.pmp_web.proofs.plans.file_of.Goals as goal

pub slice_bounds-run_events-end : goal.slice_bounds-run_events-end
slice_bounds-run_events-end c =
    let below = first_below c.args.script.now.batches c.args.done in
    let whole = ap length c.events.ensures in
    sym (length-take-le c.events_before-count.result c.events.result.now
    (omega (arith, c.events_before-count.ensures, below, whole)))

pub returns : goal.returns
returns c =
    let batches = c.args.script.now.batches in
    let first = joined (take c.args.done batches) in
    let events : take c.events_before-count.result c.events.result.now ≡ first =
    ap (λ (count : ℕ). take count c.events.result.now) c.events_before-count.ensures
    ∙ ap (take (length first)) c.events.ensures ∙ first_events batches c.args.done in
    c.run_events.ensures.steps ∙ ap (fold step c.start-file.result) events
    ∙ ap (λ (file : RegisterFile). fold step file first) c.start-file.ensures
