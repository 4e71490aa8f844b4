use Rattle.std.proofs.Common.{◌≡◌, ◌+◌, ◌∙◌, ap, arith, inl, inr, refl, sym, fold, take, length, get_or}
use Rattle.std.proofs.lemmas.Bool.{cases_lt}
use Rattle.std.proofs.lemmas.List.{take_all}
use Rattle.std.proofs.lemmas.List.Sums.{fold_more}
use Rattle.pmp_core.specs.declared.csr.Csr.TheVariants.{Cfg}
use Rattle.pmp_core.specs.declared.event.Event.{Event}
use Rattle.pmp_core.specs.declared.event.Event.TheVariants.{Write}
use Rattle.pmp_core.specs.RegisterFile.{RegisterFile}
use Rattle.pmp_core.specs.RegisterWrite.{step}
use Rattle.pmp_plan.proofs.Answering.{first_stays, last_stays}
use Rattle.pmp_plan.proofs.passing.is_safe.Goals as goal

abbrev none : Event
none = Write (Cfg 0) 0

pub loop-event-init : goal.loop-event-init
loop-event-init c = record {
  during = refl;
  safe = λ done few. let zero : done ≡ 0 = omega (arith, few) in rw zero (
      first_stays c.args.watch c.args.start.now (fold step c.args.start.now c.args.writes.now));
}

pub returns-then-not-stays-clause-no : goal.returns-then-not-stays-clause-no
returns-then-not-stays-clause-no c all =
    let writes = c.args.writes.now in
    let index = c.loop-event.event-index in
    let more : c.step.new.self ≡ fold step c.args.start.now (take (index + 1) writes) =
    c.step.ensures.step
    ∙ ap (λ (file : RegisterFile). step file (get_or writes index none)) c.loop-event.invariant.during
    ∙ sym (fold_more step c.args.start.now writes index none c.loop-event-test.true) in
    c.if-not-stays.ensures.no
    (rw (c.registers.ensures.same, c.registers-in-loop-event.ensures.same, c.registers-in-loop-event-2.ensures.same, more, c.run_events.ensures.steps)
    (all (index + 1)))

pub loop-event-preserved : goal.loop-event-preserved
loop-event-preserved c =
    let writes = c.args.writes.now in
    let index = c.loop-event.event-index in
    let more : c.step.new.self ≡ fold step c.args.start.now (take (index + 1) writes) =
    c.step.ensures.step
    ∙ ap (λ (file : RegisterFile). step file (get_or writes index none)) c.loop-event.invariant.during
    ∙ sym (fold_more step c.args.start.now writes index none c.loop-event-test.true) in
    let here =
    rw (c.registers.ensures.same, c.registers-in-loop-event.ensures.same, c.registers-in-loop-event-2.ensures.same, more, c.run_events.ensures.steps)
    at (c.if-not-stays.ensures.yes refl) in
    record {
      during = more;
      safe = λ done few. elim (cases_lt done (index + 1)) [
        | inl before ↦ c.loop-event.invariant.safe done (omega (arith, before))
        | inr last ↦ let now : done ≡ index + 1 = omega (arith, few, last) in rw now here
      ];
    }

pub returns-clause-yes : goal.returns-clause-yes
returns-clause-yes c _ done = elim (cases_lt done (length c.args.writes.now)) [
  | inl before ↦ c.loop-event.invariant.safe done (omega (arith, before, c.loop-event-test.false))
  | inr all ↦ rw (take_all done c.args.writes.now all)
      (last_stays c.args.watch c.args.start.now (fold step c.args.start.now c.args.writes.now))
]
