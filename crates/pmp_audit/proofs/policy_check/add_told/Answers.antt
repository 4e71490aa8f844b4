use Rattle.std.proofs.Common.{◌+◌, map, refl}
use Rattle.std.specs.Prelude.{slice_get}
use Rattle.pmp_text.specs.declared.lines.verdict.Verdict.TheVariants.{Broken, Holds, Unmet}
use Rattle.pmp_text.specs.Labels.{label_text}
use Rattle.pmp_audit.specs.PolicyRows.{IsToldOf}
use Rattle.pmp_audit.proofs.PolicyTold.{one_told, some_told}
use Rattle.pmp_audit.proofs.policy_check.add_told.Goals as goal

pub returns-in_ok-all-in-All-Broken-clause-ok : goal.returns-in_ok-all-in-All-Broken-clause-ok
returns-in_ok-all-in-All-Broken-clause-ok g c =
    let telling = c.args.telling.now in
    let all = c.in_ok-all-in-All-Broken.all.items in
    some_told g.R.RowSink.Adds (IsToldOf telling.breaches telling.steps.pace telling.steps.script.now c.args.one.now)
    (c.args.index + 1) (slice_get (map label_text telling.labels.now) c.args.index) c.args.out.now
    c.add_breaches.new.out (map Broken all) c.add_breaches.result
    (rw (c.in-All-Broken.is-0, ← c.told.ensures, c.in-All-Broken.is-1) (all, c.in_ok-all-in-All-Broken.ensures, refl))
    (rw (c.deref.ensures.value, c.label_at-label.ensures) at c.add_breaches.ensures.ok)

pub returns-in-All-Holds-clause-ok : goal.returns-in-All-Holds-clause-ok
returns-in-All-Holds-clause-ok g c =
    let telling = c.args.telling.now in
    one_told g.R.RowSink.Adds (IsToldOf telling.breaches telling.steps.pace telling.steps.script.now c.args.one.now)
    (c.args.index + 1) (slice_get (map label_text telling.labels.now) c.args.index) c.args.out.now c.add_verdict.new.out
    Holds c.add_verdict.result (rw (c.in-All-Holds.is-0, ← c.told.ensures, c.in-All-Holds.is-1) refl)
    (rw c.label_at-label.ensures at c.add_verdict.ensures.ok)

pub returns-in-All-Unmet-clause-ok : goal.returns-in-All-Unmet-clause-ok
returns-in-All-Unmet-clause-ok g c =
    let telling = c.args.telling.now in
    one_told g.R.RowSink.Adds (IsToldOf telling.breaches telling.steps.pace telling.steps.script.now c.args.one.now)
    (c.args.index + 1) (slice_get (map label_text telling.labels.now) c.args.index) c.args.out.now
    c.add_verdict-in-All-Unmet.new.out (Unmet c.in-All-Unmet.is_waived) c.add_verdict-in-All-Unmet.result
    (rw (c.in-All-Unmet.is-0, ← c.told.ensures, c.in-All-Unmet.is-1) refl)
    (rw c.label_at-label.ensures at c.add_verdict-in-All-Unmet.ensures.ok)

pub returns-in-First-default-clause-ok : goal.returns-in-First-default-clause-ok
returns-in-First-default-clause-ok g c =
    let telling = c.args.telling.now in
    one_told g.R.RowSink.Adds (IsToldOf telling.breaches telling.steps.pace telling.steps.script.now c.args.one.now)
    (c.args.index + 1) (slice_get (map label_text telling.labels.now) c.args.index) c.args.out.now
    c.add_verdict-in-First-default.new.out c.told.result c.add_verdict-in-First-default.result
    (rw (c.in-First-default.is-0, ← c.told.ensures) refl)
    (rw c.label_at-label.ensures at c.add_verdict-in-First-default.ensures.ok)
