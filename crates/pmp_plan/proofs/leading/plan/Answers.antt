use Rattle.std.proofs.Common.{rules, inl, inr, refl}
use Rattle.std.proofs.lemmas.Bool.{false≢true}
use Rattle.pmp_plan.proofs.EasyWays.{leads_at_once, leads_plainly}
use Rattle.pmp_plan.proofs.Exits.{err_returned}
use Rattle.pmp_plan.proofs.leading.plan.Goals.{else-is_reset-via-then-is_reset+else-leads-2, else-is_reset-via-else-is_reset}
use Rattle.pmp_plan.proofs.leading.plan.Goals as goal

pub returns-in_err-planned-clause-err : goal.returns-in_err-planned-clause-err
returns-in_err-planned-clause-err c =
    err_returned _ _ c.from_residual.ensures.1
    (inl (rw (c.hart.ensures, c.lasting.ensures) at c.in_err-planned.ensures.err))

pub returns-in_default-clause-err : goal.returns-in_default-clause-err
returns-in_default-clause-err c =
    let start = c.args.start.now in
    let aim = c.args.aim in
    let rows = c.args.rows.now in
    let planned = c.in_ok-planned.planned in
    let made = rw (c.hart.ensures, c.lasting.ensures) at c.in_ok-planned.ensures.made in
    inr (
      c.from.ensures,
      record {
        sound = rw (c.hart.ensures, c.lasting.ensures) at c.in_ok-planned.ensures.sound;
        unmet = λ met. false≢true (c.if-leads.ensures.no (leads_at_once start aim rows met));
        bound = λ plain. elim c.else-is_reset.branch [
          | else-is_reset-via-then-is_reset+else-leads-2 w ↦
              let leads = leads_plainly start aim rows planned.writes.items c.in_ok-planned.ensures.few made plain in
              false≢true (w.if-leads-2.ensures.no (rw w.deref.ensures.0 leads))
          | else-is_reset-via-else-is_reset w ↦ search (rules, plain.reset)
        ];
      },
    )
