use Rattle.std.proofs.Common.{◌≡◌, ◌||◌, ◌-◌, ◌<◌, ◌∙◌, arith}
use Rattle.pmp_core.proofs.FlaggedReasons.{reasons_at}
use Rattle.pmp_core.proofs.registers.Registers.has_reason.Goals as goal

pub returns-in-Some : goal.returns-in-Some
returns-in-Some c =
    let found = c.entry_reasons-found.result in
    let low = c.in-Some.ensures.0 in
    let place : c.in-Some.place ≡ c.args.index - found.first = c.in-Some.ensures.1 in
    let near : c.in-Some.place < 8 = c.if-place-lt8.true in
    (λ p. (((c.is_set.ensures p || c.is_set-in-Some.ensures p) || c.is_set-in-Some-2.ensures p)
    || c.is_set-in-Some-3.ensures p) || c.is_set-in-Some-4.ensures p)
    ∙ rw place (reasons_at found c.args.self.now c.args.csr c.args.value c.args.index c.entry_reasons-found.ensures low
    (omega (arith, low, place, near)) c.requires)
