use Rattle.std.proofs.Common.{◌≡◌, ◌∙◌, sym, ap, arith}
use Rattle.pmp_core.specs.Histories.{joined}
use Rattle.pmp_share.specs.Batches.{StartsWith, event_count, file_from}
use Rattle.pmp_share.specs.Tokens.{UnitId}
use Rattle.pmp_share.proofs.LookFacts.{starts_on}
use Rattle.pmp_audit.proofs.shared_audit.working.ask.Goals as goal
use Rattle.pmp_audit.proofs.shared_audit.working.ask.Goals.{After-decide_at}

begins : (c : After-decide_at) → StartsWith c.decide_at.new.self.list c.requires.told
begins c = starts_on _ _ c.requires.told c.decide_at.ensures.look.begins c.requires.begins

pub returns-clause-decided : goal.returns-clause-decided
returns-clause-decided c =
    let told = c.requires.told in
    let new = c.decide_at.new.self.list in
    let count : event_count new ≡ event_count told = c.in_ok-decision.ensures.at_len.0 ∙ c.requires.counted in
    let same : joined new ≡ joined told =
    c.law_same_events.ensures new told (begins (goal.at.returns-clause-decided c).After-decide_at) count in
    rw (c.requires.replayed, ← same, ← c.decide_at.ensures.look.unit) c.in_ok-decision.ensures.computed

pub returns-clause-learnt : goal.returns-clause-learnt
returns-clause-learnt c = record {
  told = c.requires.told;
  begins = begins (goal.at.returns-clause-learnt c).After-decide_at;
  counted = c.requires.counted;
  replayed = c.requires.replayed
      ∙ ap (λ (unit : UnitId). file_from unit.base c.requires.told) (sym c.decide_at.ensures.look.unit);
  reached = omega (arith, c.in_ok-decision.ensures.at_len.0);
}
