use Rattle.std.proofs.Common.{◌≡◌, subst, ◌∙◌, rules}
use Rattle.pmp_core.specs.Decision.{IsDecision}
use Rattle.pmp_core.specs.Ranges.{decision_of}
use Rattle.pmp_core.specs.RegisterFile.{RegisterFile}
use Rattle.pmp_core.proofs.Decisions.{decided_by_ranges}
use Rattle.pmp_core.proofs.Legal.{legal_addresses}
use Rattle.pmp_map.proofs.Entries.{byte_cause}
use Rattle.pmp_map.proofs.run_map.RunMap.decide.Goals as goal
use Rattle.pmp_map.proofs.run_map.RunMap.decide.Goals.{After-decision}

module _ (c : After-decision) where
  abbrev file : RegisterFile
  file = c.self.inside.file.value

  decided : c.decision.result ≡ decision_of file c.args.access.now
  decided = c.decision.ensures c.args.access.now (decision_of file c.args.access.now)
      (byte_cause file c.args.access.now c.self.invariant.tables_are.legal)
      (c.answer.ensures file c.self.invariant.tables_are)

  same : file ≡ c.args.file.now
  same = c.self.view_is ∙ c.requires

pub returns-clause-by_bytes : goal.returns-clause-by_bytes
returns-clause-by_bytes c =
    let a = (goal.at.returns-clause-by_bytes c).After-decision in
    rw (decided a) (subst (λ (f : RegisterFile). IsDecision f c.args.access.now (decision_of (file a) c.args.access.now)) (same a)
    (decided_by_ranges (file a) c.args.access.now (legal_addresses (file a) c.self.invariant.tables_are.legal)))

pub returns-clause-computed : goal.returns-clause-computed
returns-clause-computed c = search (rules, decided, same)
