use Rattle.std.proofs.Common.{◌≡◌, ◌+◌, rules}
use Rattle.pmp_core.specs.declared.decision.Cause.{Cause}
use Rattle.pmp_core.specs.RegisterFile.{HasAddresses}
use Rattle.pmp_core.proofs.Decisions.{IsCause, cause_is}
use Rattle.pmp_core.proofs.Legal.{legal_addresses}
use Rattle.pmp_map.proofs.RangeRights.{rights_of_none, rights_of_rule, rights_of_split}
use Rattle.pmp_map.proofs.range_rights.rights_in.Goals as goal
use Rattle.pmp_map.proofs.range_rights.rights_in.Goals.{After-cause}

module _ (c : After-cause) where
  small : HasAddresses c.args.registers.now
  small = legal_addresses c.args.registers.now c.cause.ensures.legal

  decided : (cause : Cause) → c.cause.result ≡ cause
      → IsCause c.args.registers.now c.args.start (c.args.start + c.args.length) cause
  decided cause is = search (rules, cause_is, small)

pub returns-in-Rule : goal.returns-in-Rule
returns-in-Rule c =
    let a = (goal.at.returns-in-Rule c).After-cause in
    rw (c.rights.ensures, c.from.ensures) (rights_of_rule c.args.registers.now (small a) c.args.mode c.args.start
    c.args.length c.requires.full c.in-Rule.entry (decided a _ c.in-Rule.is))

pub returns-in-Split : goal.returns-in-Split
returns-in-Split c =
    let a = (goal.at.returns-in-Split c).After-cause in
    rights_of_split c.args.registers.now (small a) c.args.mode c.args.start c.args.length c.requires.full
    c.in-Split.field-0 (decided a _ c.in-Split.is)

pub returns-in-NoMatch : goal.returns-in-NoMatch
returns-in-NoMatch c =
    let a = (goal.at.returns-in-NoMatch c).After-cause in
    rw c.default_rights.ensures (rights_of_none c.args.registers.now (small a) c.args.mode c.args.start c.args.length
    c.requires.full (decided a _ c.in-NoMatch.is))
