use Rattle.std.proofs.Common.{◌-◌}
use Rattle.pmp_core.specs.declared.access.TheConstants.{ADDRESS_LIMIT}
use Rattle.pmp_audit.specs.PolicyDraft.{last_word}
use Rattle.pmp_audit.proofs.DraftSteps.{AreAppendedTo}
use Rattle.pmp_audit.proofs.policy_draft.append_kind.Given as goal

-- the rows of the ranges before `from`
abbrev pub invariant-loop-range : goal.invariant-loop-range
invariant-loop-range g l =
    AreAppendedTo l.file (last_word l.moment.has_names l.moment.publications) l.mode l.kind (g.S.Sink.text l.fn.out)
    l.from (g.S.Sink.text l.out)

abbrev pub decreases-loop-range : goal.decreases-loop-range
decreases-loop-range g l = ADDRESS_LIMIT - l.from
