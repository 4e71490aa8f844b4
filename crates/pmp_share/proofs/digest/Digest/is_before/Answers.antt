use Rattle.std.proofs.Common.{subst, sym, ap, ◌∙◌}
use mathlib.Core.List.{IsPrefix}
use Rattle.pmp_share.specs.declared.knowledge.Known.{Known}
use Rattle.pmp_share.specs.Batches.{Batches}
use Rattle.pmp_share.proofs.LookFacts.{later_begins}
use Rattle.pmp_share.proofs.digest.Digest.is_before.Goals as goal

pub returns-clause-begins : goal.returns-clause-begins
returns-clause-begins c =
    let both : Batches = c.learn.new.self.log in
    let own = c.self.invariant.log_is ∙ ap (λ (it : Known). it.list) c.self.view_is in
    let others = c.other.invariant.log_is ∙ ap (λ (it : Known). it.list) c.other.view_is in
    later_begins c.args.self.now.list c.args.other.now.list both
    (subst (λ (b : Batches). IsPrefix b both) (ap (λ history. history.log) c.again-both.ensures ∙ own) c.learn.ensures.2)
    (subst (λ (b : Batches). IsPrefix b both) others c.learn.ensures.3) c.is_as_late.result (sym c.is_as_late.ensures)
