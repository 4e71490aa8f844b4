use Rattle.std.proofs.Common.{◌∙◌, sym}
use Rattle.pmp_names.proofs.Lists.{same_harts, same_names}
use Rattle.pmp_names.proofs.harts.are_same.Goals as goal

pub returns : goal.returns
returns c = (
  λ same. same_names c.args.first.now c.args.second.now (sym c.eq.ensures ∙ same),
  λ same. c.eq.ensures ∙ same_harts c.args.first.now c.args.second.now same,
)
