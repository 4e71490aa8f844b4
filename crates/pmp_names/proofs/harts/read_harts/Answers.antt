use Rattle.std.proofs.Common.{◌∙◌, sym, arith}
use Rattle.std.proofs.lemmas.Bool.{eqb-false}
use Rattle.pmp_names.proofs.Lists.{are_harts}
use Rattle.pmp_names.proofs.harts.read_harts.Goals as goal

pub returns-clause-ok : goal.returns-clause-ok
returns-clause-ok c =
    let harts = c.in_ok-harts.harts in
    let some = eqb-false _ _ (sym c.is_empty.ensures ∙ c.if-is_empty.false) in
    are_harts _ harts.items c.sort_unstable.new.self.items c.in_ok-harts.ensures.ok (omega (arith, some, harts.ok.0))
    (omega (arith, c.if-len-gt-HARTS.false, harts.ok.0))
    c.sort_unstable.ensures.permutation c.sort_unstable.ensures.sorted
