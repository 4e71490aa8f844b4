use Rattle.std.proofs.Common.{rules}
use Rattle.pmp_map.proofs.Counting.{counted, counted_inside, passed_is}
use Rattle.pmp_map.proofs.search.count_from.Goals as goal

pub returns-clause-inside : goal.returns-clause-inside
returns-clause-inside c = search (rules, counted_inside)

pub returns-clause-between : goal.returns-clause-between
returns-clause-between c = λ rising between. counted _ _ _ _ c.requires rising between _ _ _ _ _
    (passed_is _ _ _ c.from.ensures) (passed_is _ _ _ c.from-2.ensures) (passed_is _ _ _ c.from-3.ensures)
    (passed_is _ _ _ c.from-4.ensures) (passed_is _ _ _ c.from-5.ensures)
