use Rattle.pmp_map.proofs.Answering.{answered}
use Rattle.pmp_map.proofs.tables.Tables.answer.Goals as goal

pub returns-then-access-self : goal.returns-then-access-self
returns-then-access-self c = λ file are.
    rw c.column_of.ensures.column (answered file c.args.self.now are c.args.access.now c.place_of-place.result
    c.place_of-place.ensures.inside c.place_of-place.ensures.between c.if-access-self.true)
