use Rattle.pmp_map.proofs.Answering.{run_found}
use Rattle.pmp_map.proofs.RangeRights.{run_around}
use Rattle.pmp_map.proofs.tables.Tables.run_of.Goals as goal

pub returns : goal.returns
returns c = λ file are.
    let place = c.place_of.result in
    let at = run_found file c.args.self.now are c.args.byte place c.requires c.place_of.ensures.inside
    c.place_of.ensures.between in
    rw (c.run_at.ensures file are at.inside) (run_around file are.list are.runs_are c.args.byte place at)
