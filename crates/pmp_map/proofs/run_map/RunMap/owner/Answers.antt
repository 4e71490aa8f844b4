use Rattle.pmp_map.proofs.run_map.RunMap.owner.Goals as goal

pub returns : goal.returns
returns c =
    let run = c.run_of.ensures c.self.inside.file.value c.self.invariant.tables_are in
    rw (← c.self.view_is) (run.owned c.args.byte run.here)
