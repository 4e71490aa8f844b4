use Rattle.pmp_map.proofs.run_map.RunMap.rights.Goals as goal

pub returns : goal.returns
returns c = rw (← c.self.view_is) (c.rights.ensures c.self.inside.file.value c.self.invariant.tables_are)
