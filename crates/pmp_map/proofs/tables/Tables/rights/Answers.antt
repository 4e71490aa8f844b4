use Rattle.std.proofs.Common.{arith}
use Rattle.pmp_core.specs.RegisterFile.{RegisterFile}
use Rattle.pmp_map.specs.Runs.{map_run}
use Rattle.pmp_map.specs.Tables.{AreTables}
use Rattle.pmp_map.proofs.Answering.{run_found}
use Rattle.pmp_map.proofs.RangeRights.{mixed_rights, whole_rights_at}
use Rattle.pmp_map.proofs.Starts.{IsPlaceOf}
use Rattle.pmp_map.proofs.tables.Tables.rights.Goals as goal
use Rattle.pmp_map.proofs.tables.Tables.rights.Goals.{After-place_of-place}

at : (c : After-place_of-place) (file : RegisterFile) (are : AreTables file c.args.self.now)
    → IsPlaceOf are.list c.args.start c.place_of-place.result
at c file are =
    let full = c.requires.full in
    let ends = c.requires.inside in
    run_found file c.args.self.now are c.args.start c.place_of-place.result (omega arith) c.place_of-place.ensures.inside
    c.place_of-place.ensures.between

pub returns-then-start-length : goal.returns-then-start-length
returns-then-start-length c = λ file are.
    let place = c.place_of-place.result in
    let here = at (goal.at.returns-then-start-length c).After-place_of-place file are in
    rw (c.row_rights.ensures file (map_run are.list place).owner (are.rows_are place here.inside))
    (whole_rights_at file c.args.self.now are c.args.start place here c.args.mode c.args.length c.requires.full c.requires.inside
    c.if-start-length.true)

pub returns-else-start-length : goal.returns-else-start-length
returns-else-start-length c = λ file are.
    mixed_rights file c.args.self.now are c.args.start c.place_of-place.result
    (at (goal.at.returns-else-start-length c).After-place_of-place file are) c.args.mode c.args.length c.requires.full
    c.requires.inside c.if-start-length.false
