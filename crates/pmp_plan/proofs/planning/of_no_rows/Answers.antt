use Rattle.pmp_core.specs.declared.hart.Profile.{Profile}
use Rattle.pmp_plan.proofs.NoRows.{few_without_rows, made_without_rows}
use Rattle.pmp_plan.proofs.planning.of_no_rows.Goals as goal

pub returns-clause-made : goal.returns-clause-made
returns-clause-made c count some =
    let of : Profile = record c.args.hart { entries = count } in
    rw c.security_writes.ensures (made_without_rows of some c.args.security c.requires.kept)

pub returns-clause-few : goal.returns-clause-few
returns-clause-few c = rw c.security_writes.ensures (few_without_rows c.args.security)
