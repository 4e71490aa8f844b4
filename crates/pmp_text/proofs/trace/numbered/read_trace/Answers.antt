use Rattle.std.proofs.Common.{inl, inr, refl}
use Rattle.std.proofs.lemmas.Result.{err_from_is_err_and}
use Rattle.pmp_text.specs.Outcomes.{no_memory}
use Rattle.pmp_text.proofs.trace.numbered.read_trace.Goals as goal

pub returns-in_err-numbered_rows-clause-fault : goal.returns-in_err-numbered_rows-clause-fault
returns-in_err-numbered_rows-clause-fault c =
    let exit = c.from_residual-in_err-numbered_rows in
    let p = err_from_is_err_and exit.result exit.ensures.1 in
    rw (p.1, p.2) (record { first = no_memory; why = inr refl; same = refl })
