use Rattle.std.proofs.Common.{refl}
use Rattle.std.proofs.lemmas.Result.{err_from_is_err_and}
use Rattle.pmp_tool.specs.HartImports.{of_hart, unkept}
use Rattle.pmp_tool.proofs.hart_imports.add_hart.Goals as goal

pub returns-in-Err-clause-err : goal.returns-in-Err-clause-err
returns-in-Err-clause-err g c =
    rw c.in_memory.ensures (of_hart c.args.hart _ _ (rw c.new-text.ensures.items at c.in-Err.ensures.err))

pub returns-in_err-keep-clause-err : goal.returns-in_err-keep-clause-err
returns-in_err-keep-clause-err g c =
    let p = err_from_is_err_and c.from_residual.result c.from_residual.ensures.1 in
    rw (p.1, p.2) unkept

pub returns-clause-ok : goal.returns-clause-ok
returns-clause-ok g c =
    let wrote = rw c.new-text.ensures.items at c.in-Ok.ensures.ok in
    record {
      script = record { hart = c.args.hart; text = c.write_import.new.out };
      hart_is = refl;
      of = record { note = c.in-Ok.field-0; says = rw wrote.written wrote.says };
      items = c.in_ok-keep.ensures;
    }
