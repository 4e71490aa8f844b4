use Rattle.std.proofs.Common.{sym, subst, ◌∙◌}
use Rattle.pmp_core.specs.RegisterFile.{RegisterFile}
use Rattle.pmp_map.specs.Tables.{AreTables}
use Rattle.pmp_map.proofs.run_map.RunMap.build.Goals as goal

pub invariant_of-result : goal.invariant_of-result
invariant_of-result c =
    let are : AreTables c.of.result.value c.fill.new.self = subst (λ (f : RegisterFile). AreTables f c.fill.new.self)
    (c.registers.ensures.same ∙ sym c.of.ensures) c.fill.ensures in
    record { tables_are = are; runs_are = c.list.ensures c.of.result.value are }
