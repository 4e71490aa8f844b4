use Rattle.std.proofs.Common.{sym, refl, ◌∙◌, ap}
use Rattle.pmp_core.specs.declared.hart.Profile.{Profile}
use Rattle.pmp_core.specs.SavedRegisters.{hart_number}
use Rattle.pmp_core.proofs.hart.Hart.number.Goals as goal

pub returns-then-is_usual : goal.returns-then-is_usual
unfolding hart_number
returns-then-is_usual c = rw (sym c.is_usual.ensures ∙ c.if-is_usual.true)
    (c.from-entries.ensures ∙ ap (λ (p : Profile). p.entries) c.self.view_is)

pub returns-else-is_usual : goal.returns-else-is_usual
unfolding hart_number
returns-else-is_usual c = rw (
  sym c.is_usual.ensures ∙ c.if-is_usual.false,
  c.from-entries.ensures,
  c.from.ensures,
  c.from-smepmp.ensures,
  c.from-rv32.ensures,
  c.from-grain.ensures,
  ← c.self.view_is,
) refl
