use Rattle.std.proofs.Common.{◌∙◌, ap, Some, slice_set}
use Rattle.pmp_core.specs.RegisterFile.{RegisterFile}
use Rattle.pmp_core.specs.declared.saved_registers.SavedRegisters.{SavedRegisters}
use Rattle.pmp_map.specs.Answers.{rights_by}
use Rattle.pmp_plan.proofs.Rules.{has_entries, set_first, sixteen, stored_rights}
use Rattle.pmp_plan.proofs.choices.rights_by.Goals as goal

pub of_owner-requires : goal.of_owner-requires
of_owner-requires c =
    let reset = c.reset_on-saved.result in
    let saved : SavedRegisters = record reset {
      mseccfg = c.value.result;
      configurations = slice_set reset.configurations 0 c.args.byte;
    } in
    rw c.of-2.ensures (has_entries saved (sixteen reset c.of.result c.of.ensures c.reset_on-saved.ensures.saved))

pub returns : goal.returns
returns c =
    let reset = c.reset_on-saved.result in
    let saved : SavedRegisters = record reset {
      mseccfg = c.value.result;
      configurations = slice_set reset.configurations 0 c.args.byte;
    } in
    c.of_owner.ensures
    ∙ ap (λ (file : RegisterFile). rights_by file (Some 0)) c.of-2.ensures
    ∙ stored_rights saved (sixteen reset c.of.result c.of.ensures c.reset_on-saved.ensures.saved) c.args.security
    c.value.ensures c.args.byte (set_first reset c.of.result c.args.byte c.reset_on-saved.ensures.saved)
