use Rattle.std.proofs.Common.{arith}
use Rattle.std.proofs.lemmas.List.FromFn.{get_or-map-range_with_len}
use Rattle.pmp_core.specs.declared.size.TheConstants.{MAX_ENTRIES}
use Rattle.pmp_core.specs.Configuration.{byte_of}
use Rattle.pmp_core.specs.RegisterFile.{entry_at}
use Rattle.pmp_core.specs.SavedRegisters.{saved_registers}
use Rattle.pmp_lint.proofs.entry_numbers.byte_at.Goals as goal

pub returns : goal.returns
unfolding saved_registers
returns c =
    rw (c.from.ensures, c.save.ensures.saved) (get_or-map-range_with_len (λ i. byte_of (entry_at c.args.file.now.entries i).configuration) 0 MAX_ENTRIES c.args.entry c.args.entry 0
    c.requires (omega arith))
