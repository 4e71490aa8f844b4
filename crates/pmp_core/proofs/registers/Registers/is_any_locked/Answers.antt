use Rattle.std.proofs.Common.{sym, arith}
use Rattle.pmp_core.specs.Entry.{Entry}
use Rattle.pmp_core.specs.RegisterFile.{reset_entry}
use Rattle.pmp_core.proofs.Places.{none_any}
use Rattle.pmp_core.proofs.registers.Registers.is_any_locked.Goals as goal

pub returns : goal.returns
returns c = sym (none_any (λ (e : Entry). e.configuration.locked) c.args.self.now.entries reset_entry
    (λ k inside. c.loop-index.invariant k (omega (
      arith,
      c.loop-index-test.false,
      c.count-index-end.ensures.count,
    ))))
