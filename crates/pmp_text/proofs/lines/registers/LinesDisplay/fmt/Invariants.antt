use Rattle.std.proofs.Common.{◌++◌, map}
use Rattle.std.specs.List.{range_with_len}
use Rattle.pmp_core.specs.declared.csr.Csr.TheVariants.{Addr}
use Rattle.pmp_text.specs.Dumps.{cfg_at, cfg_registers, line_of}
use Rattle.pmp_text.proofs.Appending.{HasLines}
use Rattle.pmp_text.proofs.lines.registers.LinesDisplay.fmt.Given as goal

-- the lines so far
abbrev pub invariant-loop-place : goal.invariant-loop-place
invariant-loop-place g l = HasLines g.W.Write.write_str_gives (line_of l.self.form l.self.file.now) l.initial.f
    (map (cfg_at l.self.file.now.profile) (range_with_len 0 l.place)) l.f

abbrev pub invariant-loop-entry : goal.invariant-loop-entry
invariant-loop-entry g l = HasLines g.W.Write.write_str_gives (line_of l.self.form l.self.file.now) l.fn.f
    (cfg_registers l.self.file.now.profile l.entry-end ++ map Addr (range_with_len 0 l.entry)) l.f
