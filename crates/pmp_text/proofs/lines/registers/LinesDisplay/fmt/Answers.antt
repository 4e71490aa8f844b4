use Rattle.std.proofs.Common.{◌≡◌, ◌∷◌, [], append_assoc, length, map, rules, arith}
use Rattle.std.specs.List.{range_with_len}
use Rattle.std.proofs.lemmas.List.FromFn.{map-range_with_len_more}
use Rattle.pmp_core.specs.declared.csr.Csr.TheVariants.{Addr, Mseccfg}
use Rattle.pmp_text.specs.Dumps.{addr_registers, cfg_at, cfg_registers, line_of, lines_of}
use Rattle.pmp_text.proofs.Appending.{line_more}
use Rattle.pmp_text.proofs.lines.registers.LinesDisplay.fmt.Goals as goal

pub loop-place-preserved : goal.loop-place-preserved
loop-place-preserved g c =
    let place = c.loop-place.place in
    rw (map-range_with_len_more (cfg_at c.args.self.now.file.now.profile) 0 place place (omega arith))
    (line_more _ (line_of c.args.self.now.form c.args.self.now.file.now) _ _ _ _ _ c.loop-place.invariant (search rules))

pub loop-entry-preserved : goal.loop-entry-preserved
loop-entry-preserved g c =
    let entry = c.loop-entry.entry in
    rw (
      map-range_with_len_more Addr 0 entry entry (omega arith),
      ← append_assoc (cfg_registers c.args.self.now.file.now.profile c.entries-entry-end.result) (map Addr (range_with_len 0 entry)) (Addr entry ∷ []),
    )
    (line_more _ (line_of c.args.self.now.form c.args.self.now.file.now) _ _ _ _ _ c.loop-entry.invariant (search rules))

pub returns-clause-writes : goal.returns-clause-writes
unfolding lines_of
returns-clause-writes g c =
    let count = length c.args.self.now.file.now.entries in
    let all : c.loop-entry.entry ≡ count = omega arith in
    λ plain done. rw (← append_assoc (cfg_registers c.args.self.now.file.now.profile count) (addr_registers count) (Mseccfg ∷ []))
    (line_more _ (line_of c.args.self.now.form c.args.self.now.file.now) _ _ _ _ _
    (rw (all, c.entries-entry-end.ensures.count) at c.loop-entry.invariant) (search rules) plain)
