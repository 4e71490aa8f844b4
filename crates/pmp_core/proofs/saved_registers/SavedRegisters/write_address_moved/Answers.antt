use Rattle.std.proofs.Common.{◌≡◌, ◌+◌, ◌∙◌, rules, sym}
use Rattle.pmp_core.specs.declared.csr.Csr.TheVariants.{Addr}
use Rattle.pmp_core.specs.Moved.{joined, moved_between}
use Rattle.pmp_core.specs.Ranges.{range_of}
use Rattle.pmp_core.specs.SavedRegisters.{restored_file}
use Rattle.pmp_core.proofs.MovedWrites.{IsTorRange, address_moved, next_moves, hart_kept, none_moved}
use Rattle.pmp_core.proofs.saved_registers.SavedRegisters.write_address_moved.Goals as goal

pub returns-then-not-written-clause-moved : goal.returns-then-not-written-clause-moved
returns-then-not-written-clause-moved c = none_moved c.args.self.now c.write_address-written.new.self
    (Addr c.args.register) c.args.value c.write_address-written.result c.write_address-written.ensures (search rules)

pub with-now-requires : goal.with-now-requires
with-now-requires c = c.requires ∙ sym (hart_kept c.args.self.now c.write_address-written.new.self
    (Addr c.args.register) c.args.value c.write_address-written.result c.write_address-written.ensures)

pub returns-clause-moved : goal.returns-clause-moved
returns-clause-moved c =
    let old = restored_file c.args.self.now in
    let new = restored_file c.write_address-written.new.self in
    let j = c.args.register in
    let is = c.write_address-written.ensures.stored.file in
    let own : c.moved_between.result ≡ moved_between (range_of old j) (range_of new j) = c.moved_between.ensures
    ∙ (λ k. moved_between (c.range_if_any-own.ensures k) (c.range_if_any.ensures k))
    ∙ (λ k. moved_between (range_of (c.with-before.ensures k) (c.from-index.ensures k))
    (range_of (c.with-now.ensures k) (c.from-index.ensures k))) in
    let was : IsTorRange old (j + 1) c.tor_range_if_any-next.result = (
      rw (c.with-before.ensures, c.from-index.ensures) at c.tor_range_if_any-next.ensures.tor,
      rw (c.with-before.ensures, c.from-index.ensures) at c.tor_range_if_any-next.ensures.other,
    ) in
    let now : IsTorRange new (j + 1) c.tor_range_if_any.result = (
      rw (c.with-now.ensures, c.from-index.ensures) at c.tor_range_if_any.ensures.tor,
      rw (c.with-now.ensures, c.from-index.ensures) at c.tor_range_if_any.ensures.other,
    ) in
    let next : c.moved_between-2.result ≡ moved_between (range_of old (j + 1)) (range_of new (j + 1)) =
    c.moved_between-2.ensures ∙ next_moves old new j c.args.value is _ _ was now in
    c.joined-moved.ensures ∙ (λ k. joined (own k) (next k)) ∙ address_moved old new j c.args.value is
