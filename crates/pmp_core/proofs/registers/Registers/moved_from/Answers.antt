use Rattle.std.proofs.Common.{◌≡◌, ℕ, ◌+◌, ◌*◌, ◌<◌, ◌∙◌, List, slice_index, length, Option, refl, sym, ap, arith}
use Rattle.pmp_core.specs.declared.csr.Csr.TheVariants.{Cfg}
use Rattle.pmp_core.specs.declared.hart.Profile.{Profile}
use Rattle.pmp_core.specs.declared.span.Span.{Span}
use Rattle.pmp_core.specs.Bytes.{byte}
use Rattle.pmp_core.specs.Hart.{bytes_in}
use Rattle.pmp_core.specs.Moved.{joined, moved_among, moved_at, moved_by}
use Rattle.pmp_core.specs.RegisterFile.{RegisterFile}
use Rattle.pmp_core.specs.RegisterValue.{configuration_word}
use Rattle.pmp_core.specs.RegisterWrite.{written}
use Rattle.pmp_core.proofs.MovedWrites.{joined_none, other_byte, past_byte, same_byte}
use Rattle.pmp_core.proofs.Moves.{more_among}
use Rattle.pmp_core.proofs.registers.Registers.moved_from.Goals as goal
use Rattle.pmp_core.proofs.registers.Registers.moved_from.Goals.{then-is-place+then-index-count, else-is-place}
use Rattle.pmp_core.proofs.registers.Registers.moved_from.Goals.{else-is-place-via-then-is-place+else-index-count}
use Rattle.pmp_core.proofs.registers.Registers.moved_from.Goals.{After-from, else-is-place-via-else-is-place}

pub loop-place-init : goal.loop-place-init
unfolding moved_among
loop-place-init c = record { moved = λ before value by is. refl }

module _ (c : After-from) (before : RegisterFile) (value : ℕ) (by : c.args.self.now ≡ written before (Cfg c.args.register) value) where
  abbrev q : ℕ
  q = c.args.register

  abbrev place : ℕ
  place = c.loop-place.place

  hart : c.hart.result ≡ before.profile
  hart = c.hart.ensures ∙ ap (λ (f : RegisterFile). f.profile) by

  there : place < bytes_in before.profile q
  there = omega (arith, c.loop-place-test.true, c.bytes_in-place-end.ensures.bytes, ap (λ (p : Profile). bytes_in p q) hart)

  was_byte : slice_index c.to_le_bytes-was.result place ≡ byte c.args.old place
  was_byte = ap (λ (l : List ℕ). slice_index l place) c.to_le_bytes-was.ensures

  is_byte : slice_index c.to_le_bytes-is.result place ≡ byte (configuration_word (written before (Cfg q) value) q) place
  is_byte = ap (λ (l : List ℕ). slice_index l place) c.to_le_bytes-is.ensures
      ∙ ap (λ (w : ℕ). byte w place) (c.configuration_word.ensures ∙ ap (λ (f : RegisterFile). configuration_word f q) by)

  one_more : (so_far next : Option Span) → so_far ≡ moved_among before c.args.self.now (4 * q) place
      → next ≡ moved_at before (written before (Cfg q) value) (4 * q + place)
      → joined so_far next ≡ moved_among before c.args.self.now (4 * q) (place + 1)
  one_more so_far next are is = more_among before c.args.self.now (4 * q) place so_far next are
      (is ∙ ap (λ (f : RegisterFile). moved_at before f (4 * q + place)) (sym by))

pub loop-place-preserved : goal.loop-place-preserved
loop-place-preserved c = record {
  moved = λ before value by is.
      let at = (goal.at.loop-place-preserved c).After-from in
      elim c.if-is-place.branch [
        | then-is-place+then-index-count w ↦ w.moved-is ∙ w.joined-moved.ensures
            ∙ one_more at before value by c.loop-place.moved w.span_of_both-more.result
            (c.loop-place.invariant.moved before value by is)
            ((rw (by, c.from.ensures, w.matching-one.ensures, w.matching-other.ensures, w.from_byte.ensures, w.from_byte-then-index-count.ensures, was_byte at before value by, is_byte at before value by) at w.span_of_both-more.ensures)
            ∙ other_byte before c.args.register value c.args.old is c.loop-place.place (there at before value by)
            (λ same. w.if-is-place.true (is_byte at before value by ∙ same ∙ sym (was_byte at before value by))))
        | else-is-place w ↦ w.moved-is ∙ sym (joined_none c.loop-place.moved)
            ∙ one_more at before value by c.loop-place.moved _ (c.loop-place.invariant.moved before value by is)
            (elim w.else-is-place.branch [
              | else-is-place-via-then-is-place+else-index-count w' ↦ past_byte before c.args.register value c.args.old is c.loop-place.place (there at before value by)
                  (omega (arith, w'.if-index-count.false, w'.count.ensures.count, c.from.ensures, ap (λ (f : RegisterFile). length f.entries) by))
              | else-is-place-via-else-is-place w' ↦ same_byte before c.args.register value c.args.old is c.loop-place.place (there at before value by)
                  (sym (is_byte at before value by) ∙ w'.if-is-place.false ∙ was_byte at before value by)
            ])
      ];
}

pub returns : goal.returns
unfolding moved_by
returns c before value by is =
    let q = c.args.register in
    let all : c.loop-place.place ≡ bytes_in before.profile q = omega (
      arith,
      c.loop-place-test.false,
      c.bytes_in-place-end.ensures.bytes,
      ap (λ (p : Profile). bytes_in p q) (c.hart.ensures ∙ ap (λ (f : RegisterFile). f.profile) by),
    ) in
    c.loop-place.invariant.moved before value by is ∙ ap (moved_among before c.args.self.now (4 * q)) all
