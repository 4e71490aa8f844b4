use Rattle.std.proofs.Common.{◌≡◌, ℕ, ◌+◌, ◌-◌, ◌*◌, ◌<◌, ◌≤◌, length, slice_index, min, refl, sym, ap, ◌∙◌, arith}
use Rattle.std.specs.Int.{w64, to_le_bytes}
use Rattle.std.proofs.lemmas.Bool.{lt-ltb, le-ltb}
use Rattle.pmp_core.specs.declared.csr.Csr.TheVariants.{Cfg}
use Rattle.pmp_core.specs.Bytes.{byte}
use Rattle.pmp_core.specs.Configuration.{byte_of}
use Rattle.pmp_core.specs.declared.hart.Profile.{Profile}
use Rattle.pmp_core.specs.Hart.{bytes_in}
use Rattle.pmp_core.specs.RegisterValue.{byte_in, configuration_word}
use Rattle.pmp_core.specs.RegisterWrite.{stored, stored_over, written}
use Rattle.pmp_core.proofs.WordBytes.{word_from}
use Rattle.pmp_core.proofs.Writes.{byte_written, word_entry, word_plain}
use Rattle.pmp_core.proofs.registers.Registers.configurations_after.Goals as goal

pub stored_over-word-requires : goal.stored_over-word-requires
stored_over-word-requires c = word_plain c.args.self.now c.args.register c.args.old c.requires

pub returns : goal.returns
unfolding configuration_word
returns c =
    let file = c.args.self.now in
    let q = c.args.register in
    let value = c.args.value in
    let all : c.bytes_there.result ≡ min (length file.entries - 4 * q) (bytes_in file.profile q) = c.bytes_there.ensures.count
    ∙ ap (λ (p : Profile). min (p.entries - 4 * q) (bytes_in p q)) c.hart-2.ensures
    ∙ ap (λ n. min (n - 4 * q) (bytes_in file.profile q)) (sym c.count-count.ensures.legal.count) in
    let there : (j : ℕ) → j < 8 → j < bytes_in file.profile q → 4 * q + j < length file.entries
    → byte c.lowest.result j ≡ byte_of (stored file (4 * q + j) (slice_index (to_le_bytes w64 value) j)) = λ j near held inside.
    let old = word_entry file q c.args.old c.requires j near held in
    c.lowest.ensures j near ∙ rw (lt-ltb j c.bytes_there.result (omega (arith, all))) (c.stored_over-word.ensures j near
    ∙ (λ i. byte_of (stored_over (c.hart.ensures i).grain (c.fields.ensures i).mml (c.fields.ensures i).rlb (old i) (byte value j)))) in
    let zero : (j : ℕ) → j < 8 → c.bytes_there.result ≤ j → byte c.lowest.result j ≡ 0 = λ j near past.
    c.lowest.ensures j near ∙ rw (le-ltb j c.bytes_there.result past) refl in
    sym (word_from (λ j. byte_in (written file (Cfg q) value) q (4 * q + j)) c.lowest.result c.lowest.type_inv (λ j near.
    byte_written file q value j (byte c.lowest.result j) (there j near) (λ past. zero j near (omega (arith, all)))
    (λ past. zero j near (omega (arith, all)))))
