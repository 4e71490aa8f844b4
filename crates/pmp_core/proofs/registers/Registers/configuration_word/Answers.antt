use Rattle.std.proofs.Common.{◌≡◌, ℕ, ◌+◌, ◌*◌, ◌<◌, ap, sym, ◌∙◌, arith, cond, nat_lt, slice_index, true, ◌&&◌}
use Rattle.pmp_core.specs.Bytes.{byte}
use Rattle.pmp_core.specs.RegisterValue.{byte_in, configuration_word}
use Rattle.pmp_core.proofs.Configuring.{byte_past}
use Rattle.pmp_core.proofs.Writes.{byte_kept}
use Rattle.pmp_core.specs.Configuration.{byte_of, configuration_of}
use Rattle.pmp_core.specs.Hart.{holds_byte_of}
use Rattle.pmp_core.specs.declared.hart.Profile.{Profile}
use Rattle.pmp_core.specs.RegisterFile.{RegisterFile}
use Rattle.pmp_core.specs.RegisterWrite.{stored_over}
use Rattle.pmp_core.specs.SavedRegisters.{fields_in, restored_entry}
use Rattle.pmp_core.proofs.Restored.{mseccfg_in, profile_in}
use Rattle.pmp_core.proofs.WordBytes.{word_from, zero_byte}
use Rattle.pmp_core.proofs.registers.Registers.configuration_word.Goals as goal

pub returns-then-first-count : goal.returns-then-first-count
unfolding configuration_word
returns-then-first-count c =
    let file = c.args.self.now in
    let q = c.args.register in
    sym (word_from (λ j. byte_in file q (4 * q + j)) 0 (omega arith) (λ j near. zero_byte j near
    ∙ byte_past file q (4 * q + j) (omega (arith, c.count.ensures.count, c.if-first-count.true, c.from-first.ensures))))

pub returns : goal.returns
unfolding configuration_word
returns c =
    let file = c.args.self.now in
    let q = c.args.register in
    let saved = c.self.inside.numbers.now in
    let hart : c.self.inside.hart ≡ file.profile = c.self.invariant ∙ sym (profile_in saved)
    ∙ ap (λ (f : RegisterFile). f.profile) c.self.view_is in
    let fields : c.fields.result ≡ fields_in saved = c.fields.ensures
    ∙ ap (λ (f : RegisterFile). f.mseccfg) (sym c.self.view_is) ∙ mseccfg_in saved in
    let kept : (j : ℕ) → j < 8 → byte c.eight_from-bytes.result j ≡ slice_index saved.configurations (4 * q + j) =
    λ j near. c.eight_from-bytes.ensures j near ∙ ap (λ n. slice_index saved.configurations (4 * n + j)) c.from-first.ensures in
    let stored : (j : ℕ) → j < 8
    → byte c.stored_over-word.result j ≡ byte_of (restored_entry saved (4 * q + j)).configuration =
    λ j near. c.stored_over-word.ensures j near ∙ (λ i. byte_of (stored_over (c.self.invariant i).grain (fields i).mml true
    (configuration_of (zero_byte j near i)) (kept j near i))) in
    let there : (j : ℕ) → j < 8 → (holds_byte_of file.profile q (4 * q + j) && nat_lt (4 * q + j) file.profile.entries)
    ≡ nat_lt j c.bytes_there.result =
    λ j near. ap (λ (p : Profile). holds_byte_of p q (4 * q + j) && nat_lt (4 * q + j) p.entries) (sym hart)
    ∙ c.bytes_there.ensures.there j near in
    sym (word_from (λ j. byte_in file q (4 * q + j)) c.lowest.result c.lowest.type_inv (λ j near.
    c.lowest.ensures j near ∙ ap (λ b. cond (nat_lt j c.bytes_there.result) b 0) (stored j near)
    ∙ byte_kept saved file c.self.view_is q j c.bytes_there.result (there j near)))
