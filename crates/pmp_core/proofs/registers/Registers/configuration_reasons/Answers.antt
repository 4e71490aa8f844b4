use Rattle.std.proofs.Common.{◌≡◌, ◌+◌, ◌*◌, ◌<◌, ◌&&◌, ◌∙◌, ℕ, Bool, cond, not, nat_lt, length, refl, sym, ap}
use Rattle.pmp_core.specs.declared.csr.Csr.TheVariants.{Cfg}
use Rattle.pmp_core.specs.declared.hart.Profile.{Profile}
use Rattle.pmp_core.specs.declared.mseccfg.MseccfgFields.{MseccfgFields}
use Rattle.pmp_core.specs.declared.write_reasons.WriteReason.TheVariants.{Tor, Reserved, Lockdown, Grain}
use Rattle.pmp_core.specs.Bytes.{byte}
use Rattle.pmp_core.specs.Configuration.{Configuration, bit_of, configuration_of, is_reserved}
use Rattle.pmp_core.specs.Grain.{is_na4}
use Rattle.pmp_core.specs.Hart.{holds_byte_of}
use Rattle.pmp_core.specs.RegisterFile.{is_frozen}
use Rattle.pmp_core.specs.Rights.{is_barred}
use Rattle.pmp_core.specs.WriteReasons.{byte_for}
use Rattle.pmp_core.proofs.FlaggedReasons.{held_back, let_through, marks_frozen, marks_stored, none_marked, together}
use Rattle.pmp_core.proofs.WordBytes.{by_flag, zero_byte}
use Rattle.pmp_core.proofs.registers.Registers.configuration_reasons.Goals as goal

is_barred_rule : Configuration → Bool
is_barred_rule c = is_barred c.locked c.read c.write c.execute

pub returns : goal.returns
unfolding is_barred_rule
returns c =
    let file = c.args.self.now in
    let q = c.args.register in
    let value = c.args.value in
    let old = c.configuration_word-old.result in
    let is = c.configuration_word-old.ensures in
    let there = c.bytes_there.result in
    let so : (j : ℕ) → j < 8
    → (holds_byte_of file.profile q (4 * q + j) && nat_lt (4 * q + j) (length file.entries)) ≡ nat_lt j there = λ j near.
    ap (λ k. holds_byte_of file.profile q (4 * q + j) && nat_lt (4 * q + j) k) c.count-count.ensures.legal.count
    ∙ ap (λ (p : Profile). holds_byte_of p q (4 * q + j) && nat_lt (4 * q + j) p.entries) (sym c.hart.ensures)
    ∙ c.bytes_there.ensures.there j near in
    let frozen_at : ℕ → Bool = λ j. (configuration_of (byte old j)).locked && not file.mseccfg.rlb in
    let new : (j : ℕ) → j < 8
    → byte c.chosen-new.result j ≡ cond (frozen_at j) 0 (cond (nat_lt j there) (byte value j) 0) = λ j near.
    c.chosen-new.ensures j near ∙ by_flag _ _ _ _ (c.frozen_bytes-frozen.ensures.bytes j near)
    ∙ (λ k. cond (frozen_at j) (zero_byte j near k) (c.lowest.ensures j near k)) in
    let holds : ℕ → Bool = λ i. holds_byte_of file.profile q i in
    let free : ℕ → Bool = λ i. not (is_frozen file i) in
    let at : ℕ → Configuration = λ i. configuration_of (byte_for q value i) in
    rw c.from.ensures (record {
      frozen = marks_frozen file q value old there is so c.chosen.result
          (λ j near. c.chosen.ensures j near ∙ by_flag _ _ _ _ (c.frozen_bytes-frozen.ensures.bytes j near));
      tor = none_marked Tor file (Cfg q) value (4 * q) (λ i inside. refl);
      reserved = marks_stored file q value old there is so Reserved (not file.mseccfg.mml) is_reserved refl
          (λ e i. held_back (holds i) (free i) (not file.mseccfg.mml) (is_reserved (at i)) e)
          (λ e i. let_through (holds i) (free i) (not file.mseccfg.mml) (is_reserved (at i)) e) c.reserved.result
          (λ j near. c.reserved.ensures.bytes j near ∙ ap (λ b. bit_of (is_reserved (configuration_of b))) (new j near))
          c.flags_if.result (c.flags_if.ensures
          ∙ ap (λ (m : MseccfgFields). cond (not m.mml) c.reserved.result 0) c.fields-fields.ensures);
      lockdown = marks_stored file q value old there is so Lockdown (file.mseccfg.mml && not file.mseccfg.rlb) is_barred_rule
          refl
          (λ e i. together (holds i) (free i) file.mseccfg.mml (not file.mseccfg.rlb) (is_barred_rule (at i))
          ∙ held_back (holds i) (free i) (file.mseccfg.mml && not file.mseccfg.rlb) (is_barred_rule (at i)) e)
          (λ e i. together (holds i) (free i) file.mseccfg.mml (not file.mseccfg.rlb) (is_barred_rule (at i))
          ∙ let_through (holds i) (free i) (file.mseccfg.mml && not file.mseccfg.rlb) (is_barred_rule (at i)) e)
          c.barred.result
          (λ j near. c.barred.ensures.bytes j near ∙ ap (λ b. bit_of (is_barred_rule (configuration_of b))) (new j near))
          c.flags_if-2.result (c.flags_if-2.ensures ∙ ap (λ b. cond b c.barred.result 0) (c.is_lockdown.ensures
          ∙ ap (λ (m : MseccfgFields). m.mml && not m.rlb) c.fields-fields.ensures));
      grain = marks_stored file q value old there is so Grain (nat_lt 0 file.profile.grain) (λ k. is_na4 k.matching) refl
          (λ e i. held_back (holds i) (free i) (nat_lt 0 file.profile.grain) (is_na4 (at i).matching) e)
          (λ e i. let_through (holds i) (free i) (nat_lt 0 file.profile.grain) (is_na4 (at i).matching) e)
          c.selects_na4.result
          (λ j near. c.selects_na4.ensures.bytes j near
          ∙ ap (λ b. bit_of (is_na4 (configuration_of b).matching)) (new j near))
          c.flags_if-3.result (c.flags_if-3.ensures ∙ ap (λ n. cond (nat_lt 0 n) c.selects_na4.result 0)
          (c.grain.ensures.grain ∙ ap (λ (p : Profile). p.grain) c.hart-2.ensures));
    })
