-- Every step keeps a register file legal, its hart, and as many entries as it has.
use borrow.Author.Tests.{tests}
use Rattle.std.proofs.Common.{rules, ◌≡◌, ℕ, ◌-◌, ◌*◌, ◌%◌, ◌<◌, ◌≤◌, Bool, true, false, cond, sym, ap}
use Rattle.std.proofs.Common.{List, [], ◌∷◌, fold, length, replicate, slice_index, refl, inl, inr, arith, ◌∙◌}
use Rattle.std.proofs.Common.{length-set}
use Rattle.std.proofs.Common.{get_or-set_other, get_or-set_same}
use Rattle.std.specs.Int.{w64, to_le_bytes}
use Rattle.std.proofs.Math.ListN.{set}
use Rattle.std.proofs.lemmas.Bool.{cases_lt, cond_both}
use Rattle.std.proofs.lemmas.List.{get_or_past, get_or-replicate, length-replicate}
use Rattle.std.proofs.lemmas.List.FromFn.{length-map-range_with_len, get_or-map-range_with_len}
use Rattle.pmp_core.specs.declared.csr.Csr.{Csr}
use Rattle.pmp_core.specs.declared.csr.Csr.TheVariants.{Cfg, Addr, Mseccfg, Mseccfgh}
use Rattle.pmp_core.specs.Entry.{Entry}
use Rattle.pmp_core.specs.declared.event.Event.{Event}
use Rattle.std.proofs.Math.Nat.{mod-lt}
use Rattle.std.proofs.Math.Pow.{pow_pos, pow_mono}
use Rattle.pmp_core.specs.declared.hart.Profile.{Profile}
use Rattle.pmp_core.specs.Hart.{IsProfile, fewest_bits, holds_byte_of, most_bits, word_addresses}
use Rattle.pmp_core.specs.Configuration.{Configuration, is_reserved}
use Rattle.pmp_core.specs.RegisterFile.{RegisterFile, reset_entry, reset_mseccfg, reset_file, entry_at}
use Rattle.pmp_core.specs.RegisterFile.{HasAddresses, IsLegal}
use Rattle.pmp_core.specs.ReachableLaw.{LegalLaw}
use Rattle.pmp_core.specs.Grain.{selectable}
use Rattle.pmp_core.specs.RegisterWrite.{stored_over, stored, configured}
use Rattle.pmp_core.specs.RegisterWrite.{is_address_frozen, written, step}
use Rattle.pmp_core.proofs.Grains.{selectable_other}

-- ---- reset

pub reset_at : (n i : ℕ) → entry_at (replicate n reset_entry) i ≡ reset_entry
reset_at n i = search (rules, tests, get_or-replicate, get_or_past, length-replicate)

-- an address register can hold 0
pub zero_fits : (profile : Profile) → 0 < word_addresses profile
zero_fits profile = pow_pos (profile.address_bits - 2)

pub reset_legal : (profile : Profile) → IsProfile profile → IsLegal (reset_file profile)
reset_legal profile is = search (rules, tests, length-replicate, reset_at, zero_fits, selectable_other)

-- no hart has fewer address bits, or more
most_bits_most : (is_rv32 : Bool) → most_bits is_rv32 ≤ 56
most_bits_most is_rv32 = search rules

fewest_bits_fewest : (is_rv32 : Bool) → 32 ≤ fewest_bits is_rv32
fewest_bits_fewest is_rv32 = search rules

pub wide_bits : (profile : Profile) → IsProfile profile → 32 ≤ profile.address_bits
wide_bits profile is = omega (arith, is.wide, fewest_bits_fewest profile.is_rv32)

pub narrow_bits : (profile : Profile) → IsProfile profile → profile.address_bits ≤ 56
narrow_bits profile is = omega (arith, is.narrow, most_bits_most profile.is_rv32)

-- an address of the hart has no more than 54 bits
pub legal_addresses : (file : RegisterFile) → IsLegal file → HasAddresses file
legal_addresses file legal = search (rules, tests, pow_mono, narrow_bits)

-- ---- a configuration

pub stored_unreserved : (grain : ℕ) (rlb : Bool) (old : Configuration) (byte : ℕ) → is_reserved old ≡ false
    → is_reserved (stored_over grain false rlb old byte) ≡ false
stored_unreserved grain rlb old byte h = search rules

-- nor NA4 where it can't be chosen
pub stored_chosen : (grain : ℕ) (mml rlb : Bool) (old : Configuration) (byte : ℕ) → selectable grain old ≡ old
    → selectable grain (stored_over grain mml rlb old byte) ≡ stored_over grain mml rlb old byte
stored_chosen grain mml rlb old byte h = search rules

-- ---- a write, entry by entry

-- the entries that a write to a configuration register leaves
pub configured_place : (file : RegisterFile) (q value i : ℕ) → i < length file.entries
    → entry_at (written file (Cfg q) value).entries i ≡ configured file q value i
configured_place file q value i inside =
    get_or-map-range_with_len (configured file q value) 0 (length file.entries) i i reset_entry inside (omega arith)

pub length-written : (file : RegisterFile) (csr : Csr) (value : ℕ)
    → length (written file csr value).entries ≡ length file.entries
length-written file csr value = search (rules, tests, length-map-range_with_len, length-set)

-- the hart is kept
pub profile-written : (file : RegisterFile) (csr : Csr) (value : ℕ) → (written file csr value).profile ≡ file.profile
profile-written file csr value = search rules

-- what a legal file has at each place
abbrev IsLegalEntry : Profile → Bool → Entry → Type 0
IsLegalEntry profile mml entry =
    (entry.address < word_addresses profile) × (mml ≡ false → is_reserved entry.configuration ≡ false)
    × (selectable profile.grain entry.configuration ≡ entry.configuration)

reset_entry_legal : (profile : Profile) (mml : Bool) → IsLegalEntry profile mml reset_entry
reset_entry_legal profile mml = search rules

module _ (file : RegisterFile) (legal : IsLegal file) where
  legal_place : (i : ℕ) → IsLegalEntry file.profile file.mseccfg.mml (entry_at file.entries i)
  legal_place i = (legal.words i, λ off. legal.unreserved off i, legal.chosen i)

  configured_legal : (q value i : ℕ) → IsLegalEntry file.profile file.mseccfg.mml (configured file q value i)
  configured_legal q value i =
      let entry = entry_at file.entries i in
      let byte = slice_index (to_le_bytes w64 value) (i - 4 * q) in
      let kept : file.mseccfg.mml ≡ false → is_reserved (stored file i byte) ≡ false =
      λ off. rw off (stored_unreserved file.profile.grain file.mseccfg.rlb entry.configuration byte (legal.unreserved off i)) in
      let chosen = stored_chosen file.profile.grain file.mseccfg.mml file.mseccfg.rlb entry.configuration byte
      (legal.chosen i) in
      cond_both (holds_byte_of file.profile q i) (record entry { configuration = stored file i byte }) entry
      (IsLegalEntry file.profile file.mseccfg.mml) (λ _. (legal.words i, kept, chosen)) (λ _. legal_place i)

  past : (entries : List Entry) (i : ℕ) → length entries ≤ i → IsLegalEntry file.profile file.mseccfg.mml (entry_at entries i)
  past entries i over = rw (get_or_past entries i reset_entry over) (reset_entry_legal file.profile file.mseccfg.mml)

  addressed_legal : (j value i : ℕ)
      → IsLegalEntry file.profile file.mseccfg.mml (entry_at (set file.entries j (record (entry_at file.entries j) {
        address = value % word_addresses file.profile;
      })) i)
  addressed_legal j value i =
      search (rules, tests, past, length-set, get_or-set_same, mod-lt, zero_fits, get_or-set_other, legal_place)

  written_legal : (csr : Csr) (value i : ℕ)
      → IsLegalEntry file.profile file.mseccfg.mml (entry_at (written file csr value).entries i)
  written_legal (Cfg q) value i = elim (cases_lt i (length file.entries)) [
    | inl inside ↦ rw (configured_place file q value i inside) (configured_legal q value i)
    | inr over ↦ past (written file (Cfg q) value).entries i (omega (arith, length-written file (Cfg q) value))
  ]
  written_legal (Addr j) value i =
      let new = set file.entries j (record (entry_at file.entries j) { address = value % word_addresses file.profile }) in
      elim (is_address_frozen file j) as
      (λ frozen. IsLegalEntry file.profile file.mseccfg.mml (entry_at (cond frozen file.entries new) i)) [
        | true ↦ legal_place i
        | false ↦ addressed_legal j value i
      ]
  written_legal Mseccfg value i = legal_place i
  written_legal Mseccfgh value i = legal_place i

  -- lockdown that is off after a write was off before it
  was_off : (csr : Csr) (value : ℕ) → (written file csr value).mseccfg.mml ≡ false → file.mseccfg.mml ≡ false
  was_off csr value off = search rules

  -- a hart without Smepmp has no mseccfg, whatever is written
  still_plain : (csr : Csr) (value : ℕ) → file.profile.has_smepmp ≡ false
      → (written file csr value).mseccfg ≡ reset_mseccfg
  still_plain csr value none = search rules

  pub step_legal : (event : Event) → IsLegal (step file event)
  step_legal event =
      search (rules, tests, reset_legal, profile-written, length-written, written_legal, was_off, still_plain)

pub profile-step : (file : RegisterFile) (event : Event) → (step file event).profile ≡ file.profile
profile-step file event = search rules

pub profile-fold : (file : RegisterFile) (events : List Event) → (fold step file events).profile ≡ file.profile
profile-fold file [] = refl
profile-fold file (event ∷ events) = profile-fold (step file event) events ∙ profile-step file event

pub length-step : (file : RegisterFile) → length file.entries ≡ file.profile.entries → (event : Event)
    → length (step file event).entries ≡ length file.entries
length-step file count event = search (rules, tests, length-replicate, length-written)

pub length-fold : (file : RegisterFile) → length file.entries ≡ file.profile.entries → (events : List Event)
    → length (fold step file events).entries ≡ length file.entries
length-fold file count [] = refl
length-fold file count (event ∷ events) =
    let kept = length-step file count event in
    length-fold (step file event) (kept ∙ count ∙ ap (λ (p : Profile). p.entries) (sym (profile-step file event))) events
    ∙ kept

pub replay_legal_from : (file : RegisterFile) → IsLegal file → (events : List Event) → IsLegal (fold step file events)
replay_legal_from file legal [] = legal
replay_legal_from file legal (event ∷ events) = replay_legal_from (step file event) (step_legal file legal event) events

pub legal_law : LegalLaw
legal_law profile events is = replay_legal_from (reset_file profile) (reset_legal profile is) events
