-- Where machine mode executes under lockdown.
use borrow.Author.Tests.{tests}
use Rattle.std.proofs.Common.{◌≡◌, ℕ, ◌≤◌, ◌%◌, ◌-◌, ◌*◌, Bool, true, false, cond, ◌&&◌, List, [], ◌∷◌, fold, length}
use Rattle.std.proofs.Common.{rules, slice_index, refl, ap, inl, inr, get_or-set_same, length-set}
use Rattle.std.specs.List.{list_all}
use Rattle.std.specs.Int.{w64, to_le_bytes}
use Rattle.std.proofs.Math.ListN.{set}
use Rattle.std.proofs.lemmas.Bool.{and_parts, cases_eq, false≢true, not-true}
use Rattle.std.proofs.lemmas.List.{get_or_past}
use Rattle.pmp_core.specs.declared.access.Access.{Access}
use Rattle.pmp_core.specs.declared.access.Kind.TheVariants.{Fetch}
use Rattle.pmp_core.specs.declared.access.Mode.TheVariants.{M}
use Rattle.pmp_core.specs.declared.csr.Csr.{Csr}
use Rattle.pmp_core.specs.declared.csr.Csr.TheVariants.{Addr}
use Rattle.pmp_core.specs.declared.decision.Cause.{Cause}
use Rattle.pmp_core.specs.declared.decision.Cause.TheVariants.{Rule}
use Rattle.pmp_core.specs.Entry.{Entry}
use Rattle.pmp_core.specs.declared.event.Event.{Event}
use Rattle.pmp_core.specs.declared.event.Event.TheVariants.{Write, Reset}
use Rattle.pmp_core.specs.Hart.{word_addresses}
use Rattle.pmp_core.specs.Configuration.{Configuration, configuration_of}
use Rattle.pmp_core.specs.Decision.{IsDecisionBy}
use Rattle.pmp_core.specs.RegisterFile.{RegisterFile, entry_at, is_frozen}
use Rattle.pmp_core.specs.Grain.{selectable}
use Rattle.pmp_core.specs.Hart.{holds_byte_of}
use Rattle.pmp_core.specs.RegisterWrite.{admitted, configured, is_address_frozen, step, stored_over}
use Rattle.pmp_core.specs.RegisterWrite.{written}
use Rattle.pmp_core.specs.Rights.{allows, default_rights_by, is_barred, lockdown_rights, rule_rights}
use Rattle.pmp_core.specs.LockLaw.{StaysFrozen}
use Rattle.pmp_core.specs.Histories.{is_write}
use Rattle.pmp_core.specs.ProtectionLaw.{MachineCodeLaw}
use Rattle.pmp_core.proofs.Legal.{configured_place, length-written}
use Rattle.pmp_core.proofs.Locks.{other_address, Held, held_on, lock_law, still_frozen}
use Rattle.pmp_core.proofs.Sticky.{mml_stays}

abbrev is_barred_rule : Configuration → Bool
is_barred_rule c = is_barred c.locked c.read c.write c.execute

-- machine mode executes by barred rules alone
executes : (l r w x : Bool) → (lockdown_rights l r w x M).execute ≡ true → is_barred l r w x ≡ true
executes l r w x h = search rules

barred_locked : (l r w x : Bool) → is_barred l r w x ≡ true → l ≡ true
barred_locked l r w x h = search rules

-- and not where no entry matches
none_by_default : (some mmwp : Bool) → (default_rights_by some true mmwp M).execute ≡ true → ⊥
none_by_default some mmwp h = search rules

-- ---- one write adds no barred rule

stored_barred : (grain : ℕ) (old : Configuration) (byte : ℕ) → is_barred_rule (stored_over grain true false old byte) ≡ true
    → is_barred_rule old ≡ true
stored_barred grain old byte h = by_test (old.locked && true) h
  where
    admits : Configuration
    admits = admitted true false old (configuration_of byte)

    by_test : (kept : Bool) → is_barred_rule (cond kept old (selectable grain admits)) ≡ true → is_barred_rule old ≡ true
    by_test kept h = search rules

module _ (file : RegisterFile) (mml : file.mseccfg.mml ≡ true) (rlb : file.mseccfg.rlb ≡ false) (i : ℕ) where
  configured_barred : (q value : ℕ) → is_barred_rule (configured file q value i).configuration ≡ true
      → is_barred_rule (entry_at file.entries i).configuration ≡ true
  configured_barred q value h = by_test (holds_byte_of file.profile q i) h
    where
      by_test : (holds : Bool) → is_barred_rule (cond holds (record (entry_at file.entries i) {
        configuration = stored_over file.profile.grain file.mseccfg.mml file.mseccfg.rlb (entry_at file.entries i).configuration
            (slice_index (to_le_bytes w64 value) (i - 4 * q));
      }) (entry_at file.entries i)).configuration ≡ true → is_barred_rule (entry_at file.entries i).configuration ≡ true
      by_test true h = stored_barred file.profile.grain (entry_at file.entries i).configuration
          (slice_index (to_le_bytes w64 value) (i - 4 * q)) (rw (mml, rlb) at h)
      by_test false h = h

  nothing_barred : (csr : Csr) (value : ℕ) → length file.entries ≤ i
      → is_barred_rule (entry_at (written file csr value).entries i).configuration ≡ true → ⊥
  nothing_barred csr value past h = search (rules, tests, false≢true, get_or_past, length-written)

  own_configuration : (address : ℕ)
      → (entry_at (set file.entries i (record (entry_at file.entries i) { address = address })) i).configuration
      ≡ (entry_at file.entries i).configuration
  own_configuration address = search (rules, tests, get_or-set_same, get_or_past, length-set)

  addressed_configuration : (j value : ℕ) → (entry_at (written file (Addr j) value).entries i).configuration
      ≡ (entry_at file.entries i).configuration
  addressed_configuration j value = elim (cases_eq i j) [
    | inl same ↦ rw (← same) (elim (is_address_frozen file i) as (λ kept. (entry_at (cond kept file.entries
        (set file.entries i (record (entry_at file.entries i) {
          address = value % word_addresses file.profile;
        }))) i).configuration ≡ (entry_at file.entries i).configuration) [
          | true ↦ refl
          | false ↦ own_configuration (value % word_addresses file.profile)
        ])
    | inr other ↦ ap (λ (e : Entry). e.configuration) (other_address file j value i other)
  ]

  was_barred : (csr : Csr) (value : ℕ)
      → is_barred_rule (entry_at (written file csr value).entries i).configuration ≡ true
      → is_barred_rule (entry_at file.entries i).configuration ≡ true
  was_barred csr value h =
      search (rules, tests, configured_barred, configured_place, nothing_barred, addressed_configuration)

-- ---- nor do several writes

ever_barred : (file : RegisterFile) (k i : ℕ) (events : List Event) → file.mseccfg.mml ≡ true
    → is_frozen file k ≡ true → list_all is_write events ≡ true
    → is_barred_rule (entry_at (fold step file events).entries i).configuration ≡ true
    → is_barred_rule (entry_at file.entries i).configuration ≡ true
ever_barred file k i [] mml frozen writes h = h
ever_barred file k i (Reset ∷ events) mml frozen writes h = absurd (false≢true writes)
ever_barred file k i (Write csr value ∷ events) mml frozen writes h =
    let next = written file csr value in
    let held : Held file next k = held_on file k (Write csr value ∷ []) frozen refl in
    was_barred file mml (not-true _ (and_parts _ _ frozen).1) i csr value
    (ever_barred next k i events (mml_stays file (Write csr value ∷ []) refl mml)
    (still_frozen file next k frozen held) writes h)

module _ (file : RegisterFile) (k : ℕ) (events : List Event) (mml : file.mseccfg.mml ≡ true)
    (frozen : is_frozen file k ≡ true) (writes : list_all is_write events ≡ true) (access : Access)
    (machine : access.mode ≡ M) (fetch : access.kind ≡ Fetch) where
  abbrev later : RegisterFile
  later = fold step file events

  was_frozen : (i : ℕ) → allows (rule_rights later.mseccfg.mml (entry_at later.entries i).configuration access.mode)
      access.kind ≡ true → is_frozen file i ≡ true
  was_frozen i allowed =
      let c = (entry_at later.entries i).configuration in
      let own = (entry_at file.entries i).configuration in
      let by_rule : (lockdown_rights c.locked c.read c.write c.execute M).execute ≡ true =
      rw (mml_stays file events writes mml, machine, fetch) at allowed in
      let barred = ever_barred file k i events mml frozen writes (executes c.locked c.read c.write c.execute by_rule) in
      let locked : own.locked ≡ true = barred_locked own.locked own.read own.write own.execute barred in
      let bypass : file.mseccfg.rlb ≡ false = not-true _ (and_parts _ _ frozen).1 in
      rw (locked, bypass) refl

  by_frozen : (allowed : Bool) (cause : Cause) → IsDecisionBy later access allowed cause → allowed ≡ true
      → (i : ℕ) × (cause ≡ Rule i) × (is_frozen file i ≡ true) × StaysFrozen file later i
  by_frozen allowed cause is granted =
      search (rules, tests, none_by_default, mml_stays, false≢true, was_frozen, lock_law)

pub machine_code_law : MachineCodeLaw
machine_code_law file k events mml frozen writes access decision machine fetch is granted =
    by_frozen file k events mml frozen writes access machine fetch decision.allowed decision.cause is granted
