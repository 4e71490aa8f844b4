-- Writes that give a legal register file from reset: bypass on, addresses, configurations, and then its mseccfg.
use borrow.Author.Tests.{tests}
use Rattle.std.proofs.Common.{rules, ◌≡◌, ℕ, zero, suc, ◌+◌, ◌-◌, ◌*◌, ◌/◌, ◌<◌, ◌≤◌, Bool, true, false}
use Rattle.std.proofs.Common.{cond, replicate, nat_lt, ◌||◌}
use Rattle.std.proofs.Math.Nat.{mod-eq_of_lt}
use Rattle.std.proofs.Common.{List, [], ◌∷◌, ◌++◌, length, map, fold, slice_index, refl, sym, ap, ◌∙◌, inl, inr, arith}
use Rattle.std.specs.List.{range_with_len}
use Rattle.std.specs.Int.{w64, to_le_bytes}
use Rattle.std.proofs.lemmas.Bool.{cases_Bool, cases_lt, le-ltb, lt-ltb, ltb-true, or_parts}
use Rattle.std.proofs.lemmas.Bool.Decides.{nat_tests}
use Rattle.std.proofs.lemmas.List.{get_or_past, length-replicate}
use Rattle.std.proofs.lemmas.List.Sums.{fold-append}
use Rattle.pmp_core.specs.declared.csr.Csr.TheVariants.{Cfg, Addr, Mseccfg}
use Rattle.pmp_core.specs.Entry.{Entry}
use Rattle.pmp_core.specs.declared.event.Event.{Event}
use Rattle.pmp_core.specs.declared.event.Event.TheVariants.{Write}
use Rattle.pmp_core.specs.declared.mseccfg.MseccfgFields.{MseccfgFields}
use Rattle.pmp_core.specs.declared.hart.Profile.{Profile}
use Rattle.pmp_core.specs.Hart.{bytes_in, holds_byte_of}
use Rattle.pmp_core.specs.Configuration.{Configuration, byte_of, is_reserved}
use Rattle.pmp_core.specs.Mseccfg.{mseccfg_value, mseccfg_written}
use Rattle.pmp_core.specs.RegisterFile.{RegisterFile, entry_at, reset_entry, reset_mseccfg, reset_file, IsLegal}
use Rattle.pmp_core.specs.RegisterValue.{byte_in, configuration_word}
use Rattle.pmp_core.specs.RegisterWrite.{admitted, configured, is_address_frozen, is_any_locked}
use Rattle.pmp_core.specs.RegisterWrite.{step, written}
use Rattle.pmp_core.specs.Histories.{replay}
use Rattle.pmp_core.specs.ReachableLaw.{ReachableLaw}
use Rattle.pmp_core.proofs.Configuring.{byte_within, configured_at, held, high_of, low_of, most_bytes}
use Rattle.pmp_core.proofs.Legal.{reset_at, configured_place, length-written}
use Rattle.pmp_core.proofs.Locks.{other_address}
use Rattle.pmp_core.proofs.Others.{entry_kept}
use Rattle.pmp_core.proofs.Places.{entries_by, none_any}
use Rattle.pmp_core.proofs.Sizes.{own_address_written}
use Rattle.pmp_core.proofs.StoredBytes.{configuration_back}
use Rattle.pmp_core.proofs.WordBytes.{word_gives}

-- a first write of mseccfg after reset gives any fields with bypass on
opened : (mml mmwp : Bool)
    → mseccfg_written (record { mml = false; mmwp = false; rlb = false }) false
    (mseccfg_value (record { mml = mml; mmwp = mmwp; rlb = true }))
    ≡ record { mml = mml; mmwp = mmwp; rlb = true }
opened mml mmwp = search rules

-- ---- whose bytes the registers 2k and 2k + 1 have

or_false_right : (a b : Bool) → (a || b) ≡ true → b ≡ false → a ≡ true
or_false_right a b is none = search rules

-- on RV32 each has four bytes, and on RV64 the first has eight and the other none
module _ (profile : Profile) (k i : ℕ) where
  both_apart : holds_byte_of profile (2 * k + 1) i ≡ true
      → (nat_lt i (8 * k) || holds_byte_of profile (2 * k) i) ≡ false
  both_apart holds = search rules

  all_of_both : ((nat_lt i (8 * k) || holds_byte_of profile (2 * k) i) || holds_byte_of profile (2 * k + 1) i)
      ≡ nat_lt i (8 * suc k)
  all_of_both = grind (arith, nat_tests)

module _ (file : RegisterFile) (legal : IsLegal file) where
  abbrev n : ℕ
  n = file.profile.entries

  -- the file's mseccfg, with bypass on, if the hart has it
  abbrev wanted : MseccfgFields
  wanted = record { mml = file.mseccfg.mml; mmwp = file.mseccfg.mmwp; rlb = true }

  abbrev open_fields : MseccfgFields
  open_fields = cond file.profile.has_smepmp wanted reset_mseccfg

  -- where a legal configuration is stored over an unlocked one
  stored_open : (c : Configuration) → (file.mseccfg.mml ≡ false → is_reserved c ≡ false)
      → admitted open_fields.mml open_fields.rlb reset_entry.configuration c ≡ c
  stored_open c unreserved = search rules

  abbrev addressed_entry : ℕ → Entry
  addressed_entry i = record reset_entry { address = (entry_at file.entries i).address }

  past_file : (i : ℕ) → n ≤ i → entry_at file.entries i ≡ reset_entry
  past_file i past = get_or_past file.entries i reset_entry (omega (arith, legal.count))

  -- ---- addresses

  address_events : ℕ → List Event
  address_events zero = []
  address_events (suc k) = address_events k ++ Write (Addr k) (entry_at file.entries k).address ∷ []

  record IsAddressed (now : RegisterFile) (k : ℕ) : Type 0 where
    hart : now.profile ≡ file.profile
    fields : now.mseccfg ≡ open_fields
    many : length now.entries ≡ n
    done : (i : ℕ) → i < k → entry_at now.entries i ≡ addressed_entry i
    rest : (i : ℕ) → k ≤ i → entry_at now.entries i ≡ reset_entry

  -- no address is frozen before configurations are written
  thawed : (now : RegisterFile) (k : ℕ) → IsAddressed now k → is_address_frozen now k ≡ false
  thawed now k before = rw (before.rest k (omega arith), before.rest (suc k) (omega arith)) refl

  address_next : (now : RegisterFile) (k : ℕ) → k < n → IsAddressed now k
      → IsAddressed (written now (Addr k) (entry_at file.entries k).address) (suc k)
  address_next now k inside before =
      search (rules, tests, mod-eq_of_lt, own_address_written, thawed, length-written, other_address)

  addressed_to : (start : RegisterFile) → IsAddressed start 0 → (k : ℕ) → k ≤ n
      → IsAddressed (fold step start (address_events k)) k
  unfolding address_events
  addressed_to start first zero within = first
  addressed_to start first (suc k) within =
      rw (fold-append step start (address_events k) (Write (Addr k) (entry_at file.entries k).address ∷ []))
      (address_next (fold step start (address_events k)) k (omega arith) (addressed_to start first k (omega arith)))

  -- ---- configurations

  abbrev word : ℕ → ℕ
  word q = configuration_word file q

  -- two registers for each eight entries: on RV32 each has four bytes, on RV64 the first has all
  configuration_events : ℕ → List Event
  configuration_events zero = []
  configuration_events (suc k) =
      configuration_events k ++ Write (Cfg (2 * k)) (word (2 * k)) ∷ Write (Cfg (2 * k + 1)) (word (2 * k + 1)) ∷ []

  -- entries whose configurations are the file's where the test holds, and as reset left them where not
  record IsConfigured (now : RegisterFile) (is_done : ℕ → Bool) : Type 0 where
    hart : now.profile ≡ file.profile
    fields : now.mseccfg ≡ open_fields
    many : length now.entries ≡ n
    done : (i : ℕ) → is_done i ≡ true → entry_at now.entries i ≡ entry_at file.entries i
    rest : (i : ℕ) → is_done i ≡ false → entry_at now.entries i ≡ addressed_entry i

  byte_in_word : (q place : ℕ) → place < bytes_in file.profile q → slice_index (to_le_bytes w64 (word q)) place
      ≡ byte_of (entry_at file.entries (4 * q + place)).configuration
  unfolding configuration_word
  byte_in_word q place near =
      word_gives (λ j. byte_in file q (4 * q + j)) (word q) (λ j _. byte_within file q (4 * q + j)) refl place
      (omega (arith, near, most_bytes file.profile q))
      ∙ rw (held file.profile q (4 * q + place) (omega arith) (omega arith)) refl

  module _ (now : RegisterFile) (is_done : ℕ → Bool) (q : ℕ) (before : IsConfigured now is_done)
      (fresh : (i : ℕ) → holds_byte_of file.profile q i ≡ true → is_done i ≡ false) where
    abbrev after : RegisterFile
    after = written now (Cfg q) (word q)

    stored_so : (place : ℕ) → place < bytes_in file.profile q
        → configured now q (word q) (4 * q + place) ≡ entry_at file.entries (4 * q + place)
    stored_so place near =
        let i = 4 * q + place in
        let target = entry_at file.entries i in
        let holds = held file.profile q i (omega arith) (omega arith) in
        configured_at now q (word q) place (rw before.hart near)
        ∙ rw (
          before.rest i (fresh i holds),
          byte_in_word q place near,
          configuration_back target.configuration,
          before.fields,
          stored_open target.configuration (λ off. legal.unreserved off i),
          before.hart,
          legal.chosen i,
        ) refl

    -- an entry of the register, or none where the hart has no more
    done_here : (i : ℕ) → holds_byte_of file.profile q i ≡ true → entry_at after.entries i ≡ entry_at file.entries i
    done_here i holds = elim (cases_lt i n) [
      | inl inside ↦
          let low = low_of file.profile q i holds in
          let high = high_of file.profile q i holds in
          let same : 4 * q + (i - 4 * q) ≡ i = omega arith in
          let here = configured_place now q (word q) i (omega (arith, before.many)) in
          here ∙ rw same at (stored_so (i - 4 * q) (omega arith))
      | inr past ↦
          get_or_past after.entries i reset_entry (omega (arith, length-written now (Cfg q) (word q), before.many))
          ∙ sym (past_file i past)
    ]

    stays : (i : ℕ) → holds_byte_of file.profile q i ≡ false → entry_at after.entries i ≡ entry_at now.entries i
    stays i none = entry_kept now (word q) (Cfg q) i (rw before.hart none)

    configuration_next : IsConfigured after (λ i. is_done i || holds_byte_of file.profile q i)
    configuration_next = record {
      hart = before.hart;
      fields = before.fields;
      many = length-written now (Cfg q) (word q) ∙ before.many;
      done = λ i is. elim (cases_Bool (holds_byte_of file.profile q i)) [
        | inl holds ↦ done_here i holds
        | inr none ↦ stays i none ∙ before.done i (or_false_right (is_done i) _ is none)
      ];
      rest = λ i is.
          let neither = or_parts (is_done i) _ is in
          stays i neither.1 ∙ before.rest i neither.0;
    }

  -- the first of two registers, and both
  module _ (k : ℕ) where
    abbrev is_first : ℕ → Bool
    is_first i = nat_lt i (8 * k) || holds_byte_of file.profile (2 * k) i

    abbrev is_second : ℕ → Bool
    is_second i = is_first i || holds_byte_of file.profile (2 * k + 1) i

    fresh_first : (i : ℕ) → holds_byte_of file.profile (2 * k) i ≡ true → nat_lt i (8 * k) ≡ false
    fresh_first i holds = le-ltb i (8 * k) (omega (arith, low_of file.profile (2 * k) i holds))

    fresh_second : (i : ℕ) → holds_byte_of file.profile (2 * k + 1) i ≡ true → is_first i ≡ false
    fresh_second i holds = both_apart file.profile k i holds

    both : (i : ℕ) → is_second i ≡ nat_lt i (8 * suc k)
    both i = all_of_both file.profile k i

  configured_to : (start : RegisterFile) → IsConfigured start (λ i. nat_lt i 0) → (k : ℕ)
      → IsConfigured (fold step start (configuration_events k)) (λ i. nat_lt i (8 * k))
  unfolding configuration_events
  configured_to start first zero = first
  configured_to start first (suc k) =
      let now = fold step start (configuration_events k) in
      let one = configuration_next now (λ i. nat_lt i (8 * k)) (2 * k) (configured_to start first k) (fresh_first k) in
      let two = configuration_next (written now (Cfg (2 * k)) (word (2 * k))) (is_first k) (2 * k + 1) one
      (fresh_second k) in
      rw (fold-append step start (configuration_events k)
      (Write (Cfg (2 * k)) (word (2 * k)) ∷ Write (Cfg (2 * k + 1)) (word (2 * k + 1)) ∷ [])) (record {
        hart = two.hart;
        fields = two.fields;
        many = two.many;
        done = λ i is. two.done i (both k i ∙ is);
        rest = λ i is. two.rest i (both k i ∙ is);
      })

  from_addressed : (now : RegisterFile) → IsAddressed now n → IsConfigured now (λ i. nat_lt i 0)
  from_addressed now before = search (rules, tests, ltb-true, past_file)

  -- ---- mseccfg

  final : (now : RegisterFile) → now.profile ≡ file.profile → now.mseccfg ≡ open_fields → now.entries ≡ file.entries
      → written now Mseccfg (mseccfg_value file.mseccfg) ≡ file
  final now hart fields entries = search rules

  abbrev after_opening : RegisterFile
  after_opening = written (reset_file file.profile) Mseccfg (mseccfg_value wanted)

  opened_fields : after_opening.mseccfg ≡ open_fields
  opened_fields =
      let none : is_any_locked (reset_file file.profile).entries ≡ false =
      none_any (λ (e : Entry). e.configuration.locked) (replicate n reset_entry) reset_entry
      (λ i inside. ap (λ (e : Entry). e.configuration.locked) (reset_at n i)) in
      ap (λ (m : MseccfgFields). cond file.profile.has_smepmp m reset_mseccfg)
      (rw none (opened file.mseccfg.mml file.mseccfg.mmwp))

  started : IsAddressed after_opening 0
  started = search (rules, tests, opened_fields, length-replicate, reset_at)

  -- so many pairs of configuration registers have bytes of entries
  abbrev pairs : ℕ
  pairs = (n + 7) / 8

  entries_restored : (now : RegisterFile) → IsConfigured now (λ i. nat_lt i (8 * pairs)) → now.entries ≡ file.entries
  entries_restored now whole =
      entries_by now.entries (entry_at file.entries)
      (λ k inside. whole.done k (lt-ltb k (8 * pairs) (omega (arith, whole.many))))
      ∙ ap (λ (m : ℕ). map (entry_at file.entries) (range_with_len 0 m)) (whole.many ∙ sym legal.count)
      ∙ sym (entries_by file.entries (entry_at file.entries) (λ k inside. refl))

  reached : (events : List Event) × (replay file.profile events ≡ file)
  reached =
      let addresses = address_events n in
      let configurations = configuration_events pairs in
      let last : Event = Write Mseccfg (mseccfg_value file.mseccfg) in
      let first = fold step after_opening addresses in
      let whole = configured_to first
      (from_addressed first (addressed_to after_opening started n (omega arith))) pairs in (
        Write Mseccfg (mseccfg_value wanted) ∷ (addresses ++ (configurations ++ last ∷ [])),
        rw (
          fold-append step after_opening addresses (configurations ++ last ∷ []),
          fold-append step first configurations (last ∷ []),
        ) (final (fold step first configurations) whole.hart whole.fields
            (entries_restored (fold step first configurations) whole)),
      )

pub reachable_law : ReachableLaw
reachable_law file legal = reached file legal
