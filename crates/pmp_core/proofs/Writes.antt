-- Numbers that a write leaves.
use borrow.Author.Tests.{tests}
use Rattle.std.proofs.Common.{rules, ◌≡◌, ◌≢◌, ℕ, ◌+◌, ◌-◌, ◌*◌, ◌%◌, ◌<◌, ◌≤◌, true, false, List, length, slice_index}
use Rattle.std.proofs.Common.{cond, nat_lt, ◌&&◌, min, subst, get_or-set_other, get_or-set_same, length-set, refl, sym, ap, ◌∙◌, arith, inl, inr}
use Rattle.std.proofs.Math.ListN.{set}
use Rattle.std.proofs.Math.Nat.{mod-lt, mod-eq_of_lt}
use Rattle.std.specs.Int.{w64, to_le_bytes}
use Rattle.std.proofs.lemmas.Bool.{cases_Bool, cases_lt, cases_eq, le-ltb, lt-ltb}
use Rattle.std.proofs.lemmas.List.FromFn.{fill_by_all, get_or-map-range_with_len}
use Rattle.pmp_core.specs.declared.csr.Csr.TheVariants.{Cfg, Addr}
use Rattle.pmp_core.specs.Entry.{Entry}
use Rattle.pmp_core.specs.declared.event.Event.TheVariants.{Write}
use Rattle.pmp_core.specs.declared.mseccfg.MseccfgFields.{MseccfgFields}
use Rattle.pmp_core.specs.declared.saved_registers.SavedRegisters.{SavedRegisters}
use Rattle.pmp_core.specs.Configuration.{Configuration, byte_of, configuration_of}
use Rattle.pmp_core.specs.Hart.{bytes_in, holds_byte_of, word_addresses}
use Rattle.pmp_core.specs.Mseccfg.{mseccfg_fields, mseccfg_value}
use Rattle.pmp_core.specs.RegisterFile.{RegisterFile, IsLegal, entry_at}
use Rattle.pmp_core.specs.RegisterValue.{byte_in, configuration_word, register_value}
use Rattle.pmp_core.specs.RegisterWrite.{configured, configurations_written, is_address_frozen, stored}
use Rattle.pmp_core.specs.RegisterWrite.{written}
use Rattle.pmp_core.specs.SavedRegisters.{fields_in, hart_in, hart_number, restored_entry, restored_file}
use Rattle.pmp_core.specs.SavedRegisters.{saved_registers}
use Rattle.pmp_core.proofs.Configuring.{byte_within, configured_at, held, kept_above, kept_below}
use Rattle.pmp_core.proofs.Configuring.{most_bytes, none_above}
use Rattle.pmp_core.proofs.Legal.{configured_place, length-written, step_legal, zero_fits}
use Rattle.pmp_core.proofs.Locks.{configured_address, other_address}
use Rattle.pmp_core.proofs.Places.{entries_by}
use Rattle.pmp_core.proofs.Restored.{entry_in, entry_past, entry_seen, file_is, few_in, length_in, mseccfg_in, profile_in}
use Rattle.pmp_core.proofs.Saved.{fields_back, restored_legal, stored_as_is}
use Rattle.pmp_core.proofs.StoredBytes.{configuration_back}
use Rattle.pmp_core.specs.Bytes.{ArePut, byte}
use Rattle.pmp_core.proofs.WordBytes.{word_gives}

-- ---- numbers that a file is saved as

-- number by number
pub record IsKept (saved : SavedRegisters) (file : RegisterFile) : Type 0 where
  pub addresses : (k : ℕ) → k < 64 → slice_index saved.addresses k ≡ (entry_at file.entries k).address
  pub configurations : (k : ℕ) → k < 64
      → slice_index saved.configurations k ≡ byte_of (entry_at file.entries k).configuration
  pub mseccfg : saved.mseccfg ≡ mseccfg_value file.mseccfg
  pub number : saved.entries ≡ hart_number file.profile

pub saved_by : (saved : SavedRegisters) (file : RegisterFile) → length saved.addresses ≡ 64
    → length saved.configurations ≡ 64 → IsKept saved file → saved_registers file ≡ saved
unfolding saved_registers
saved_by saved file addresses configurations kept =
    let numbers : List ℕ → List ℕ → ℕ → ℕ → SavedRegisters = λ a c m n. record {
      addresses = a;
      configurations = c;
      mseccfg = m;
      entries = n;
    } in
    let address : ℕ → ℕ = λ k. (entry_at file.entries k).address in
    let byte : ℕ → ℕ = λ k. byte_of (entry_at file.entries k).configuration in
    sym (ap (λ (a : List ℕ). numbers a saved.configurations saved.mseccfg saved.entries)
    (fill_by_all address saved.addresses 64 0 addresses kept.addresses)
    ∙ ap (λ (c : List ℕ). numbers (saved_registers file).addresses c saved.mseccfg saved.entries)
    (fill_by_all byte saved.configurations 64 0 configurations kept.configurations)
    ∙ ap (λ (m : ℕ). numbers (saved_registers file).addresses (saved_registers file).configurations m saved.entries)
    kept.mseccfg
    ∙ ap (numbers (saved_registers file).addresses (saved_registers file).configurations (mseccfg_value file.mseccfg))
    kept.number)

pub kept_in : (saved : SavedRegisters) (file : RegisterFile) → saved_registers file ≡ saved → IsKept saved file
unfolding saved_registers
kept_in saved file is = record {
  addresses = λ k inside. ap (λ (s : SavedRegisters). slice_index s.addresses k) (sym is)
      ∙ get_or-map-range_with_len (λ i. (entry_at file.entries i).address) 0 64 k k 0 inside (omega arith);
  configurations = λ k inside. ap (λ (s : SavedRegisters). slice_index s.configurations k) (sym is)
      ∙ get_or-map-range_with_len (λ i. byte_of (entry_at file.entries i).configuration) 0 64 k k 0 inside
      (omega arith);
  mseccfg = ap (λ (s : SavedRegisters). s.mseccfg) (sym is);
  number = ap (λ (s : SavedRegisters). s.entries) (sym is);
}

-- ---- entry by entry

-- numbers that a file's entry is saved as stand for it
module _ (new : SavedRegisters) (file : RegisterFile) (legal : IsLegal file) (hart : hart_in new ≡ file.profile)
    (fields : fields_in new ≡ file.mseccfg) where
  pub entry_by : (k : ℕ) → slice_index new.configurations k ≡ byte_of (entry_at file.entries k).configuration
      → slice_index new.addresses k % word_addresses (hart_in new) ≡ (entry_at file.entries k).address
      → restored_entry new k ≡ entry_at file.entries k
  entry_by k byte address = search (rules, tests, stored_as_is, legal, fields, hart, configuration_back)

-- the same numbers stand for the same entry
pub same_entry : (old new : SavedRegisters) → new.entries ≡ old.entries → new.mseccfg ≡ old.mseccfg → (k : ℕ)
    → slice_index new.configurations k ≡ slice_index old.configurations k
    → slice_index new.addresses k ≡ slice_index old.addresses k → restored_entry new k ≡ restored_entry old k
same_entry old new number mseccfg k configuration address = rw (number, mseccfg, configuration, address) refl

pub same_fields : (old new : SavedRegisters) → new.entries ≡ old.entries → new.mseccfg ≡ old.mseccfg
    → fields_in new ≡ fields_in old
same_fields old new number mseccfg = rw (number, mseccfg) refl

-- ---- a configuration register

-- byte j of the register, of which the lowest ones are there, as the numbers keep it
pub byte_kept : (saved : SavedRegisters) (file : RegisterFile) → restored_file saved ≡ file → (q j there : ℕ)
    → (holds_byte_of file.profile q (4 * q + j) && nat_lt (4 * q + j) file.profile.entries) ≡ nat_lt j there
    → cond (nat_lt j there) (byte_of (restored_entry saved (4 * q + j)).configuration) 0 ≡ byte_in file q (4 * q + j)
byte_kept saved file is q j there so =
    let i = 4 * q + j in
    let count : length file.entries ≡ file.profile.entries =
    ap (λ (f : RegisterFile). length f.entries) (sym is) ∙ (restored_legal saved).count
    ∙ ap (λ (f : RegisterFile). f.profile.entries) is in
    rw (← so) (elim (cases_Bool (holds_byte_of file.profile q i)) [
      | inr other ↦ rw other refl
      | inl holds ↦ rw holds (elim (cases_lt i file.profile.entries) [
        | inl inside ↦ rw (lt-ltb i file.profile.entries inside)
            (ap (λ (e : Entry). byte_of e.configuration) (entry_seen saved file is i (omega (arith, count))))
        | inr past ↦ rw (le-ltb i file.profile.entries past)
            (ap (λ (e : Entry). byte_of e.configuration) (sym (entry_past file i (omega (arith, count)))))
      ])
    ])

pub byte_once : (one other : Configuration) → byte_of one ≡ byte_of other → one ≡ other
byte_once one other same = search rules

pub word_bytes : (file : RegisterFile) (q word : ℕ) → configuration_word file q ≡ word → (j : ℕ) → j < 8
    → byte word j ≡ byte_in file q (4 * q + j)
unfolding configuration_word
word_bytes file q word same j near =
    word_gives (λ i. byte_in file q (4 * q + i)) word (λ i _. byte_within file q (4 * q + i)) same j near

pub word_plain : (file : RegisterFile) (q word : ℕ) → word ≡ configuration_word file q → (j : ℕ) → j < 8
    → byte_of (configuration_of (byte word j)) ≡ byte word j
word_plain file q word is j near =
    rw (word_bytes file q word (sym is) j near) (elim (cases_Bool (holds_byte_of file.profile q (4 * q + j))) [
      | inl holds ↦ rw holds (ap byte_of (configuration_back (entry_at file.entries (4 * q + j)).configuration))
      | inr other ↦ rw other refl
    ])

-- the byte of an entry says its configuration
pub word_entry : (file : RegisterFile) (q word : ℕ) → word ≡ configuration_word file q → (j : ℕ) → j < 8
    → j < bytes_in file.profile q
    → configuration_of (byte word j) ≡ (entry_at file.entries (4 * q + j)).configuration
word_entry file q word is j near there =
    let c = (entry_at file.entries (4 * q + j)).configuration in
    let own : byte_in file q (4 * q + j) ≡ byte_of c =
    rw (held file.profile q (4 * q + j) (omega arith) (omega arith)) refl in
    ap configuration_of (word_bytes file q word (sym is) j near ∙ own) ∙ configuration_back c

module _ (file : RegisterFile) (q value : ℕ) where
  -- the byte at this place after the write
  pub byte_written : (place result : ℕ)
      → (place < bytes_in file.profile q → 4 * q + place < length file.entries
      → result ≡ byte_of (stored file (4 * q + place) (slice_index (to_le_bytes w64 value) place)))
      → (length file.entries ≤ 4 * q + place → result ≡ 0)
      → (bytes_in file.profile q ≤ place → result ≡ 0)
      → result ≡ byte_in (written file (Cfg q) value) q (4 * q + place)
  byte_written place result there absent others = elim (cases_lt place (bytes_in file.profile q)) [
    | inr far ↦ others far ∙ rw (none_above file.profile q (4 * q + place) (omega arith)) refl
    | inl near ↦ rw (held file.profile q (4 * q + place) (omega arith) (omega arith))
        (elim (cases_lt (4 * q + place) (length file.entries)) [
          | inl inside ↦ there near inside ∙ ap (λ (e : Entry). byte_of e.configuration)
              (sym (configured_place file q value (4 * q + place) inside ∙ configured_at file q value place near))
          | inr past ↦ absent past ∙ ap (λ (e : Entry). byte_of e.configuration)
              (sym (entry_past (written file (Cfg q) value) (4 * q + place)
              (omega (arith, length-written file (Cfg q) value))))
        ])
  ]

  same_at : (j : ℕ) → j < bytes_in file.profile q → 4 * q + j < length file.entries
      → byte_in (written file (Cfg q) value) q (4 * q + j) ≡ byte_in file q (4 * q + j)
      → entry_at file.entries (4 * q + j) ≡ configured file q value (4 * q + j)
  same_at j near inside same =
      let entry = entry_at file.entries (4 * q + j) in
      let is = configured_at file q value j near in
      let written_at = configured_place file q value (4 * q + j) inside in
      let bytes = rw (held file.profile q (4 * q + j) (omega arith) (omega arith)) at same in
      let stays = byte_once _ _ (sym bytes ∙ ap (λ (e : Entry). byte_of e.configuration) (written_at ∙ is)) in
      ap (λ (c : Configuration). let e : Entry = record entry { configuration = c } in e) stays ∙ sym is

  -- a write after which the register reads what it read before changes no entry
  unchanged : configuration_word (written file (Cfg q) value) q ≡ configuration_word file q
      → file.entries ≡ configurations_written file q value
  unchanged same = entries_by file.entries (configured file q value) (λ k inside. elim (cases_lt k (4 * q)) [
    | inl below ↦ sym (kept_below file q value k below)
    | inr low ↦ elim (cases_lt k (4 * q + bytes_in file.profile q)) [
      | inl high ↦
          let place : 4 * q + (k - 4 * q) ≡ k = omega arith in
          let near : k - 4 * q < bytes_in file.profile q = omega arith in
          let within : k - 4 * q < 8 = omega (arith, near, most_bytes file.profile q) in
          let bytes = sym (word_bytes (written file (Cfg q) value) q _ same (k - 4 * q) within)
          ∙ word_bytes file q _ refl (k - 4 * q) within in
          subst (λ (i : ℕ). entry_at file.entries i ≡ configured file q value i) place
          (same_at (k - 4 * q) near (omega arith) bytes)
      | inr past ↦ sym (kept_above file q value k past)
    ]
  ])

  pub reads_same : register_value (written file (Cfg q) value) (Cfg q) ≡ register_value file (Cfg q)
      → file ≡ written file (Cfg q) value
  reads_same same = ap (λ (entries : List Entry). record file { entries = entries }) (unchanged same)

-- no entry's address is written
pub kept_address : (file : RegisterFile) (q value k : ℕ)
    → (entry_at (written file (Cfg q) value).entries k).address ≡ (entry_at file.entries k).address
kept_address file q value k = elim (cases_lt k (length file.entries)) [
  | inl inside ↦ ap (λ (e : Entry). e.address) (configured_place file q value k inside) ∙ configured_address file q value k
  | inr past ↦ ap (λ (e : Entry). e.address)
      (entry_past (written file (Cfg q) value) k (omega (arith, length-written file (Cfg q) value))
      ∙ sym (entry_past file k past))
]

module _ (old : SavedRegisters) (bytes : List ℕ) (q value word count : ℕ)
    (is : configuration_word (written (restored_file old) (Cfg q) value) q ≡ word)
    (counted : count ≡ min (length (restored_file old).entries - 4 * q) (bytes_in (restored_file old).profile q))
    (done : ArePut old.configurations bytes (4 * q) word count) where
  abbrev pub with_bytes : SavedRegisters
  with_bytes = record old { configurations = bytes }

  abbrev before : RegisterFile
  before = restored_file old

  abbrev after : RegisterFile
  after = written before (Cfg q) value

  legal : IsLegal after
  legal = step_legal before (restored_legal old) (Write (Cfg q) value)

  few : count ≤ 8
  few = omega (arith, counted, most_bytes before.profile q)

  -- an entry of which the register holds nothing
  other : (k : ℕ) → (4 * q ≤ k → 4 * q + count ≤ k) → entry_at after.entries k ≡ entry_at before.entries k
  other k outside = elim (cases_lt k (length before.entries)) [
    | inl inside ↦ configured_place before q value k inside ∙ elim (cases_lt k (4 * q)) [
      | inl below ↦ kept_below before q value k below
      | inr low ↦ kept_above before q value k (omega (arith, outside low, counted))
    ]
    | inr past ↦ entry_past after k (omega (arith, length-written before (Cfg q) value))
        ∙ sym (entry_past before k past)
  ]

  own_byte : (k : ℕ) → 4 * q ≤ k → k < 4 * q + count
      → slice_index bytes k ≡ byte_of (entry_at after.entries k).configuration
  own_byte k low high =
      let place : 4 * q + (k - 4 * q) ≡ k = omega arith in
      done.put k low high ∙ word_bytes after q word is (k - 4 * q) (omega (arith, few))
      ∙ ap (byte_in after q) place ∙ rw (held before.profile q k low (omega (arith, counted))) refl

  address : (k : ℕ) → (entry_at after.entries k).address ≡ (entry_at before.entries k).address
  address k = kept_address before q value k

  own_address : (k : ℕ) → k < length before.entries
      → slice_index old.addresses k % word_addresses (hart_in old) ≡ (entry_at after.entries k).address
  own_address k inside = search (rules, tests, entry_in, address)

  each : (k : ℕ) → k < length after.entries → entry_at after.entries k ≡ restored_entry with_bytes k
  each k there =
      let inside : k < length before.entries = omega (arith, length-written before (Cfg q) value) in
      let stays : (4 * q ≤ k → 4 * q + count ≤ k) → entry_at after.entries k ≡ restored_entry with_bytes k = λ outside.
      other k outside ∙ entry_in old k inside
      ∙ sym (same_entry old with_bytes refl refl k (done.kept k outside) refl) in
      elim (cases_lt k (4 * q)) [
        | inl below ↦ stays (λ low. absurd (omega arith))
        | inr low ↦ elim (cases_lt k (4 * q + count)) [
          | inl high ↦ sym (entry_by with_bytes after legal (sym (profile_in old)) (sym (mseccfg_in old)) k
              (own_byte k low high) (own_address k inside))
          | inr past ↦ stays (λ _. past)
        ]
      ]

  pub configurations_restored : restored_file with_bytes ≡ after
  configurations_restored = file_is with_bytes after (sym (profile_in old)) (sym (mseccfg_in old)) legal.count each

  pub configurations_canonical : length old.addresses ≡ 64 → length old.configurations ≡ 64 → saved_registers before ≡ old
      → saved_registers (restored_file with_bytes) ≡ with_bytes
  configurations_canonical long wide canonical =
      let numbers = kept_in old before canonical in
      let stays : (k : ℕ) → k < 64 → (4 * q ≤ k → 4 * q + count ≤ k)
      → slice_index bytes k ≡ byte_of (entry_at after.entries k).configuration = λ k below outside.
      done.kept k outside ∙ numbers.configurations k below
      ∙ ap (λ (e : Entry). byte_of e.configuration) (sym (other k outside)) in
      ap saved_registers configurations_restored ∙ saved_by with_bytes after long (done.long ∙ wide) (record {
        addresses = λ k below. numbers.addresses k below ∙ sym (address k);
        configurations = λ k below. elim (cases_lt k (4 * q)) [
          | inl under ↦ stays k below (λ low. absurd (omega arith))
          | inr low ↦ elim (cases_lt k (4 * q + count)) [
            | inl high ↦ own_byte k low high
            | inr past ↦ stays k below (λ _. past)
          ]
        ];
        mseccfg = numbers.mseccfg;
        number = numbers.number;
      })

-- ---- an address register

module _ (old : SavedRegisters) (i value kept : ℕ) (inside : i < length (restored_file old).entries)
    (free : is_address_frozen (restored_file old) i ≡ false)
    (is : kept ≡ value % word_addresses (hart_in old)) (long : length old.addresses ≡ 64) where
  abbrev file : RegisterFile
  file = restored_file old

  abbrev file_after : RegisterFile
  file_after = written file (Addr i) value

  abbrev pub with_address : SavedRegisters
  with_address = record old { addresses = set old.addresses i kept }

  near : i < length old.addresses
  near = omega (arith, length_in old, few_in old)

  own_entry : entry_at file_after.entries i ≡ record (entry_at file.entries i) { address = kept }
  own_entry = search (rules, tests, get_or-set_same, profile_in)

  address_entry : (k : ℕ) → k < length file_after.entries → entry_at file_after.entries k ≡ restored_entry with_address k
  address_entry k there =
      let within : k < length file.entries = omega (arith, length-written file (Addr i) value) in
      elim (cases_eq k i) [
        | inl here ↦
            let again : kept % word_addresses (hart_in old) ≡ kept =
            mod-eq_of_lt (rw is (mod-lt value (zero_fits (hart_in old)))) in
            let place = near in
            rw here (own_entry ∙ ap (λ (e : Entry). record e { address = kept }) (entry_in old i inside)
            ∙ rw (get_or-set_same, again) refl)
        | inr apart ↦ other_address file i value k apart ∙ entry_in old k within ∙ rw get_or-set_other refl
      ]

  pub address_restored : restored_file with_address ≡ file_after
  address_restored = file_is with_address file_after (sym (profile_in old)) (sym (mseccfg_in old))
      (step_legal file (restored_legal old) (Write (Addr i) value)).count address_entry

  pub address_changed : (entry_at file.entries i).address ≢ kept → restored_file with_address ≢ file
  address_changed differs same = search (rules, tests, address_restored, own_entry)

  pub address_canonical : length old.configurations ≡ 64 → saved_registers file ≡ old
      → saved_registers (restored_file with_address) ≡ with_address
  address_canonical len canonical =
      let numbers = kept_in old file canonical in
      ap saved_registers address_restored
      ∙ saved_by with_address file_after (simp length-set long) len (record {
        addresses = λ k below. elim (cases_eq k i) [
          | inl here ↦
              let place = near in
              rw here (rw get_or-set_same (ap (λ (e : Entry). e.address) (sym own_entry)))
          | inr apart ↦ rw get_or-set_other (numbers.addresses k below
              ∙ ap (λ (e : Entry). e.address) (sym (other_address file i value k apart)))
        ];
        configurations = λ k below. numbers.configurations k below ∙ ap byte_of (elim (cases_eq k i) [
          | inl here ↦ rw here (ap (λ (e : Entry). e.configuration) (sym own_entry))
          | inr apart ↦ ap (λ (e : Entry). e.configuration) (sym (other_address file i value k apart))
        ]);
        mseccfg = numbers.mseccfg;
        number = numbers.number;
      })

-- ---- mseccfg

module _ (old : SavedRegisters) (new : MseccfgFields) (value : ℕ) (is : value ≡ mseccfg_value new)
    (has : (hart_in old).has_smepmp ≡ true) where
  abbrev pub with_mseccfg : SavedRegisters
  with_mseccfg = record old { mseccfg = value }

  fields_read : fields_in with_mseccfg ≡ new
  fields_read = rw has (ap mseccfg_fields is ∙ fields_back new.mml new.mmwp new.rlb)

  -- as long as MML stays, a byte stands for the same
  mseccfg_entry : new.mml ≡ (fields_in old).mml → (k : ℕ) → restored_entry with_mseccfg k ≡ restored_entry old k
  mseccfg_entry same k = search rules

  pub mseccfg_restored : new.mml ≡ (fields_in old).mml
      → restored_file with_mseccfg ≡ record (restored_file old) { mseccfg = new }
  mseccfg_restored same = file_is with_mseccfg (record (restored_file old) { mseccfg = new }) (sym (profile_in old))
      fields_read (restored_legal old).count
      (λ k inside. entry_in old k inside ∙ sym (mseccfg_entry same k))

-- in the numbers that a file is saved as, a byte stands for the same also where MML rises
pub mseccfg_saved : (file : RegisterFile) (new : MseccfgFields) (value : ℕ) → value ≡ mseccfg_value new
    → (let numbers : SavedRegisters = record (saved_registers file) { mseccfg = value } in
    numbers ≡ saved_registers (record file { mseccfg = new }))
unfolding saved_registers
mseccfg_saved file new value is = search rules
