-- The reasons of a configuration register's write, found for eight bytes at once.
use borrow.Author.Tests.{tests}
use Rattle.std.proofs.Common.{rules, ◌≡◌, ◌≢◌, ℕ, zero, suc, ◌+◌, ◌-◌, ◌*◌, ◌<◌, ◌≤◌, ◌^◌, Bool, true, false, not, cond, ◌&&◌, ◌||◌, ◌==◌, nat_lt}
use Rattle.std.proofs.Common.{length, refl, sym, ap, ◌∙◌, inl, inr, arith}
use Rattle.std.specs.List.{list_any, range_with_len}
use mir.Val.{bool_byte}
use Rattle.std.specs.Int.Bits.{bit_xor}
use Rattle.std.proofs.lemmas.Bool.{and_right, cases_Bool, cases_lt, eqb-true, le-ltb, lt-ltb, ne_eqb, not-false}
use Rattle.pmp_core.specs.declared.csr.Csr.{Csr}
use Rattle.pmp_core.specs.declared.csr.Csr.TheVariants.{Addr, Cfg}
use Rattle.pmp_core.specs.declared.hart.Profile.{Profile}
use Rattle.pmp_core.specs.declared.write_reasons.EntryReasons.{EntryReasons}
use Rattle.pmp_core.specs.declared.write_reasons.WriteReason.{WriteReason}
use Rattle.pmp_core.specs.declared.write_reasons.WriteReason.TheVariants.{Frozen, Tor, Reserved, Lockdown, Grain}
use Rattle.pmp_core.specs.Bytes.{byte}
use Rattle.pmp_core.specs.Configuration.{Configuration, bit_of, byte_of, configuration_of}
use Rattle.pmp_core.specs.Entry.{Entry}
use Rattle.pmp_core.specs.Hart.{holds_byte_of}
use Rattle.pmp_core.specs.RegisterFile.{RegisterFile, entry_at, is_frozen}
use Rattle.pmp_core.specs.RegisterValue.{configuration_word}
use Rattle.pmp_core.specs.RegisterWrite.{holds}
use Rattle.pmp_core.specs.WriteReasons.{AreMarked, Marks, byte_for, has_reason, is_entry_reason, is_some_entry_reason}
use Rattle.pmp_core.proofs.AbsentBytes.{alike, is_absent_byte}
use Rattle.pmp_core.proofs.Configuring.{high_of, most_bytes, none_above, none_below}
use Rattle.pmp_core.proofs.EachReason.{none_at, none_between, not_own}
use Rattle.pmp_core.proofs.Restored.{entry_past}
use Rattle.pmp_core.proofs.StoredBytes.{not_same}
use Rattle.pmp_core.proofs.WordBytes.{differ_byte, of_eight, word_from, zero_byte}
use Rattle.pmp_core.proofs.Writes.{word_bytes, word_entry}

-- ---- two words differ where some byte does

same_words : (one other : ℕ) → one < 2 ^ 64 → other < 2 ^ 64 → ((j : ℕ) → j < 8 → byte one j ≡ byte other j) → one ≡ other
same_words one other small few same =
    sym (word_from (byte other) one small same) ∙ word_from (byte other) other few (λ j near. refl)

module _ (one other : ℕ) (small : one < 2 ^ 64) (few : other < 2 ^ 64) (a : ℕ) where
  abbrev differ : ℕ → Bool
  differ i = not (byte one (i - a) == byte other (i - a))

  none_differs : not (one == other) ≡ false → (i : ℕ) → differ i ≡ false
  none_differs none i =
      not_same (byte one (i - a)) (byte other (i - a))
      (ap (λ w. byte w (i - a)) (eqb-true one other (not-false (one == other) none)))

  all_same : ((j : ℕ) → j < 8 → differ (a + j) ≡ false) → not (one == other) ≡ false
  all_same none = not_same one other (same_words one other small few (λ j near.
      let place : a + j - a ≡ j = omega arith in
      eqb-true (byte one j) (byte other j) (not-false _ (rw place at (none j near)))))

  -- by a test of numbers from a on
  pub any_byte : (p : ℕ → Bool) → ((j : ℕ) → j < 8 → not (byte one j == byte other j) ≡ p (a + j))
      → not (one == other) ≡ list_any p (range_with_len a 8)
  any_byte p is = alike _ _
      (λ none. none_between p a 8 (λ i low high.
      let place : a + (i - a) ≡ i = omega arith in
      sym (ap p place) ∙ sym (is (i - a) (omega arith)) ∙ none_differs none i))
      (λ none. all_same (λ j near.
      let place : a + j - a ≡ j = omega arith in
      rw place (is j near ∙ none_at p a 8 (a + j) none (omega arith) (omega arith))))

  -- by one of the first n numbers, which holds for none outside these eight
  pub any_number : (r : ℕ → Bool) (n : ℕ) → ((i : ℕ) → i < n → (a ≤ i → a + 8 ≤ i) → r i ≡ false)
      → ((j : ℕ) → j < 8 → not (byte one j == byte other j) ≡ (nat_lt (a + j) n && r (a + j)))
      → not (one == other) ≡ list_any r (range_with_len 0 n)
  any_number r n outside is = alike _ _
      (λ none. none_between r 0 n (λ i low high. elim (cases_lt i a) [
        | inl below ↦ outside i (omega arith) (λ from. absurd (omega arith))
        | inr from ↦ elim (cases_lt i (a + 8)) [
          | inr past ↦ outside i (omega arith) (λ _. past)
          | inl near ↦
              let place : a + (i - a) ≡ i = omega arith in
              let here = sym (is (i - a) (omega arith)) ∙ none_differs none i in
              rw (place, lt-ltb i n (omega arith)) at here
        ]
      ]))
      (λ none. all_same (λ j near.
      let place : a + j - a ≡ j = omega arith in
      rw place (is j near ∙ elim (cases_lt (a + j) n) [
        | inl inside ↦ rw (lt-ltb (a + j) n inside) (none_at r 0 n (a + j) none (omega arith) (omega arith))
        | inr past ↦ rw (le-ltb (a + j) n past) refl
      ])))

-- ---- a word for a reason

module _ (reason : WriteReason) (file : RegisterFile) (csr : Csr) (value : ℕ) where
  pub some_of : (word first : ℕ) → word < 2 ^ 64 → Marks word first reason file csr value
      → not (word == 0) ≡ is_some_entry_reason reason file csr value
  some_of word first small marks = any_number word 0 small (omega arith) first (is_entry_reason reason file csr value)
      (length file.entries) marks.beside (λ j near. ap (λ n. not (byte word j == n)) (zero_byte j near) ∙ marks.there j near)

  -- where no entry has it
  pub none_marked : (first : ℕ) → ((i : ℕ) → i < length file.entries → is_entry_reason reason file csr value i ≡ false)
      → Marks 0 first reason file csr value
  none_marked first none = record {
    there = λ j near. ap (λ n. not (n == 0)) (zero_byte j near) ∙ elim (cases_lt (first + j) (length file.entries)) [
      | inl inside ↦ rw (lt-ltb (first + j) (length file.entries) inside) (sym (none (first + j) inside))
      | inr past ↦ rw (le-ltb (first + j) (length file.entries) past) refl
    ];
    beside = λ i inside _. none i inside;
  }

  mark_is : (word first i : ℕ) → Marks word first reason file csr value → first ≤ i → i < first + 8
      → i < length file.entries → not (byte word (i - first) == 0) ≡ is_entry_reason reason file csr value i
  mark_is word first i marks low high inside =
      let place : first + (i - first) ≡ i = omega arith in
      rw (place, lt-ltb i (length file.entries) inside) at (marks.there (i - first) (omega arith))

or_right : (a b c d e : Bool) → ((((a || b) || c) || d) || e) ≡ (a || (b || (c || (d || (e || false)))))
or_right a b c d e = search (rules, tests)

pub reasons_at : (found : EntryReasons) (file : RegisterFile) (csr : Csr) (value i : ℕ) → AreMarked found file csr value
    → found.first ≤ i → i < found.first + 8 → i < length file.entries
    → let set = λ (word : ℕ). not (byte word (i - found.first) == 0) in
    ((((set found.frozen || set found.tor) || set found.reserved) || set found.lockdown) || set found.grain)
    ≡ has_reason file csr value i
reasons_at found file csr value i are low high inside =
    let is : (reason : WriteReason) (word : ℕ) → Marks word found.first reason file csr value
    → not (byte word (i - found.first) == 0) ≡ is_entry_reason reason file csr value i =
    λ reason word marks. mark_is reason file csr value word found.first i marks low high inside in
    let has : WriteReason → Bool = λ reason. is_entry_reason reason file csr value i in
    (λ p. (((is Frozen found.frozen are.frozen p || is Tor found.tor are.tor p) || is Reserved found.reserved are.reserved p)
    || is Lockdown found.lockdown are.lockdown p) || is Grain found.grain are.grain p) ∙ or_right (has Frozen) (has Tor) (has Reserved) (has Lockdown) (has Grain)

-- where the register holds no entry of the hart
pub none_of_all : (file : RegisterFile) (csr : Csr) (value : ℕ)
    → ((i : ℕ) → i < length file.entries → holds file.profile csr i ≡ false)
    → AreMarked (record { first = 0; frozen = 0; tor = 0; reserved = 0; lockdown = 0; grain = 0 }) file csr value
none_of_all file csr value none =
    let no : (reason : WriteReason) → Marks 0 0 reason file csr value = λ reason.
    none_marked reason file csr value 0 (λ i inside. not_own reason file csr value i (none i inside)) in
    record { frozen = no Frozen; tor = no Tor; reserved = no Reserved; lockdown = no Lockdown; grain = no Grain }

-- an address register's is its own entry's
pub own_mark : (reason : WriteReason) (file : RegisterFile) (k value word : ℕ) (b : Bool) → k < length file.entries
    → word ≡ bool_byte b → b ≡ is_entry_reason reason file (Addr k) value k → Marks word k reason file (Addr k) value
own_mark reason file k value word b inside says is = rw says (record {
  there = own_byte;
  beside = λ i within apart. other i (λ here. let past = apart (omega (arith, here)) in absurd (omega (arith, here)));
})
  where
    other : (i : ℕ) → i ≢ k → is_entry_reason reason file (Addr k) value i ≡ false
    other i apart = not_own reason file (Addr k) value i (ne_eqb i k apart)

    first_is : (b : Bool) → not (byte (bool_byte b) 0 == 0) ≡ b
    first_is true = refl
    first_is false = refl

    past_first : (b : Bool) (j : ℕ) → j < 8 → not (byte (bool_byte b) (suc j) == 0) ≡ false
    past_first true = of_eight (λ j. not (byte 1 (suc j) == 0) ≡ false) refl refl refl refl refl refl refl refl
    past_first false = of_eight (λ j. not (byte 0 (suc j) == 0) ≡ false) refl refl refl refl refl refl refl refl

    own_byte : (j : ℕ) → j < 8 → not (byte (bool_byte b) j == 0)
        ≡ (nat_lt (k + j) (length file.entries) && is_entry_reason reason file (Addr k) value (k + j))
    own_byte zero near =
        let place : k + 0 ≡ k = omega arith in
        first_is b ∙ is ∙ rw (place, lt-ltb k (length file.entries) inside) refl
    own_byte (suc j) near = past_first b j (omega arith) ∙ rw (other (k + suc j) (omega arith))
        (sym (and_right (nat_lt (k + suc j) (length file.entries)) false refl))

-- ---- the bytes for no entry

zero_if_not : (there : Bool) (v : ℕ) → not (cond there v 0 == v) ≡ (not (v == 0) && not there)
zero_if_not true v = not_same v v refl ∙ sym (and_right (not (v == 0)) false refl)
zero_if_not false v = search (rules, tests)

pub absent_byte : (profile : Profile) (n q value j there : ℕ)
    → (holds_byte_of profile q (4 * q + j) && nat_lt (4 * q + j) n) ≡ nat_lt j there
    → not (cond (nat_lt j there) (byte value j) 0 == byte value j) ≡ is_absent_byte profile n q value (4 * q + j)
absent_byte profile n q value j there so =
    let place : j ≡ 4 * q + j - 4 * q = omega arith in
    zero_if_not (nat_lt j there) (byte value j) ∙ (λ i. not (byte value (place i) == 0) && not (sym so i))

-- ---- tests, some of them held back

picked_differs : (picked : Bool) (v o : ℕ) → not (cond picked v o == o) ≡ (picked && not (v == o))
picked_differs true v o = refl
picked_differs false v o = not_same o o refl

flag_is : (b : Bool) → not (bit_of b == 0) ≡ b
flag_is true = refl
flag_is false = refl

module _ (t : Configuration → Bool) (zero_not : t (configuration_of 0) ≡ false) where
  tested : (frozen there : Bool) (v : ℕ)
      → t (configuration_of (cond frozen 0 (cond there v 0))) ≡ (there && (not frozen && t (configuration_of v)))
  tested true true v = zero_not
  tested true false v = zero_not
  tested false true v = refl
  tested false false v = zero_not

module _ (a b g t : Bool) where
  pub held_back : g ≡ false → (a && b && g && t) ≡ false
  held_back off = search (rules, tests)

  pub let_through : g ≡ true → (a && b && g && t) ≡ (a && (b && t))
  let_through on = search (rules, tests)

pub together : (a b m r t : Bool) → (a && b && m && r && t) ≡ (a && b && (m && r) && t)
together a b m r t = search (rules, tests)

-- ---- entries that have a reason

module _ (file : RegisterFile) (q value old there : ℕ) (is : old ≡ configuration_word file q)
    (so : (j : ℕ) → j < 8
    → (holds_byte_of file.profile q (4 * q + j) && nat_lt (4 * q + j) (length file.entries)) ≡ nat_lt j there) where
  abbrev n : ℕ
  n = length file.entries

  -- byte j's entry is frozen, as its byte says
  abbrev frozen_at : ℕ → Bool
  frozen_at j = (configuration_of (byte old j)).locked && not file.mseccfg.rlb

  abbrev has_byte : ℕ → Bool
  has_byte i = holds_byte_of file.profile q i

  own : (j : ℕ) → byte_for q value (4 * q + j) ≡ byte value j
  own j = let place : 4 * q + j - 4 * q ≡ j = omega arith in ap (byte value) place

  -- an entry that the register has_byte says so itself, and where it has_byte none, nothing is frozen
  frozen_there : (j : ℕ) → j < 8 → has_byte (4 * q + j) ≡ true → frozen_at j ≡ is_frozen file (4 * q + j)
  frozen_there j near it =
      ap (λ (c : Configuration). c.locked && not file.mseccfg.rlb)
      (word_entry file q old is j near (omega (arith, high_of file.profile q (4 * q + j) it)))

  byte_beside : (j : ℕ) → j < 8 → has_byte (4 * q + j) ≡ false → byte old j ≡ 0
  byte_beside j near other = word_bytes file q old (sym is) j near ∙ rw other refl

  frozen_beside : (j : ℕ) → j < 8 → has_byte (4 * q + j) ≡ false → frozen_at j ≡ false
  frozen_beside j near other = rw (byte_beside j near other) refl

  outside : (reason : WriteReason) (i : ℕ) → (4 * q ≤ i → 4 * q + 8 ≤ i) → is_entry_reason reason file (Cfg q) value i ≡ false
  outside reason i apart = not_own reason file (Cfg q) value i (elim (cases_lt i (4 * q)) [
    | inl below ↦ none_below file.profile q i below
    | inr low ↦ none_above file.profile q i (omega (arith, apart low, most_bytes file.profile q))
  ])

  -- ---- the write would change a frozen one

  frozen_byte : (j : ℕ) → j < 8 → not (cond (frozen_at j) (byte value j) (byte old j) == byte old j)
      ≡ (nat_lt (4 * q + j) n && is_entry_reason Frozen file (Cfg q) value (4 * q + j))
  frozen_byte j near = picked_differs (frozen_at j) (byte value j) (byte old j) ∙ elim (cases_Bool (has_byte (4 * q + j))) [
    | inr other ↦ rw (frozen_beside j near other, not_own Frozen file (Cfg q) value (4 * q + j) other)
        (sym (and_right (nat_lt (4 * q + j) n) false refl))
    | inl it ↦
        let i = 4 * q + j in
        let c = (entry_at file.entries i).configuration in
        let same : byte old j ≡ byte_of c = word_bytes file q old (sym is) j near ∙ rw it refl in
        elim (cases_lt i n) [
          | inl inside ↦ rw (lt-ltb i n inside, it) ((λ k. frozen_there j near it k && not (byte value j == same k))
              ∙ ap (λ b. is_frozen file i && not (b == byte_of c)) (sym (own j)))
          | inr past ↦
              let free : frozen_at j ≡ false = frozen_there j near it
              ∙ ap (λ (e : Entry). e.configuration.locked && not file.mseccfg.rlb) (entry_past file i past) in
              rw (free, le-ltb i n past) refl
        ]
  ]

  pub marks_frozen : (word : ℕ) → ((j : ℕ) → j < 8 → byte word j ≡ cond (frozen_at j) (byte value j) (byte old j))
      → Marks (bit_xor word old) (4 * q) Frozen file (Cfg q) value
  marks_frozen word bytes = record {
    there = λ j near. differ_byte word old j near ∙ ap (λ b. not (b == byte old j)) (bytes j near) ∙ frozen_byte j near;
    beside = λ i _. outside Frozen i;
  }

  -- ---- what it would store in one that isn't frozen

  module _ (reason : WriteReason) (gate : Bool) (t : Configuration → Bool) (zero_not : t (configuration_of 0) ≡ false)
      (off : gate ≡ false → (i : ℕ) → is_entry_reason reason file (Cfg q) value i ≡ false)
      (on : gate ≡ true → (i : ℕ) → is_entry_reason reason file (Cfg q) value i
      ≡ (has_byte i && (not (is_frozen file i) && t (configuration_of (byte_for q value i))))) (word : ℕ)
      (bytes : (j : ℕ) → j < 8
      → byte word j ≡ bit_of (t (configuration_of (cond (frozen_at j) 0 (cond (nat_lt j there) (byte value j) 0))))) where
    stored_byte : gate ≡ true → (j : ℕ) → j < 8 → not (byte word j == 0)
        ≡ (nat_lt (4 * q + j) n && is_entry_reason reason file (Cfg q) value (4 * q + j))
    stored_byte lets j near =
        let i = 4 * q + j in
        let here = t (configuration_of (byte value j)) in
        let found : not (byte word j == 0) ≡ (nat_lt j there && (not (frozen_at j) && here)) =
        ap (λ b. not (b == 0)) (bytes j near) ∙ flag_is _
        ∙ tested t zero_not (frozen_at j) (nat_lt j there) (byte value j) in
        found ∙ elim (cases_Bool (has_byte i)) [
          | inr other ↦
              let none : nat_lt j there ≡ false = sym (so j near) ∙ rw other refl in
              rw (none, not_own reason file (Cfg q) value i other) (sym (and_right (nat_lt i n) false refl))
          | inl it ↦
              let within : nat_lt j there ≡ nat_lt i n = sym (so j near) ∙ rw it refl in
              (λ k. within k && (not (frozen_there j near it k) && here))
              ∙ ap (λ b. nat_lt i n && (not (is_frozen file i) && t (configuration_of b))) (sym (own j))
              ∙ rw it at (ap (λ b. nat_lt i n && b) (sym (on lets i)))
        ]

    pub marks_stored : (flags : ℕ) → flags ≡ cond gate word 0 → Marks flags (4 * q) reason file (Cfg q) value
    marks_stored flags are = elim (cases_Bool gate) [
      | inr shut ↦ rw (are, shut) (none_marked reason file (Cfg q) value (4 * q) (λ i _. off shut i))
      | inl lets ↦ rw (are, lets) (record { there = stored_byte lets; beside = λ i _. outside reason i })
    ]
