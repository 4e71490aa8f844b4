-- When a byte is stored as written.
use Rattle.std.proofs.lemmas.Bool.Decides.{nat_tests}
use Rattle.std.proofs.lemmas.Grind.{common_steps}
use borrow.Author.Tests.{tests}
use Rattle.std.proofs.Common.{rules, ◌≡◌, ℕ, ◌+◌, ◌*◌, ◌/◌, ◌%◌, ◌<◌, ◌≤◌, Bool, true, false, cond, not, ◌&&◌, ◌==◌}
use Rattle.std.proofs.Common.{nat_lt, refl, sym, ap, ◌∙◌, arith}
use Rattle.std.proofs.lemmas.Bool.{agree_below_at, false≢true, not-true, not-false, eqb-true, eq-eqb, and_parts}
use Rattle.pmp_core.specs.declared.configuration.AddressMatching.{AddressMatching}
use Rattle.pmp_core.specs.Configuration.{Configuration, configuration_of, byte_of, bit_of, field_of, matching_of, is_reserved}
use Rattle.pmp_core.specs.Grain.{is_na4, selectable}
use Rattle.pmp_core.specs.RegisterWrite.{without_reserved, admitted}
use Rattle.pmp_core.specs.Rights.{is_barred}

-- bits 6 and 5 are zero
abbrev pub is_plain : ℕ → Bool
is_plain byte = byte / 32 % 4 == 0

abbrev pub is_barred_byte : ℕ → Bool
is_barred_byte byte =
    let new = configuration_of byte in
    is_barred new.locked new.read new.write new.execute

pub bit_le : (b : Bool) → bit_of b ≤ 1
bit_le b = search rules

pub bit_back : (b : Bool) → (bit_of b == 1) ≡ b
bit_back b = search rules

pub field_le : (m : AddressMatching) → field_of m ≤ 3
field_le m = search rules

-- what a configuration reads is a byte with bits 6 and 5 clear
pub byte_plain : (c : Configuration) → (byte_of c / 32 % 4 ≡ 0) × (byte_of c < 256)
byte_plain c = search rules

-- and gives the configuration back
parts_back : (l f x w r : ℕ) → l ≤ 1 → f ≤ 3 → x ≤ 1 → w ≤ 1 → r ≤ 1
    → ((128 * l + 8 * f + 4 * x + 2 * w + r) / 128 ≡ l) × ((128 * l + 8 * f + 4 * x + 2 * w + r) / 8 % 4 ≡ f)
    × ((128 * l + 8 * f + 4 * x + 2 * w + r) / 4 % 2 ≡ x) × ((128 * l + 8 * f + 4 * x + 2 * w + r) / 2 % 2 ≡ w)
    × ((128 * l + 8 * f + 4 * x + 2 * w + r) % 2 ≡ r)
parts_back l f x w r hl hf hx hw hr = (omega arith, omega arith, omega arith, omega arith, omega arith)

matching_back : (matching : AddressMatching) → matching_of (field_of matching) ≡ matching
matching_back matching = search rules

pub configuration_back : (c : Configuration) → configuration_of (byte_of c) ≡ c
configuration_back c = search (rules, tests, parts_back, bit_le, field_le, bit_back, matching_back)

pub read_back : (byte : ℕ) → byte < 256 → (byte_of (configuration_of byte) == byte) ≡ is_plain byte
read_back byte small = grind (arith, nat_tests, common_steps, agree_below_at)

read_unreserved : (byte : ℕ) → byte < 256
    → (byte_of (without_reserved (configuration_of byte)) == byte)
    ≡ (is_plain byte && not (is_reserved (configuration_of byte)))
read_unreserved byte small = search (rules, tests)

-- nothing keeps the byte from being stored over an entry's configuration
pub record IsTaken (grain : ℕ) (frozen mml rlb : Bool) (old : Configuration) (byte : ℕ) : Type 0 where
  pub plain : is_plain byte ≡ true
  pub unfrozen : (frozen && not (byte == byte_of old)) ≡ false
  pub unreserved : (not frozen && not mml && is_reserved (configuration_of byte)) ≡ false
  pub unbarred : (not frozen && mml && not rlb && is_barred_byte byte) ≡ false
  pub coarse : (not frozen && nat_lt 0 grain && is_na4 (configuration_of byte).matching) ≡ false

-- the configuration that the byte leaves
abbrev pub left_of : (grain : ℕ) (frozen mml rlb : Bool) (old : Configuration) (byte : ℕ) → Configuration
left_of grain frozen mml rlb old byte = cond frozen old (selectable grain (admitted mml rlb old (configuration_of byte)))

-- a mode that can be chosen is stored as it is, and no other is ever stored
chosen : (grain : ℕ) (c : Configuration) → (nat_lt 0 grain && is_na4 c.matching) ≡ false → selectable grain c ≡ c
chosen grain c so = rw so refl

-- so a byte that is read back from it didn't choose NA4 in vain
reads_chosen : (grain : ℕ) (c : Configuration) (byte : ℕ) → byte_of (selectable grain c) ≡ byte
    → (nat_lt 0 grain && is_na4 (configuration_of byte).matching) ≡ false
reads_chosen grain c byte same = search rules

-- nor was it changed on its way
reads_all : (grain : ℕ) (c : Configuration) (byte : ℕ)
    → ((nat_lt 0 grain && is_na4 (configuration_of byte).matching) ≡ false → selectable grain c ≡ c)
    → byte_of (selectable grain c) ≡ byte → byte_of c ≡ byte
reads_all grain c byte whole same = search rules

unreserved_matching : (c : Configuration) → (without_reserved c).matching ≡ c.matching
unreserved_matching c = search rules

chosen_unreserved : (grain : ℕ) (c : Configuration) → (nat_lt 0 grain && is_na4 c.matching) ≡ false
    → selectable grain (without_reserved c) ≡ without_reserved c
chosen_unreserved grain c so = chosen grain (without_reserved c) (rw (unreserved_matching c) so)

same_from_not : (a b : ℕ) → not (a == b) ≡ false → a ≡ b
same_from_not a b h = eqb-true a b (not-false (a == b) h)

pub and_true : (b : Bool) → (b && true) ≡ false → b ≡ false
and_true b h = search rules

pub not_same : (a b : ℕ) → a ≡ b → not (a == b) ≡ false
not_same a b h = rw (eq-eqb a b h) refl

pub taken : (grain : ℕ) (frozen mml rlb : Bool) (old : Configuration) (byte : ℕ) → byte < 256
    → IsTaken grain frozen mml rlb old byte → byte_of (left_of grain frozen mml rlb old byte) ≡ byte
taken grain true mml rlb old byte small h = sym (same_from_not byte (byte_of old) h.unfrozen)
taken grain false false rlb old byte small h =
    ap byte_of (chosen_unreserved grain (configuration_of byte) h.coarse)
    ∙ eqb-true _ byte (read_unreserved byte small ∙ rw (h.plain, h.unreserved) refl)
taken grain false true true old byte small h =
    ap byte_of (chosen grain (configuration_of byte) h.coarse) ∙ eqb-true _ byte (read_back byte small ∙ h.plain)
taken grain false true false old byte small h = rw h.unbarred
    (ap byte_of (chosen grain (configuration_of byte) h.coarse) ∙ eqb-true _ byte (read_back byte small ∙ h.plain))

not_barred : (old : Configuration) (byte : ℕ) → byte < 256 → old.locked ≡ false → byte_of old ≡ byte
    → is_barred_byte byte ≡ false
not_barred old byte small free same = search rules

pub stored_as_taken : (grain : ℕ) (frozen mml rlb : Bool) (old : Configuration) (byte : ℕ) → byte < 256
    → frozen ≡ (old.locked && not rlb) → byte_of (left_of grain frozen mml rlb old byte) ≡ byte
    → IsTaken grain frozen mml rlb old byte
stored_as_taken grain true mml rlb old byte small is h = record {
  plain = rw (← h) (eq-eqb _ 0 (byte_plain old).0);
  unfrozen = not_same byte (byte_of old) (sym h);
  unreserved = refl;
  unbarred = refl;
  coarse = refl;
}
stored_as_taken grain false false rlb old byte small is h =
    let new = configuration_of byte in
    let whole = reads_all grain (without_reserved new) byte (chosen_unreserved grain new) h in
    let both = and_parts (is_plain byte) (not (is_reserved new))
    (sym (read_unreserved byte small) ∙ eq-eqb _ byte whole) in
    record {
      plain = both.0;
      unfrozen = refl;
      unreserved = not-true _ both.1;
      unbarred = refl;
      coarse = reads_chosen grain (without_reserved new) byte h;
    }
stored_as_taken grain false true true old byte small is h = record {
  plain = sym (read_back byte small)
      ∙ eq-eqb _ byte (reads_all grain (configuration_of byte) byte (chosen grain (configuration_of byte)) h);
  unfrozen = refl;
  unreserved = refl;
  unbarred = refl;
  coarse = reads_chosen grain (configuration_of byte) byte h;
}
stored_as_taken grain false true false old byte small is h = by_test (is_barred_byte byte) refl h
  where
    free : old.locked ≡ false
    free = and_true old.locked (sym is)

    selected_locked : (selectable grain old).locked ≡ old.locked
    selected_locked = search rules

    by_test : (barred : Bool) → is_barred_byte byte ≡ barred
        → byte_of (selectable grain (cond barred old (configuration_of byte))) ≡ byte
        → IsTaken grain false true false old byte
    by_test barred e h =
        search (rules, tests, false≢true, not_barred, selected_locked, free, read_back, eq-eqb, reads_all, chosen, reads_chosen)
