-- Writes to the first n entries leave files of n entries and of more that are alike, event by event.
use Rattle.std.proofs.lemmas.Bool.Decides.{nat_tests}
use Rattle.std.proofs.lemmas.Grind.{common_steps}
use borrow.Author.Tests.{tests}
use Rattle.std.proofs.Common.{rules, ◌≡◌, ◌≢◌, ◌↔◌, ℕ, suc, ◌%◌, ◌<◌, ◌≤◌, Bool, true, false, cond}
use Rattle.std.proofs.Common.{List, [], ◌∷◌, fold, length, get_or, refl, sym, ap, ◌∙◌, inl, inr}
use Rattle.std.proofs.Common.{arith}
use Rattle.std.specs.List.{list_all, list_any}
use Rattle.std.proofs.lemmas.Bool.{and_parts, cases_lt, cases_eq, lt-ltb, ltb-true}
use Rattle.std.proofs.lemmas.List.{get_or_past, length-replicate}
use Rattle.pmp_core.specs.declared.access.Access.{Access}
use Rattle.pmp_core.specs.declared.csr.Csr.{Csr}
use Rattle.pmp_core.specs.declared.csr.Csr.TheVariants.{Cfg, Addr, Mseccfg, Mseccfgh}
use Rattle.pmp_core.specs.declared.decision.Decision.{Decision}
use Rattle.pmp_core.specs.Entry.{Entry}
use Rattle.pmp_core.specs.declared.event.Event.{Event}
use Rattle.pmp_core.specs.declared.event.Event.TheVariants.{Write}
use Rattle.pmp_core.specs.declared.hart.Profile.{Profile}
use Rattle.pmp_core.specs.Hart.{IsProfile, holds_byte_of, word_addresses}
use Rattle.pmp_core.specs.Rights.{has_entries}
use Rattle.pmp_core.specs.RegisterFile.{RegisterFile, reset_entry, reset_file, entry_at}
use Rattle.pmp_core.specs.Matching.{low_address, Matches}
use Rattle.pmp_core.specs.Decision.{IsDecision}
use Rattle.pmp_core.specs.RegisterWrite.{stored_over, configured, is_address_frozen, address_written}
use Rattle.pmp_core.specs.RegisterWrite.{is_any_locked, written, step}
use Rattle.pmp_core.specs.WriteReasons.{byte_for}
use Rattle.pmp_core.specs.Histories.{replay}
use Rattle.pmp_core.specs.SizeLaw.{writes_first, SizeLaw}
use Rattle.pmp_core.specs.Ranges.{decision_of}
use Rattle.pmp_core.proofs.Decisions.{decided_by_ranges, one_decision}
use Rattle.pmp_core.proofs.Legal.{reset_at, configured_place, length-written, length-step, profile-step, legal_law}
use Rattle.pmp_core.proofs.Legal.{legal_addresses}
use Rattle.pmp_core.proofs.Locks.{other_address}
use Rattle.pmp_core.proofs.Others.{decided_by}

-- the same but for the number of entries
record SameHart (one other : Profile) : Type 0 where
  pub grain : one.grain ≡ other.grain
  pub bits : one.address_bits ≡ other.address_bits
  pub smepmp : one.has_smepmp ≡ other.has_smepmp
  pub xlen : one.is_rv32 ≡ other.is_rv32

-- the same mseccfg, and the same entry at every place, which is a reset one from n on
record Alike (n : ℕ) (one other : RegisterFile) : Type 0 where
  pub mseccfg : one.mseccfg ≡ other.mseccfg
  pub entries : (i : ℕ) → entry_at one.entries i ≡ entry_at other.entries i
  pub rest : (i : ℕ) → n ≤ i → entry_at one.entries i ≡ reset_entry
  pub hart : SameHart one.profile other.profile

turned : (n : ℕ) (one other : RegisterFile) → Alike n one other → Alike n other one
turned n one other alike = search rules

-- n entries or more, as many as the hart has
record HasRoom (n : ℕ) (file : RegisterFile) : Type 0 where
  pub count : length file.entries ≡ file.profile.entries
  pub room : n ≤ length file.entries

some_entries : (n : ℕ) (file : RegisterFile) → 0 < n → HasRoom n file → has_entries file ≡ true
some_entries n file some h = lt-ltb 0 (length file.entries) (omega (arith, h.room))

step_room : (n : ℕ) (file : RegisterFile) → HasRoom n file → (event : Event) → HasRoom n (step file event)
step_room n file h event = search (rules, tests, length-step, profile-step)

reset_room : (n : ℕ) (hart : Profile) → n ≤ hart.entries → HasRoom n (reset_file hart)
reset_room n hart many = search (rules, tests, length-replicate)

-- ---- one write

-- a zero byte leaves a reset entry as it is
zero_over_reset : (grain : ℕ) (mml rlb : Bool)
    → stored_over grain mml rlb reset_entry.configuration 0 ≡ reset_entry.configuration
zero_over_reset grain mml rlb = search rules

module _ (n q value : ℕ) (named : writes_first n (Write (Cfg q) value) ≡ true) where
  zero_byte : (profile : Profile) (i : ℕ) → n ≤ i → holds_byte_of profile q i ≡ true → byte_for q value i ≡ 0
  zero_byte profile i past holds = search rules

  rest_configured : (file : RegisterFile) (i : ℕ) → n ≤ i → entry_at file.entries i ≡ reset_entry
      → configured file q value i ≡ reset_entry
  rest_configured file i past reset = search (rules, tests, zero_byte, zero_over_reset)

  -- also past the end of a file of n entries or more
  configured_anywhere : (file : RegisterFile) (i : ℕ) → n ≤ length file.entries
      → ((k : ℕ) → n ≤ k → entry_at file.entries k ≡ reset_entry)
      → entry_at (written file (Cfg q) value).entries i ≡ configured file q value i
  configured_anywhere file i room rest = elim (cases_lt i (length file.entries)) [
    | inl inside ↦ configured_place file q value i inside
    | inr over ↦
        let past : n ≤ i = omega arith in
        get_or_past (written file (Cfg q) value).entries i reset_entry (omega (
          arith,
          length-written file (Cfg q) value,
        ))
        ∙ sym (rest_configured file i past (rest i past))
  ]

pub own_address_written : (file : RegisterFile) (j value : ℕ) → j < length file.entries
    → entry_at (address_written file j value) j
    ≡ cond (is_address_frozen file j) (entry_at file.entries j) (record (entry_at file.entries j) {
      address = value % word_addresses file.profile;
    })
own_address_written file j value inside = search rules

any_alike : {X : Type 0} (p : X → Bool) (d : X) → p d ≡ false → (xs ys : List X)
    → ((i : ℕ) → get_or xs i d ≡ get_or ys i d) → list_any p xs ≡ list_any p ys
any_alike p d none [] [] same = refl
any_alike p d none [] (y ∷ ys) same = rw (← same 0, none) (any_alike p d none [] ys (λ i. same (suc i)))
any_alike p d none (x ∷ xs) [] same = rw (same 0, none) (any_alike p d none xs [] (λ i. same (suc i)))
any_alike p d none (x ∷ xs) (y ∷ ys) same = rw (same 0, any_alike p d none xs ys (λ i. same (suc i))) refl

module _ (n : ℕ) (one other : RegisterFile) (alike : Alike n one other) where
  low_alike : (i : ℕ) → low_address one.entries i ≡ low_address other.entries i
  low_alike i = search rules

  matches_alike : (i byte : ℕ) → Matches other i byte ↔ Matches one i byte
  matches_alike i byte = rw (alike.entries i, low_alike i, alike.hart.grain) (λ h. h, λ h. h)

  locked_alike : is_any_locked one.entries ≡ is_any_locked other.entries
  locked_alike =
      any_alike (λ (entry : Entry). entry.configuration.locked) reset_entry refl one.entries other.entries alike.entries

  configured_alike : (q value i : ℕ) → configured one q value i ≡ configured other q value i
  configured_alike q value i = rw (alike.mseccfg, alike.entries i, alike.hart.grain, alike.hart.xlen) refl

  frozen_alike : (j : ℕ) → is_address_frozen one j ≡ is_address_frozen other j
  frozen_alike j = rw (alike.mseccfg, alike.entries j, alike.entries (suc j)) refl

module _ (n : ℕ) (one other : RegisterFile) (first : HasRoom n one) (second : HasRoom n other)
    (alike : Alike n one other) where
  write_alike : (csr : Csr) (value : ℕ) → writes_first n (Write csr value) ≡ true
      → Alike n (written one csr value) (written other csr value)
  write_alike (Cfg q) value named =
      let here = configured_anywhere n q value named one in
      let there = configured_anywhere n q value named other in
      record {
        mseccfg = alike.mseccfg;
        entries = λ i. here i first.room alike.rest ∙ configured_alike n one other alike q value i
            ∙ sym (there i second.room (turned n one other alike).rest);
        rest = λ i past. here i first.room alike.rest ∙ rest_configured n q value named one i past (alike.rest i past);
        hart = alike.hart;
      }
  write_alike (Addr j) value named =
      let low : j < n = ltb-true _ _ named in
      record {
        mseccfg = alike.mseccfg;
        entries = λ i. elim (cases_eq i j) [
          | inl same ↦ rw same (own_address_written one j value (omega (arith, first.room))
              ∙ rw (frozen_alike n one other alike j, alike.entries j, alike.hart.bits) refl
              ∙ sym (own_address_written other j value (omega (arith, second.room))))
          | inr apart ↦ other_address one j value i apart ∙ alike.entries i
              ∙ sym (other_address other j value i apart)
        ];
        rest = λ i past. let apart : i ≢ j = omega arith in other_address one j value i apart ∙ alike.rest i past;
        hart = alike.hart;
      }
  write_alike Mseccfg value named = record {
    mseccfg = rw (alike.mseccfg, alike.hart.smepmp, locked_alike n one other alike) refl;
    entries = alike.entries;
    rest = alike.rest;
    hart = alike.hart;
  }
  write_alike Mseccfgh value named = alike

reset_alike : (n : ℕ) (one other : Profile) → SameHart one other → Alike n (reset_file one) (reset_file other)
reset_alike n one other hart = search (rules, tests, reset_at)

-- ---- any events

step_alike : (n : ℕ) (one other : RegisterFile) → HasRoom n one → HasRoom n other → Alike n one other
    → (event : Event) → writes_first n event ≡ true → Alike n (step one event) (step other event)
step_alike n one other first second alike event named = grind (arith, nat_tests, common_steps, write_alike, reset_alike)

replays_alike : (n : ℕ) (events : List Event) (one other : RegisterFile) → HasRoom n one → HasRoom n other
    → Alike n one other → list_all (writes_first n) events ≡ true
    → Alike n (fold step one events) (fold step other events)
replays_alike n [] one other room more alike named = alike
replays_alike n (event ∷ events) one other room more alike named =
    let each = and_parts _ _ named in
    replays_alike n events (step one event) (step other event) (step_room n one room event)
    (step_room n other more event) (step_alike n one other room more alike event each.0) each.1

replays_room : (n : ℕ) (events : List Event) (file : RegisterFile) → HasRoom n file → HasRoom n (fold step file events)
replays_room n [] file h = h
replays_room n (event ∷ events) file h = replays_room n events (step file event) (step_room n file h event)

-- ---- decisions

decision_alike : (n : ℕ) (one other : RegisterFile) → 0 < n → HasRoom n one → HasRoom n other → Alike n one other
    → (access : Access) (decision : Decision) → IsDecision one access decision → IsDecision other access decision
decision_alike n one other some first second alike access decision =
    let present = some_entries n other some second ∙ sym (some_entries n one some first) in
    decided_by one other (sym alike.mseccfg) present access
    (λ i. inr (
      ap (λ (entry : Entry). entry.configuration) (sym (alike.entries i)),
      λ byte. matches_alike n one other alike i byte,
    )) decision.allowed decision.cause

pub size_law : SizeLaw
size_law hart n m events access some more is named =
    let small : Profile = record hart { entries = n } in
    let large : Profile = record hart { entries = m } in
    let one = replay small events in
    let other = replay large events in
    let first = reset_room n small (omega arith) in
    let second = reset_room n large more in
    let alike : Alike n one other =
    replays_alike n events (reset_file small) (reset_file large) first second
    (reset_alike n small large (record { grain = refl; bits = refl; smepmp = refl; xlen = refl })) named in
    let few = replays_room n events (reset_file small) first in
    let many = replays_room n events (reset_file large) second in
    let of_small : IsProfile small = record {
      few = omega (arith, is.few);
      fine = is.fine;
      wide = is.wide;
      narrow = is.narrow;
    } in
    let short = legal_addresses one (legal_law small events of_small) in
    let long = legal_addresses other (legal_law large events is) in
    record {
      by_bytes = λ decision. (
        decision_alike n one other some few many alike access decision,
        decision_alike n other one some many few (turned n one other alike) access decision,
      );
      computed = one_decision other access (decision_of one access) (decision_of other access)
          (decision_alike n one other some few many alike access (decision_of one access)
          (decided_by_ranges one access short))
          (decided_by_ranges other access long);
    }
