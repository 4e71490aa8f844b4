-- Writes that give the same bytes on RV64 and on RV32 leave the same registers.
use borrow.Author.Tests.{tests}
use Rattle.std.proofs.Common.{rules, ◌≡◌, ℕ, zero, suc, ◌+◌, ◌-◌, ◌*◌, ◌/◌, ◌%◌, ◌^◌, ◌<◌, true, false}
use Rattle.std.proofs.Common.{List, [], ◌∷◌, fold, length, map, slice_index, refl, sym, ap, ◌∙◌, inl, inr, arith, subst}
use Rattle.std.specs.Int.{w64, to_le_bytes}
use Rattle.std.specs.List.{flat_map, range_with_len}
use Rattle.std.proofs.lemmas.Bool.{cases_lt, eq-eqb, ne_eqb}
use Rattle.std.proofs.lemmas.List.Sums.{fold-append}
use Rattle.pmp_core.specs.declared.access.Access.{Access}
use Rattle.pmp_core.specs.declared.csr.Csr.TheVariants.{Cfg}
use Rattle.pmp_core.specs.declared.event.Event.{Event}
use Rattle.pmp_core.specs.declared.hart.Profile.{Profile}
use Rattle.pmp_core.specs.Hart.{bytes_in, holds_byte_of}
use Rattle.pmp_core.specs.Histories.{replay}
use Rattle.pmp_core.specs.Ranges.{cause_of, decision_of, range_on}
use Rattle.pmp_core.specs.RegisterFile.{RegisterFile, entry_at, reset_file}
use Rattle.pmp_core.specs.RegisterWrite.{configured, configurations_written, step, written}
use Rattle.pmp_core.specs.XlenLaw.{AreAlike, XlenLaw, on_rv32}
use Rattle.pmp_core.proofs.Configuring.{held, kept, none_above, none_below}
use Rattle.pmp_core.proofs.Legal.{configured_place, length-written, profile-step}
use Rattle.pmp_core.proofs.Places.{entries_by}

-- ---- the bytes of a half

low_byte : (value j : ℕ) → j < 4
    → slice_index (to_le_bytes w64 (value % 2 ^ 32)) j ≡ slice_index (to_le_bytes w64 value) j
low_byte value j near = search rules

high_byte : (value j : ℕ) → j < 4
    → slice_index (to_le_bytes w64 (value / 2 ^ 32)) j ≡ slice_index (to_le_bytes w64 value) (j + 4)
high_byte value zero near = omega arith
high_byte value (suc zero) near = omega arith
high_byte value (suc (suc zero)) near = omega arith
high_byte value (suc (suc (suc zero))) near = omega arith
high_byte value (suc (suc (suc (suc j)))) near = absurd (omega arith)

-- ---- one event

abbrev narrowed : Profile → Profile
narrowed hart = record hart { is_rv32 = true }

abbrev narrow : RegisterFile → RegisterFile
narrow file = record file { profile = narrowed file.profile }

module _ (file : RegisterFile) (wide : file.profile.is_rv32 ≡ false) (q value : ℕ) where
  odd_kept : (q % 2 ≡ 0 → ⊥) → file.entries ≡ configurations_written file q value
  odd_kept odd = entries_by file.entries (configured file q value) (λ k inside. sym (kept file q value k (none k)))
    where
      none : (k : ℕ) → holds_byte_of file.profile q k ≡ false
      none k = search rules

  module _ (even : q % 2 ≡ 0) where
    eight : bytes_in file.profile q ≡ 8
    eight = rw (wide, eq-eqb (q % 2) 0 even) refl

    abbrev low : ℕ
    low = value % 2 ^ 32

    abbrev high : ℕ
    high = value / 2 ^ 32

    abbrev first : RegisterFile
    first = written (narrow file) (Cfg q) low

    abbrev second : RegisterFile
    second = written first (Cfg (q + 1)) high

    place_in_first : (k : ℕ) → k < length file.entries → entry_at first.entries k ≡ configured (narrow file) q low k
    place_in_first k inside = configured_place (narrow file) q low k inside

    -- an entry once both halves are written, where the second half isn't for it, and where the first isn't
    after_first : (k : ℕ) → k < length file.entries → holds_byte_of (narrowed file.profile) (q + 1) k ≡ false
        → configured first (q + 1) high k ≡ configured (narrow file) q low k
    after_first k inside none = kept first (q + 1) high k none ∙ place_in_first k inside

    each : (k : ℕ) → k < length file.entries → configured file q value k ≡ configured first (q + 1) high k
    each k inside = elim (cases_lt k (4 * q)) [
      | inl below ↦
          kept file q value k (none_below file.profile q k below)
          ∙ sym (kept (narrow file) q low k (none_below (narrowed file.profile) q k below))
          ∙ sym (after_first k inside (none_below (narrowed file.profile) (q + 1) k (omega arith)))
      | inr from ↦ elim (cases_lt k (4 * q + 4)) [
        | inl here ↦
            rw (
              held file.profile q k from (omega (arith, eight)),
              after_first k inside (none_below (narrowed file.profile) (q + 1) k (omega arith)),
              held (narrowed file.profile) q k from here,
              low_byte value (k - 4 * q) (omega arith),
            ) refl
        | inr past ↦ elim (cases_lt k (4 * q + 8)) [
          | inl near ↦
              let place : k - 4 * (q + 1) + 4 ≡ k - 4 * q = omega arith in
              let before = place_in_first k inside
              ∙ kept (narrow file) q low k (none_above (narrowed file.profile) q k past) in
              rw (
                held file.profile q k from (omega (arith, eight)),
                held (narrowed file.profile) (q + 1) k (omega arith) (omega arith),
                before,
                high_byte value (k - 4 * (q + 1)) (omega arith),
                place,
              ) refl
          | inr far ↦
              kept file q value k (none_above file.profile q k (omega (arith, eight)))
              ∙ sym (kept (narrow file) q low k (none_above (narrowed file.profile) q k past))
              ∙ sym (after_first k inside (none_above (narrowed file.profile) (q + 1) k (omega arith)))
        ]
      ]
    ]

    both : second.entries ≡ configurations_written file q value
    both = entries_by second.entries (configured file q value) (λ k there.
        let within : k < length first.entries = omega (arith, length-written first (Cfg (q + 1)) high) in
        let inside : k < length file.entries = omega (arith, length-written (narrow file) (Cfg q) low) in
        configured_place first (q + 1) high k within ∙ sym (each k inside))
        ∙ ap (λ (n : ℕ). map (configured file q value) (range_with_len 0 n))
        (length-written first (Cfg (q + 1)) high ∙ length-written (narrow file) (Cfg q) low)

step_alike : (file : RegisterFile) → file.profile.is_rv32 ≡ false → (event : Event)
    → fold step (narrow file) (on_rv32 event) ≡ narrow (step file event)
step_alike file wide event = search (rules, tests, eq-eqb, both, ne_eqb, odd_kept)

-- ---- all events

events_alike : (events : List Event) (file : RegisterFile) → file.profile.is_rv32 ≡ false
    → fold step (narrow file) (flat_map on_rv32 events) ≡ narrow (fold step file events)
events_alike [] file wide = refl
events_alike (event ∷ events) file wide =
    fold-append step (narrow file) (on_rv32 event) (flat_map on_rv32 events)
    ∙ ap (λ (f : RegisterFile). fold step f (flat_map on_rv32 events)) (step_alike file wide event)
    ∙ events_alike events (step file event) (ap (λ (hart : Profile). hart.is_rv32) (profile-step file event) ∙ wide)

alike : (file : RegisterFile) (access : Access) → AreAlike file (narrow file) access
unfolding decision_of cause_of range_on
alike file access = search rules

pub xlen_law : XlenLaw
xlen_law hart events access wide =
    subst (λ (other : RegisterFile). AreAlike (replay hart events) other access)
    (sym (events_alike events (reset_file hart) wide)) (alike (replay hart events) access)
