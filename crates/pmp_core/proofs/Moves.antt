-- What two register files decide alike.
use Rattle.std.proofs.lemmas.Bool.Decides.{nat_tests}
use Rattle.std.proofs.lemmas.Grind.{common_steps}
use borrow.Author.Tests.{tests}
use Rattle.std.proofs.Common.{◌≡◌, ◌≢◌, ℕ, zero, suc, ◌+◌, ◌-◌, ◌*◌, ◌<◌, ◌≤◌, Option, None, length, sym, ap, ◌∙◌, inl, inr}
use Rattle.std.proofs.Common.{arith, rules, ◌==◌, ◌&&◌, eqb, false, not, refl, true}
use Rattle.std.specs.Bool.{beq}
use Rattle.std.proofs.lemmas.Bool.{and_parts, cases_Bool, cases_lt, eqb-true, or_cases}
use Rattle.std.proofs.lemmas.List.{get_or_past}
use native.Mathlib.Numerals.{unary_clauses}
use Rattle.pmp_core.specs.declared.access.Access.{Access}
use Rattle.pmp_core.specs.declared.csr.Csr.{Csr}
use Rattle.pmp_core.specs.declared.csr.Csr.TheVariants.{Cfg, Addr, Mseccfg, Mseccfgh}
use Rattle.pmp_core.specs.declared.event.Event.TheVariants.{Write}
use Rattle.pmp_core.specs.declared.mseccfg.MseccfgFields.{MseccfgFields}
use Rattle.pmp_core.specs.declared.range.ByteRange.{ByteRange}
use Rattle.pmp_core.specs.declared.span.Span.{Span}
use Rattle.pmp_core.specs.Configuration.{Configuration, byte_of}
use Rattle.pmp_core.specs.Decision.{IsByteOf}
use Rattle.pmp_core.specs.declared.hart.Profile.{Profile}
use Rattle.pmp_core.specs.Matching.{Matches, low_address}
use Rattle.pmp_core.specs.Hart.{bytes_in}
use Rattle.pmp_core.specs.Moved.{AreAlikeBeside, IsMoved, IsMovedWithin, IsSameEntry, is_same_configuration, is_same_range, joined}
use Rattle.pmp_core.specs.Moved.{moved_among, moved_at, moved_by}
use Rattle.pmp_core.specs.Mseccfg.{mseccfg_fields}
use Rattle.pmp_core.specs.OthersLaw.{may_move}
use Rattle.pmp_core.specs.Ranges.{range_of, range_on}
use Rattle.pmp_core.specs.RegisterFile.{HasAddresses, IsLegal, RegisterFile, entry_at}
use Rattle.pmp_core.specs.RegisterValue.{register_value}
use Rattle.pmp_core.specs.RegisterWrite.{is_tor, written}
use Rattle.pmp_core.specs.Rights.{has_entries}
use Rattle.pmp_core.specs.Span.{IsSpan, span_in, span_of}
use Rattle.pmp_core.proofs.Configuring.{high_of, low_of}
use Rattle.pmp_core.proofs.Legal.{legal_addresses, length-written, step_legal}
use Rattle.pmp_core.proofs.Matches.{matches_range, range_past}
use Rattle.pmp_core.proofs.Others.{IsSame, bytes_kept, decided_by, entry_kept, holds_none, mseccfg_kept}
use Rattle.pmp_core.proofs.Saved.{fields_back}
use Rattle.pmp_core.proofs.Spans.{is_span}

-- ---- spans

pub joined_left : (one other : Option Span) (byte : ℕ) → IsMoved one byte → IsMoved (joined one other) byte
joined_left one other byte here = search rules

pub joined_right : (one other : Option Span) (byte : ℕ) → IsMoved other byte → IsMoved (joined one other) byte
joined_right one other byte here = search rules

-- ---- entries

pub same_configuration : (one other : Configuration) → eqb (byte_of one) (byte_of other) ≡ true → one ≡ other
same_configuration one other same = search rules

pub same_range : (one other : ByteRange) → (eqb one.start other.start && eqb one.end other.end) ≡ true → one ≡ other
same_range one other same = search rules

pub same_fields : (one other : MseccfgFields)
    → not (beq one.mml other.mml && (beq one.mmwp other.mmwp && beq one.rlb other.rlb)) ≡ false → one ≡ other
same_fields one other same = search rules

pub same_profile : (one other : Profile)
    → not (eqb one.entries other.entries && (eqb one.grain other.grain && (eqb one.address_bits other.address_bits
    && (beq one.has_smepmp other.has_smepmp && beq one.is_rv32 other.is_rv32)))) ≡ false → one ≡ other
same_profile one other same = search rules

module _ (one other : RegisterFile) (i : ℕ) where
  pub same_entry : IsLegal one → IsLegal other
      → (entry_at other.entries i).configuration ≡ (entry_at one.entries i).configuration
      → range_of other i ≡ range_of one i → IsSameEntry one other i
  same_entry legal too configuration range = search (rules, tests, matches_range, legal_addresses)

  pub moved_within : (before now : Option Span) → IsSpan one i before → IsSpan other i now
      → IsMovedWithin one other (joined now before) i
  moved_within before now was is = search rules

  more_moved : (moved more : Option Span) → ((byte : ℕ) → IsMoved moved byte → IsMoved more byte)
      → IsMovedWithin one other moved i → IsMovedWithin one other more i
  more_moved moved more all (inl same) = inl same
  more_moved moved more all (inr within) = inr (λ byte inside stays. within byte inside (λ is. stays (all byte is)))

  pub moved_before : (moved more : Option Span) → IsMovedWithin one other moved i
      → IsMovedWithin one other (joined moved more) i
  moved_before moved more = more_moved moved (joined moved more) (joined_left moved more)

  pub moved_now : (moved more : Option Span) → IsMovedWithin one other more i
      → IsMovedWithin one other (joined moved more) i
  moved_now moved more = more_moved more (joined moved more) (joined_right moved more)

  swapped : (access : Access) → IsSame one other access i → IsSame other one access i
  swapped access (inl clear) = inl (clear.1, clear.0)
  swapped access (inr same) = inr (sym same.0, λ byte. ((same.1 byte).1, (same.1 byte).0))

-- an entry that a file doesn't have matches nothing
absent : (file : RegisterFile) (i byte : ℕ) → IsLegal file → length file.entries ≤ i → ¬ (Matches file i byte)
absent file i byte legal past matches = search (rules, tests, matches_range, legal_addresses, range_past)

-- ---- decisions

module _ (one other : RegisterFile) (legal : IsLegal one) (too : IsLegal other) (moved : Option Span)
    (count : length other.entries ≡ length one.entries) (mseccfg : other.mseccfg ≡ one.mseccfg)
    (each : (i : ℕ) → i < length one.entries → IsMovedWithin one other moved i) where
  within : (i : ℕ) → IsMovedWithin one other moved i
  within i = grind (arith, nat_tests, common_steps, absent)

  module _ (access : Access) (clear : (byte : ℕ) → IsByteOf access byte → ¬ (IsMoved moved byte)) where
    same : (i : ℕ) → IsSame one other access i
    same i = search (rules, tests, within)

  some : has_entries other ≡ has_entries one
  some = rw count refl

  pub alike_beside : AreAlikeBeside one other moved
  alike_beside access clear decision = (
    decided_by one other mseccfg some access (same access clear) decision.allowed decision.cause,
    decided_by other one (sym mseccfg) (sym some) access (λ i. swapped one other i access (same access clear i))
        decision.allowed decision.cause,
  )

-- ---- a write

span_seen : (file : RegisterFile) (i : ℕ) → HasAddresses file → IsSpan file i (span_in (range_of file i))
unfolding span_of
span_seen file i addresses = is_span file i addresses

module _ (one other : RegisterFile) where
  -- an entry that is kept as it is
  pub kept_at : (i : ℕ) → other.profile ≡ one.profile → entry_at other.entries i ≡ entry_at one.entries i
      → low_address other.entries i ≡ low_address one.entries i → moved_at one other i ≡ None
  unfolding moved_at range_on
  kept_at i hart entry low = rw (hart, entry, low) (search (rules, tests))

  -- an entry that neither has
  pub past_at : (i : ℕ) → length one.entries ≤ i → length other.entries ≤ i → moved_at one other i ≡ None
  unfolding moved_at
  past_at i past too = search (rules, tests, range_past, get_or_past)

  module _ (legal : IsLegal one) (too : IsLegal other) where
    ranged : (i : ℕ) → IsMovedWithin one other (joined (span_in (range_of other i)) (span_in (range_of one i))) i
    ranged i = search (rules, tests, moved_within, span_seen, legal_addresses)

    pub within_at : (i : ℕ) → IsMovedWithin one other (moved_at one other i) i
    unfolding moved_at
    within_at i = elim (cases_Bool (is_same_configuration one other i)) [
      | inl same ↦ elim (cases_Bool (is_same_range (range_of other i) (range_of one i))) [
        | inl range ↦ inl (same_entry one other i legal too (same_configuration _ _ same) (same_range _ _ range))
        | inr apart ↦ rw (same, apart) (ranged i)
      ]
      | inr apart ↦ rw apart (ranged i)
    ]

    pub within_among : (first count place : ℕ) → place < count
        → IsMovedWithin one other (moved_among one other first count) (first + place)
    unfolding moved_among
    within_among first zero place below = absurd (omega arith)
    within_among first (suc count) place below = elim (cases_lt place count) [
      | inl before ↦ moved_before one other (first + place) (moved_among one other first count)
          (moved_at one other (first + count)) (within_among first count place before)
      | inr here ↦
          let same : place ≡ count = omega arith in
          rw same (moved_now one other (first + count) (moved_among one other first count)
          (moved_at one other (first + count)) (within_at (first + count)))
    ]

-- what moved so far, and an entry more
pub more_among : (one other : RegisterFile) (first count : ℕ) (moved more : Option Span)
    → moved ≡ moved_among one other first count → more ≡ moved_at one other (first + count)
    → joined moved more ≡ moved_among one other first (count + 1)
unfolding moved_among
more_among one other first count moved more so_far is = simp unary_clauses (rw (so_far, is) refl)

pub none_at : (file : RegisterFile) (i : ℕ) → moved_at file file i ≡ None
none_at file i = kept_at file file i refl refl refl

pub none_among : (file : RegisterFile) (first count : ℕ) → moved_among file file first count ≡ None
unfolding moved_among
none_among file first zero = refl
none_among file first (suc count) = rw (none_among file first count, none_at file (first + count)) refl

-- where nothing changed
pub none_by : (file : RegisterFile) (csr : Csr) → moved_by file file csr ≡ None
unfolding moved_by
none_by file csr = search (rules, tests, none_among)

-- the entries that the register may move
moved_place : (file : RegisterFile) (q i : ℕ) → may_move file (Cfg q) i ≡ true
    → (4 * q ≤ i) × (i < 4 * q + bytes_in file.profile q)
moved_place file q i moves = (low_of file.profile q i moves, high_of file.profile q i moves)

module _ (file : RegisterFile) (value : ℕ) (legal : IsLegal file) where
  module _ (csr : Csr) where
    abbrev after : RegisterFile
    after = written file csr value

    legal_after : IsLegal after
    legal_after = step_legal file legal (Write csr value)

    left : (moved : Option Span) (i : ℕ) → may_move file csr i ≡ false → IsMovedWithin file after moved i
    left moved i stays = search (rules, tests, entry_kept, holds_none, bytes_kept)

    by_places : (moved : Option Span) → csr ≢ Mseccfg
        → ((i : ℕ) → may_move file csr i ≡ true → IsMovedWithin file after moved i) → AreAlikeBeside file after moved
    by_places moved other each = alike_beside file after legal legal_after moved (length-written file csr value)
        (mseccfg_kept file csr value other) (λ i inside. elim (cases_Bool (may_move file csr i)) [
          | inl moves ↦ each i moves
          | inr stays ↦ left moved i stays
        ])

  by_configurations : (q : ℕ) → AreAlikeBeside file (after (Cfg q)) (moved_by file (after (Cfg q)) (Cfg q))
  unfolding moved_by
  by_configurations q = by_places (Cfg q) (moved_among file (after (Cfg q)) (4 * q) (bytes_in file.profile q))
      (λ same. search rules) (λ i moves.
      let inside = moved_place file q i moves in
      let place : 4 * q + (i - 4 * q) ≡ i = omega (arith, inside.0) in
      rw place at (within_among file (after (Cfg q)) legal (legal_after (Cfg q)) (4 * q) (bytes_in file.profile q) (i - 4 * q)
      (omega (arith, inside.0, inside.1))))

  by_address : (j : ℕ) → AreAlikeBeside file (after (Addr j)) (moved_by file (after (Addr j)) (Addr j))
  unfolding moved_by
  by_address j = by_places (Addr j) (moved_among file (after (Addr j)) j 2) (λ same. search rules) (λ i moves.
      let tor = is_tor (entry_at file.entries i).configuration.matching in
      elim (or_cases (i == j) (i == suc j && tor) moves) [
        | inl own ↦
            let here : j + 0 ≡ i = omega (arith, eqb-true i j own) in
            rw here at (within_among file (after (Addr j)) legal (legal_after (Addr j)) j 2 0 (omega arith))
        | inr above ↦
            let next : j + 1 ≡ i = omega (arith, eqb-true i (suc j) (and_parts (i == suc j) tor above).0) in
            rw next at (within_among file (after (Addr j)) legal (legal_after (Addr j)) j 2 1 (omega arith))
      ])

  by_mseccfg : AreAlikeBeside file (after Mseccfg) (moved_by file (after Mseccfg) Mseccfg)
  unfolding moved_by
  by_mseccfg = elim (cases_Bool (register_value (after Mseccfg) Mseccfg == register_value file Mseccfg)) [
    | inl same ↦
        let old = file.mseccfg in
        let new = (after Mseccfg).mseccfg in
        let fields : new ≡ old = sym (fields_back new.mml new.mmwp new.rlb) ∙ ap mseccfg_fields (eqb-true _ _ same)
        ∙ fields_back old.mml old.mmwp old.rlb in
        alike_beside file (after Mseccfg) legal (legal_after Mseccfg) _ refl fields (λ i inside. left Mseccfg _ i refl)
    | inr apart ↦ rw apart (λ access clear. absurd (clear access.start (omega arith) (omega arith)))
  ]

  by_mseccfgh : AreAlikeBeside file (after Mseccfgh) (moved_by file (after Mseccfgh) Mseccfgh)
  unfolding moved_by
  by_mseccfgh access clear decision = (λ decided. decided, λ decided. decided)

pub moved_law : (file : RegisterFile) (csr : Csr) (value : ℕ) → IsLegal file
    → AreAlikeBeside file (written file csr value) (moved_by file (written file csr value) csr)
moved_law file (Cfg q) value legal = by_configurations file value legal q
moved_law file (Addr j) value legal = by_address file value legal j
moved_law file Mseccfg value legal = by_mseccfg file value legal
moved_law file Mseccfgh value legal = by_mseccfgh file value legal

-- of two files one of which a write made of the other
module _ (one other : RegisterFile) (csr : Csr) (by : (value : ℕ) × (other ≡ written one csr value)) where
  pub beside_by : (moved : Option Span) → IsLegal one → moved ≡ moved_by one other csr → AreAlikeBeside one other moved
  beside_by moved legal is = rw (is, by.1) (moved_law one csr by.0 legal)
