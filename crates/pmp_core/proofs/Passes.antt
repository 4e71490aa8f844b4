-- One pass over the ranges, step by step.
use Rattle.std.proofs.Common.{◌≡◌, ℕ, zero, suc, ◌+◌, ◌<◌, ◌≤◌, max, min, true, false, [], ◌∷◌, sym, ap, ◌∙◌, inl, inr, arith, List, length, drop, slice_index_or, refl, add-one}
use Rattle.std.proofs.Common.{drop-cons}
use Rattle.std.proofs.Math.ListN.{drop_of_length-le}
use Rattle.std.proofs.lemmas.Bool.{cases_lt, le-ltb}
use Rattle.pmp_core.specs.declared.configuration.AddressMatching.TheVariants.{Off}
use Rattle.pmp_core.specs.declared.decision.Cause.{Cause}
use Rattle.pmp_core.specs.declared.range.ByteRange.{ByteRange}
use Rattle.pmp_core.specs.declared.decision.Cause.TheVariants.{Rule, Split, NoMatch}
use Rattle.pmp_core.specs.Ranges.{is_covered, is_touched, cause_from, range_of, range_on, ranges_of}
use Rattle.pmp_core.specs.RegisterFile.{RegisterFile, entry_at}
use Rattle.pmp_core.proofs.Places.{length-ranges_of, no_range, range_at}

module _ (start end : ℕ) (ranges : List ByteRange) (i : ℕ) where
  abbrev here : ByteRange
  here = slice_index_or ranges i no_range

  pub pass_covered : i < length ranges → is_touched start end here ≡ true → is_covered start end here ≡ true
      → cause_from start end i (drop i ranges) ≡ Rule i
  unfolding cause_from
  pass_covered inside touched covered = rw (drop-cons ranges i no_range, touched, covered) refl

  pub pass_split : i < length ranges → is_touched start end here ≡ true → is_covered start end here ≡ false
      → cause_from start end i (drop i ranges) ≡ Split i
  unfolding cause_from
  pass_split inside touched apart = rw (drop-cons ranges i no_range, touched, apart) refl

  pub pass_untouched : i < length ranges → is_touched start end here ≡ false
      → cause_from start end i (drop i ranges) ≡ cause_from start end (i + 1) (drop (i + 1) ranges)
  unfolding cause_from
  pass_untouched inside untouched = rw (drop-cons ranges i no_range, untouched, add-one) refl

  pub pass_end : length ranges ≤ i → cause_from start end i (drop i ranges) ≡ NoMatch
  unfolding cause_from
  pass_end over = rw (drop_of_length-le ranges over) refl

-- where there is no byte, nothing is touched
pub none_touched : (start end : ℕ) → end ≤ start → (i : ℕ) (ranges : List ByteRange) → cause_from start end i ranges ≡ NoMatch
unfolding cause_from
none_touched start end none i [] = refl
none_touched start end none i (range ∷ ranges) =
    rw (le-ltb (max range.start start) (min range.end end) (omega arith)) (none_touched start end none (suc i) ranges)

-- ---- entries that are OFF

module _ (file : RegisterFile) (start end : ℕ) where
  abbrev from : ℕ → Cause
  from i = cause_from start end i (drop i (ranges_of file))

  off_untouched : (i : ℕ) → (entry_at file.entries i).configuration.matching ≡ Off
      → is_touched start end (range_of file i) ≡ false
  unfolding range_on
  off_untouched i off = rw off (le-ltb (max 0 start) (min 0 end) (omega arith))

  pass_one : (i : ℕ) → (entry_at file.entries i).configuration.matching ≡ Off → from i ≡ from (i + 1)
  pass_one i off = elim (cases_lt i (length file.entries)) [
    | inl inside ↦ pass_untouched start end (ranges_of file) i
        (omega (arith, inside, length-ranges_of file.profile file.entries))
        (ap (is_touched start end) (range_at file.profile file.entries i inside) ∙ off_untouched i off)
    | inr past ↦
        let over : length (ranges_of file) ≤ i = omega (arith, length-ranges_of file.profile file.entries) in
        pass_end start end (ranges_of file) i over ∙ sym (pass_end start end (ranges_of file) (i + 1) (omega arith))
  ]

  pub pass_off : (n i : ℕ) → ((k : ℕ) → i ≤ k → k < i + n → (entry_at file.entries k).configuration.matching ≡ Off)
      → from i ≡ from (i + n)
  pass_off zero i off = let same : i ≡ i + 0 = omega arith in ap from same
  pass_off (suc n) i off =
      let same : i + 1 + n ≡ i + suc n = omega arith in
      pass_one i (off i (omega arith) (omega arith)) ∙ pass_off n (i + 1) (λ k low high. off k (omega arith) (omega arith))
      ∙ ap from same
