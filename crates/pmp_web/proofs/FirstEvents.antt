-- The events of a script's first publications.
use Rattle.std.proofs.Common.{◌≡◌, ◌∙◌, sym, ap, refl, arith, ℕ, ◌≤◌, List, ◌++◌, length, take, drop}
use Rattle.std.proofs.lemmas.Grind.{flat_map-append}
use Rattle.std.proofs.lemmas.List.{length-append, take-append-drop, take-append-le, take_all}
use Rattle.pmp_core.specs.declared.event.Event.{Event}
use Rattle.pmp_core.specs.Histories.{joined}

module _ (batches : List (List Event)) (n : ℕ) where
  parts : joined batches ≡ joined (take n batches) ++ joined (drop n batches)
  parts = ap joined (sym (take-append-drop n batches)) ∙ flat_map-append (λ batch. batch) (take n batches) (drop n batches)

  -- they stand before the rest
  pub first_events : take (length (joined (take n batches))) (joined batches) ≡ joined (take n batches)
  first_events =
      let front = joined (take n batches) in
      ap (take (length front)) parts ∙ take-append-le (length front) front (joined (drop n batches)) (omega arith)
      ∙ take_all (length front) front (omega arith)

  pub first_below : length (joined (take n batches)) ≤ length (joined batches)
  first_below =
      let whole = ap length parts ∙ length-append (joined (take n batches)) (joined (drop n batches)) in omega (arith, whole)
