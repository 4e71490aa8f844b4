-- Findings that are told one after the other.
use Rattle.std.proofs.Common.{◌≡◌, ◌∙◌, ap, refl, ℕ, ◌+◌, List, [], ◌++◌, map, cond, arith}
use Rattle.std.specs.Prelude.{Result, OnErr}
use Rattle.std.specs.List.{filter, flat_map, range_with_len}
use Rattle.std.proofs.lemmas.List.{map-append}
use Rattle.std.proofs.lemmas.List.Elements.{filter-append}
use Rattle.std.proofs.lemmas.List.Sums.{sum_by-append}
use Rattle.pmp_text.specs.Cells.{AddsSome, RowValue}
use Rattle.pmp_text.proofs.Prefixes.{on_err}
use Rattle.pmp_lint.specs.declared.finding.Finding.{Finding}
use Rattle.pmp_lint.specs.Findings.{finding_row, is_told, told_count, told_rows}
use Rattle.pmp_lint.specs.Telling.{HasTold, Telling}
use Rattle.pmp_lint.proofs.Growing.{of_range_more}

module _ (accepted : List ℕ) (one other : List Finding) where
  rows_append : told_rows accepted (one ++ other) ≡ told_rows accepted one ++ told_rows accepted other
  rows_append =
      ap (map finding_row) (filter-append (is_told accepted) one other)
      ∙ map-append finding_row (filter (is_told accepted) one) (filter (is_told accepted) other)

  count_append : told_count accepted (one ++ other) ≡ told_count accepted one + told_count accepted other
  count_append = sum_by-append (λ finding. cond (is_told accepted finding) 1 0) one other

module _ {A : Type 0} (Adds : List RowValue → A → A → Type 0) (none : (rows : A) → Adds [] rows rows)
    (both : (one other : List RowValue) (first second third : A) → Adds one first second → Adds other second third
    → Adds (one ++ other) first third) where
  -- none is told
  pub then_none : (it : Telling A) → HasTold Adds [] it it
  then_none it = record { same = refl; added = none it.rows; counted = omega arith }

  -- some are told, and then others
  pub told_more : (one other : List Finding) (before between after : Telling A) → HasTold Adds one before between
      → HasTold Adds other between after → HasTold Adds (one ++ other) before after
  told_more one other before between after first second =
      let added = rw first.same at second.added in
      let counted = rw first.same at second.counted in
      record {
        same = second.same ∙ first.same;
        added = rw (rows_append before.accepted one other) (both _ _ _ _ _ first.added added);
        counted = omega (arith, first.counted, counted, count_append before.accepted one other);
      }

  -- some are told, and then some rows are added
  pub told_some : (findings : List Finding) (before after : Telling A) (third : A) → HasTold Adds findings before after
      → AddsSome Adds after.rows third → AddsSome Adds before.rows third
  told_some findings before after third told (rows, added) =
      (told_rows before.accepted findings ++ rows, both _ _ _ _ _ told.added added)

  -- those of the first numbers, and of one more
  pub told_of_one : (of_one : ℕ → List Finding) (n : ℕ) (before between after : Telling A)
      → HasTold Adds (of_one n) between after → HasTold Adds (flat_map of_one (range_with_len 0 n)) before between
      → HasTold Adds (flat_map of_one (range_with_len 0 (n + 1))) before after
  told_of_one of_one n before between after one are =
      rw (of_range_more of_one n) (told_more (flat_map of_one (range_with_len 0 n)) (of_one n) before between after are one)

  -- some rows are added, and then some findings are told
  pub told_rows_some : (first : A) (findings : List Finding) (before after : Telling A) → AddsSome Adds first before.rows
      → HasTold Adds findings before after → AddsSome Adds first after.rows
  told_rows_some first findings before after (rows, added) told =
      (rows ++ told_rows before.accepted findings, both _ _ _ _ _ added told.added)

  -- what fails after some are told leaves some rows
  pub err_some : {T E : Type 0} (result : Result T E) (findings : List Finding) (before after : Telling A) (third : A)
      → HasTold Adds findings before after → AddsSome Adds after.rows third
      → OnErr result (AddsSome Adds before.rows third)
  err_some result findings before after third told some =
      on_err result (told_some findings before after third told some)

  pub err_none : {T E : Type 0} (result : Result T E) (findings : List Finding) (before after : Telling A) (third : A)
      → HasTold Adds findings before after → Adds [] after.rows third → OnErr result (AddsSome Adds before.rows third)
  err_none result findings before after third told last =
      err_some result findings before after third told ([], last)
