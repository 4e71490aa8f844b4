-- The events of one publication more.
use Rattle.std.proofs.Common.{◌≡◌, ◌∙◌, ap, refl, ℕ, ◌+◌, ◌<◌, List, [], ◌∷◌, ◌++◌, fold, length, map, take}
use Rattle.std.proofs.Common.{append-nil}
use Rattle.std.specs.List.{filter, slice_index_or}
use Rattle.std.proofs.lemmas.List.{map-append, take_more}
use Rattle.std.proofs.lemmas.List.Concat.{flat_map-append}
use Rattle.std.proofs.lemmas.List.Elements.{filter-append}
use Rattle.std.proofs.lemmas.List.Sums.{fold-append}
use Rattle.pmp_core.specs.Histories.{joined}
use Rattle.pmp_core.specs.RegisterWrite.{step}
use Rattle.pmp_text.specs.Contents.{ScriptContents}
use Rattle.pmp_text.specs.Reports.{file_of_script}
use Rattle.pmp_lint.specs.declared.subject.Subject.{Subject}
use Rattle.pmp_lint.specs.Events.{Happening, changed_at, changes, changing_lines, happenings, happenings_in, last_or}
use Rattle.pmp_lint.proofs.Growing.{of_range_more}

pub last_or-append : (other : ℕ) (xs ys : List ℕ) → last_or other (xs ++ ys) ≡ last_or (last_or other xs) ys
last_or-append other [] ys = refl
last_or-append other (x ∷ xs) ys = last_or-append x xs ys

pub lines-append : (subject : Subject) (xs ys : List Happening)
    → changing_lines subject (xs ++ ys) ≡ changing_lines subject xs ++ changing_lines subject ys
lines-append subject xs ys =
    ap (map (λ it. it.line)) (filter-append (changes subject) xs ys)
    ∙ map-append (λ it. it.line) (filter (changes subject) xs) (filter (changes subject) ys)

module _ (script : ScriptContents) (n : ℕ) where
  -- one publication more
  pub happenings_more : happenings script (n + 1) ≡ happenings script n ++ happenings_in script n
  happenings_more = of_range_more (happenings_in script) n

  pub changed_more : (subject : Subject) → changed_at script (n + 1) subject
      ≡ last_or (changed_at script n subject) (changing_lines subject (happenings_in script n))
  changed_more subject =
      ap (λ all. last_or 0 (changing_lines subject all)) happenings_more
      ∙ ap (last_or 0) (lines-append subject (happenings script n) (happenings_in script n))
      ∙ last_or-append 0 (changing_lines subject (happenings script n)) (changing_lines subject (happenings_in script n))

  pub file_more : n < length script.batches
      → file_of_script script (n + 1) ≡ fold step (file_of_script script n) (slice_index_or script.batches n [])
  file_more inside =
      ap (λ some. fold step script.start (joined some)) (take_more script.batches n [] inside)
      ∙ ap (fold step script.start) (flat_map-append (λ batch. batch) (take n script.batches)
      (slice_index_or script.batches n [] ∷ []))
      ∙ fold-append step script.start (joined (take n script.batches)) (joined (slice_index_or script.batches n [] ∷ []))
      ∙ ap (fold step (file_of_script script n)) (append-nil (slice_index_or script.batches n []))
