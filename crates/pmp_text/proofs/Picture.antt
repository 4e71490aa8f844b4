-- The bands of a picture, one after another, and what stands above them.
use Rattle.std.proofs.Common.{◌≡◌, ℕ, ◌+◌, ◌<◌, ◌≤◌, List, [], ◌∷◌, ◌++◌}
use Rattle.std.proofs.Common.{length, get_or, take, sym, ap, ◌∙◌, append_assoc, arith, Option}
use Rattle.std.specs.List.{enumerate_from, flat_map}
use Rattle.std.proofs.lemmas.List.{flat_map_more, get_or_default, length-take-le, take_more}
use Rattle.pmp_core.specs.declared.access.TheConstants.{ADDRESS_LIMIT}
use Rattle.pmp_core.specs.Decision.{IsOwner}
use Rattle.pmp_core.specs.RegisterFile.{RegisterFile}
use Rattle.pmp_map.specs.declared.run.Run.{Run}
use Rattle.pmp_map.specs.Runs.{AreRuns, run_at}
use Rattle.pmp_map.proofs.Order.{start_most}
use Rattle.pmp_text.specs.MetNames.{Named}
use Rattle.pmp_text.specs.Picture.{band, bands}
use Rattle.pmp_text.proofs.Numbered.{enumerate_from-push}

-- a text that was appended after another
pub joined : (old first last text more : List ℕ) → first ≡ old ++ text → last ≡ first ++ more
    → last ≡ old ++ (text ++ more)
joined old first last text more one other = other ∙ ap (λ (l : List ℕ). l ++ more) one ∙ append_assoc old text more

-- three texts that were appended one after another
pub three_appended : (old t₁ t₂ new a b c : List ℕ) → t₁ ≡ old ++ a → t₂ ≡ t₁ ++ b → new ≡ t₂ ++ c
    → new ≡ old ++ (a ++ (b ++ c))
three_appended old t₁ t₂ new a b c first second last =
    joined old t₁ new a (b ++ c) first (joined t₁ t₂ new b c second last)

-- a text between two others, and what follows the three
pub between : (opened text closed rest : List ℕ) → (opened ++ (text ++ closed)) ++ rest ≡ opened ++ (text ++ (closed ++ rest))
between opened text closed rest =
    append_assoc opened (text ++ closed) rest ∙ ap (λ (l : List ℕ). opened ++ l) (append_assoc text closed rest)

-- a run isn't empty, and ends in memory
module _ (file : RegisterFile) (runs : List Run) (are : AreRuns file runs) (k : ℕ) (inside : k < length runs)
    (none : Run) where
  same_run : run_at ADDRESS_LIMIT runs k ≡ get_or runs k none
  same_run = get_or_default runs k _ none inside

  pub is_proper : (get_or runs k none).first ≤ (get_or runs k none).last
  is_proper = rw same_run at (are.proper k inside)

  pub ends_in_memory : (get_or runs k none).last < ADDRESS_LIMIT
  ends_in_memory =
      let last : (run_at ADDRESS_LIMIT runs k).last < ADDRESS_LIMIT =
      omega (arith, are.gapless k inside, start_most ADDRESS_LIMIT (IsOwner file) runs are (k + 1)) in
      rw same_run at last

pub bands_grow : (file : RegisterFile) (names : Option (List Named)) (runs : List Run) (place : ℕ) (none : Run)
    → place < length runs → (before text longer : List ℕ) → longer ≡ text ++ band file names place (get_or runs place none)
    → text ≡ before ++ bands file names (take place runs) → longer ≡ before ++ bands file names (take (place + 1) runs)
unfolding bands
bands_grow file names runs place none inside before text longer one so_far =
    let line : ℕ × Run → List ℕ = λ (place, run). band file names place run in
    let run = get_or runs place none in
    let places : 0 + length (take place runs) ≡ place =
    omega (arith, length-take-le place runs (omega arith)) in
    one ∙ ap (λ (l : List ℕ). l ++ band file names place run) so_far
    ∙ flat_map_more line before (enumerate_from 0 (take place runs)) (place, run)
    ∙ ap (λ (n : ℕ). before ++ flat_map line (enumerate_from 0 (take place runs) ++ (n, run) ∷ [])) (sym places)
    ∙ ap (λ numbered. before ++ flat_map line numbered) (sym (enumerate_from-push 0 (take place runs) run))
    ∙ ap (λ first. before ++ flat_map line (enumerate_from 0 first)) (sym (take_more runs place none inside))
