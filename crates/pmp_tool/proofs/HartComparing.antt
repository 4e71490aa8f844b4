-- The first hart of a folder.
use Rattle.std.proofs.Common.{◌≡◌, ◌≤◌, ◌∙◌, ◌∷◌, ◌&&◌, [], ap, sym, ℕ, List, None, Some, length, arith, Bool, true, false, true≢false}
use Rattle.std.proofs.lemmas.List.{length-map}
use Rattle.std.proofs.lemmas.List.Sorted.{length_permutation}
use Rattle.std.specs.List.{slice_get}
use Rattle.std.specs.Prelude.{filter}
use Rattle.clap.specs.Words.{Text}
use Rattle.pmp_names.specs.declared.hart_name.HartName.{HartName}
use Rattle.pmp_names.specs.HartLists.{names_of}
use Rattle.pmp_names.specs.HartNames.{AreHarts, is_script}
use Rattle.pmp_tool.specs.declared.failure.Failure.{Failure}
use Rattle.pmp_tool.specs.Finding.{AreUnfoundAt, unfit, unlisted}
use Rattle.pmp_tool.specs.HartComparisons.{ComparisonFails}
use Rattle.pmp_tool.specs.HartComparisons.{unfit as has_none, unlisted as cant_list}
use Rattle.pmp_tool.specs.Inputs.{Paths}
use Rattle.pmp_text.specs.declared.fault.Source.TheVariants.{Script}

nothing_true : (a : Bool) → a && false ≡ true → ⊥
nothing_true true is = true≢false (sym is)
nothing_true false is = true≢false (sym is)

-- a folder with harts has one
pub some_hart : (files : List Text) (harts : List HartName) → AreHarts files (names_of harts) → length harts ≤ 0 → ⊥
some_hart files harts are none =
    let same = length_permutation (filter is_script files) (names_of harts) are.same in
    let many = length-map harts (λ (hart : HartName). hart.name.bytes) in
    let count : length (filter is_script files) ≡ 0 = omega (arith, same, many, none) in
    nothing_true _ (rw count at are.are_there)

-- why the folder at a path has no harts is why none are compared
pub comparison_unfound : (paths : Paths) (folder : Text) (has_locks : Bool) (failure : Failure)
    → AreUnfoundAt (paths.folders folder) Script failure → ComparisonFails paths folder has_locks failure
comparison_unfound paths folder has_locks _ (unlisted fault cant) = cant_list fault cant
comparison_unfound paths folder has_locks _ (unfit fault files is none) = has_none fault files is none

pub first_of : (harts : List HartName) (first : HartName) → Some first ≡ slice_get harts 0
    → (rest : List Text) × (names_of harts ≡ first.name.bytes ∷ rest)
first_of [] first is = absurd cc
first_of (hart ∷ more) first is =
    let same : hart ≡ first = cc in
    (names_of more, ap (λ (one : HartName). one.name.bytes ∷ names_of more) same)
