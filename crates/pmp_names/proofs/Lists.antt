-- The names of harts, in lists of them.
use Rattle.std.proofs.Common.{◌≡◌, ◌∙◌, refl, sym, ap, inl, inr, ℕ, suc, zero, ◌+◌, ◌<◌, ◌≤◌, arith, List, [], ◌∷◌, ◌++◌, length, get_or}
use Rattle.std.proofs.Common.{Bool, true, false, cond, ◌&&◌, true≢false}
use Rattle.std.proofs.Math.Bool.{and-false}
use Rattle.std.specs.Cmp.Lexicographic.{bytes_decides, pointwise, slice_cmp}
use Rattle.std.specs.List.{filter, list_all}
use Rattle.std.specs.List.Sorted.{IsPermutation, IsSorted}
use Rattle.std.specs.Ordering.{is_lt, nat_cmp, ordering_then}
use Rattle.std.specs.Prelude.{◌⊎◌, nat_eq, nat_le}
use Rattle.std.specs.declared.cmp.Ordering.{Ordering}
use Rattle.std.proofs.lemmas.Bool.{and_parts, le-leb}
use Rattle.std.proofs.lemmas.List.Elements.{filter-append}
use Rattle.std.proofs.lemmas.List.Folds.{list_all-append}
use Rattle.std.proofs.lemmas.List.{get_or-map, length-map}
use Rattle.std.proofs.lemmas.List.Sorted.{IsPermutation-map}
use Rattle.pmp_text.specs.declared.refusal.Refusal.{Refusal}
use Rattle.pmp_text.specs.declared.refusal.Refusal.TheVariants.{BadFolder, Memory}
use Rattle.pmp_names.specs.declared.hart_name.HartName.{HartName}
use Rattle.pmp_names.specs.declared.harts.TheConstants.{HARTS}
use Rattle.pmp_names.specs.HartLists.{AddsFile, AreNames, names_of}
use Rattle.pmp_names.specs.HartNames.{AreHarts, HasNoHarts, is_hart_name, is_script, name_cmp, order_key}

one_more : (shown : Bool) (file : List ℕ) (rest : List (List ℕ)) → list_all is_hart_name rest ≡ false
    → list_all is_hart_name (cond shown (file ∷ rest) rest) ≡ false
one_more true file rest bad = ap (λ all. is_hart_name file && all) bad ∙ and-false (is_hart_name file)
one_more false file rest bad = bad

-- a script with which no row can begin is among the files
pub bad_script : (files : List (List ℕ)) (i : ℕ) (d : List ℕ) → i < length files → is_script (get_or files i d) ≡ true
    → is_hart_name (get_or files i d) ≡ false → list_all is_hart_name (filter is_script files) ≡ false
bad_script [] i d inside is bad = absurd (omega (arith, inside))
bad_script (file ∷ more) zero d inside is bad = rw (is, bad) refl
bad_script (file ∷ more) (suc i) d inside is bad =
    one_more (is_script file) file (filter is_script more) (bad_script more i d (omega (arith, inside)) is bad)

abbrev name_of : HartName → List ℕ
name_of hart = hart.name.bytes

-- the order of two names, as it is kept and as it is said
abbrev pub hart_cmp : (first second : HartName) → Ordering
hart_cmp first second = ordering_then (slice_cmp nat_cmp first.key.items second.key.items)
    (slice_cmp nat_cmp first.name.bytes second.name.bytes)

same_cmp : (first second : HartName) → hart_cmp first second ≡ name_cmp first.name.bytes second.name.bytes
same_cmp first second =
    let after = slice_cmp nat_cmp first.name.bytes second.name.bytes in
    ap (λ key. ordering_then (slice_cmp nat_cmp key second.key.items) after) first.is_key
    ∙ ap (λ key. ordering_then (slice_cmp nat_cmp (order_key first.name.bytes) key) after) second.is_key

pub ordered_names : (harts : List HartName) → IsSorted hart_cmp harts → IsSorted name_cmp (names_of harts)
ordered_names [] up k d low high = absurd (omega (arith, high))
ordered_names (hart ∷ more) up k d low high =
    let harts = hart ∷ more in
    let count = length-map harts name_of in
    let later = get_or-map name_of harts (k + 1) hart d (omega (arith, high, count)) in
    let sooner = get_or-map name_of harts k hart d (omega (arith, high, count)) in
    rw (later, sooner)
    (ap is_lt (sym (same_cmp (get_or harts (k + 1) hart) (get_or harts k hart)))
    ∙ up k hart low (omega (arith, high, count)))

abbrev pub hart_eq : (first second : HartName) → Bool
hart_eq first second = pointwise nat_eq first.key.items second.key.items
    && pointwise nat_eq first.name.bytes second.name.bytes

pub same_names : (first second : List HartName) → pointwise hart_eq first second ≡ true → names_of first ≡ names_of second
same_names [] [] same = refl
same_names [] (other ∷ others) same = absurd (true≢false (sym same))
same_names (hart ∷ harts) [] same = absurd (true≢false (sym same))
same_names (hart ∷ harts) (other ∷ others) same =
    let here = and_parts _ _ (and_parts (hart_eq hart other) _ same).0 in
    let more = same_names harts others (and_parts (hart_eq hart other) _ same).1 in
    ap (λ name. name ∷ names_of harts) ((bytes_decides hart.name.bytes other.name.bytes).0 here.1)
    ∙ ap (λ rest. other.name.bytes ∷ rest) more

-- one file more was looked at
pub file_more : (files : List (List ℕ)) (file : List ℕ) (before after : List HartName) → AreNames files before
    → AddsFile file before after → AreNames (files ++ file ∷ []) after
file_more files file before after so_far adds = record {
  same = adds.names ∙ ap (λ names. names ++ filter is_script (file ∷ [])) so_far.same
      ∙ sym (filter-append is_script files (file ∷ []));
  are_names = rw (
    filter-append is_script files (file ∷ []),
    list_all-append is_hart_name (filter is_script files) (filter is_script (file ∷ [])),
    so_far.are_names,
  )
      adds.are_names;
}

-- a file was looked at, and isn't one of a folder of harts
pub no_harts : (files : List (List ℕ)) (i : ℕ) (file : List ℕ) → i < length files → get_or files i file ≡ file
    → (refusal : Refusal) → (refusal ≡ Memory)
    ⊎ ((refusal ≡ BadFolder) × (is_script file ≡ true) × (is_hart_name file ≡ false)) → HasNoHarts files refusal
no_harts files i file inside at refusal (inl memory) = inl memory
no_harts files i file inside at refusal (inr (is, shown, bad)) =
    inr (
      is,
      ap (λ all. all && (nat_le 1 (length (filter is_script files)) && nat_le (length (filter is_script files)) HARTS))
          (bad_script files i file inside (ap is_script at ∙ shown) (ap is_hart_name at ∙ bad)),
    )

pub same_harts : (first second : List HartName) → names_of first ≡ names_of second
    → pointwise hart_eq first second ≡ true
same_harts [] [] same = refl
same_harts [] (other ∷ others) same = absurd cc
same_harts (hart ∷ harts) [] same = absurd cc
same_harts (hart ∷ harts) (other ∷ others) same =
    let name : hart.name.bytes ≡ other.name.bytes = cc in
    let rest : names_of harts ≡ names_of others = cc in
    rw (
      (bytes_decides hart.key.items other.key.items).1 (hart.is_key ∙ ap order_key name ∙ sym other.is_key),
      (bytes_decides hart.name.bytes other.name.bytes).1 name,
    ) (same_harts harts others rest)

-- what was read of a folder, in order
pub are_harts : (files : List (List ℕ)) (read sorted : List HartName) → AreNames files read → 1 ≤ length read
    → length read ≤ HARTS → IsPermutation read sorted → IsSorted hart_cmp sorted → AreHarts files (names_of sorted)
are_harts files read sorted are some few moved ordered = record {
  are_there = rw (are.are_names, sym are.same, length-map read name_of)
      (rw (le-leb 1 (length read) some, le-leb (length read) HARTS few) refl);
  same = rw (sym are.same) (IsPermutation-map name_of read sorted moved);
  ordered = ordered_names sorted ordered;
}
