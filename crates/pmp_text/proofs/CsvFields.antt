-- Fields of CSV, and rows of them.
use Rattle.std.proofs.Common.{◌≡◌, ℕ, ◌+◌, ◌<◌, List, [], ◌∷◌, ◌++◌, get_or, length, take, refl, sym, ap}
use Rattle.std.proofs.Common.{◌∙◌, append_assoc}
use Rattle.std.specs.Prelude.{Result, Ok, Err, OnOk}
use Rattle.std.proofs.lemmas.List.{take_more}
use Rattle.csv.specs.Writing.{default_writer, escaped}
use Rattle.csv.proofs.WriteFacts.{escaped-append}
use Rattle.pmp_text.specs.Reports.{fields_after, fields_before}

pub escaped_more : (field : List ℕ) (i : ℕ) → i < length field
    → escaped default_writer (take i field) ++ escaped default_writer (get_or field i 0 ∷ [])
    ≡ escaped default_writer (take (i + 1) field)
escaped_more field i inside = sym (ap (escaped default_writer) (take_more field i 0 inside)
    ∙ escaped-append default_writer (take i field) (get_or field i 0 ∷ []))

pub fields_end : (fields : List (List ℕ)) → fields_after fields ≡ fields_before fields ++ 10 ∷ []
fields_end [] = refl
fields_end (field ∷ more) =
    ap (λ (l : List ℕ). 44 ∷ (field ++ l)) (fields_end more)
    ∙ ap (λ (l : List ℕ). 44 ∷ l) (sym (append_assoc field (fields_before more) (10 ∷ [])))

-- the fields so far, and LF, are those of a whole row
pub ends_row : {T E : Type 0} (result : Result T E) (first longer last : List ℕ) (fields : List (List ℕ))
    → longer ≡ first ++ fields_before fields → OnOk result (last ≡ longer ++ 10 ∷ [])
    → OnOk result (last ≡ first ++ fields_after fields)
ends_row (Ok x) first longer last fields so_far end =
    end ∙ ap (λ (l : List ℕ). l ++ 10 ∷ []) so_far ∙ append_assoc first (fields_before fields) (10 ∷ [])
    ∙ ap (λ (l : List ℕ). first ++ l) (sym (fields_end fields))
ends_row (Err e) first longer last fields so_far end = tt
