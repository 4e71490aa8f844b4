-- A script begins with what the first lines of its log give.
use Rattle.std.proofs.Common.{◌≡◌, ℕ, List, [], ◌∷◌, ◌++◌, Result, Ok, Err, refl, sym, ap, ◌∙◌, append_assoc}
use Rattle.pmp_text.specs.declared.refusal.Refusal.{Refusal}
use Rattle.pmp_text.specs.declared.fault.Fault.{Fault}
use Rattle.pmp_import.specs.declared.given.Given.{Given}
use Rattle.pmp_import.specs.declared.given.Walk.{Walk}
use Rattle.pmp_import.specs.declared.said.Said.{Said}
use Rattle.pmp_import.specs.Imported.{at, beginning, behind_said, head_text, imported_from, line_of, lines_text, said_text}
use Rattle.pmp_import.specs.Imported.{with_front}
use Rattle.pmp_import.specs.Laws.{FrontLaw}

abbrev Begins : (front text : List ℕ) → Type 0
Begins front text = (rest : List ℕ) × (text ≡ front ++ rest)

-- where it begins so after a text, it begins so with that
both_begin : (one front script : List ℕ) (later : Result (List ℕ) Fault)
    → ((text : List ℕ) → later ≡ Ok text → Begins front text) → with_front one later ≡ Ok script
    → Begins (one ++ front) script
both_begin one front script (Ok text) begins e =
    let (rest, is) = begins text refl in
    let same : one ++ text ≡ script = cc in
    (rest, sym same ∙ ap (λ (l : List ℕ). one ++ l) is ∙ sym (append_assoc one front rest))
both_begin one front script (Err fault) begins e = absurd cc

module _ (given : Given) where
  by_said : (walk : Walk) (more behind : List (List ℕ)) (script : List ℕ) (read : Result Said Refusal)
      → ((said : Said) (text : List ℕ)
      → imported_from given (behind_said given walk said) (more ++ behind) ≡ Ok text
      → Begins (lines_text given (behind_said given walk said) more) text)
      → ◌≡◌ {A = Result (List ℕ) Fault} (elim read [
        | Ok said ↦ with_front (said_text given walk said)
            (imported_from given (behind_said given walk said) (more ++ behind))
        | Err refusal ↦ Err (at walk.line refusal)
      ]) (Ok script)
      → Begins (elim read [
        | Ok said ↦ said_text given walk said ++ lines_text given (behind_said given walk said) more
        | Err refusal ↦ []
      ]) script
  by_said walk more behind script (Ok said) begins e =
      both_begin (said_text given walk said) _ script _ (begins said) e
  by_said walk more behind script (Err refusal) begins e = absurd cc

  text_begins : (front behind : List (List ℕ)) (walk : Walk) (script : List ℕ)
      → imported_from given walk (front ++ behind) ≡ Ok script → Begins (lines_text given walk front) script
  text_begins [] behind walk script e = (script, refl)
  text_begins (line ∷ more) behind walk script e = by_said walk more behind script (line_of given walk line)
      (λ said. text_begins more behind (behind_said given walk said)) e

pub begins_with_front : FrontLaw
begins_with_front given front behind script e =
    both_begin (head_text given) _ script _ (text_begins given front behind beginning) e
