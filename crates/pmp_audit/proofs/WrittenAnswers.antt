-- What a call answers that made a text.
use Rattle.std.proofs.Common.{Global, Vec}
use Rattle.std.proofs.Common.{◌≡◌, ◌⊎◌, ℕ, ◌++◌, List, [], Option, Result, Ok, Err, ap, inl, inr, refl, ◌∙◌}
use Rattle.std.specs.Prelude.{IfOk, IfErr}
use Rattle.std.specs.Io.KnownBytes.{Appends, Keeps}
use Rattle.pmp_text.specs.Bytes.{AppendsBeginning}
use Rattle.pmp_text.specs.Cells.{RowValue, csv_text}
use Rattle.pmp_text.specs.declared.fault.Fault.{Fault}
use Rattle.pmp_audit.specs.Answers.{AreAdded, Declines, InCsv, IsAppended, IsRefused, IsWritten}
use Rattle.pmp_text.specs.Outcomes.{no_output}

-- what was appended to an empty text is all of it
pub whole : {A : Type 0} (Says : A → List ℕ → Type 0) (before after held : List ℕ) (made : Result A Fault)
    → IfOk made (IsAppended Says before after) → before ≡ [] → held ≡ after → IfOk made (λ answer. Says answer held)
whole Says before after held (Ok answer) it empty is =
    rw (is ∙ it.appended ∙ ap (λ front. front ++ it.text) empty) it.says
whole Says before after held (Err fault) none empty is = tt

-- a text was made, or it was declined to: what was answered then
module _ {A : Type 0} (Says : A → List ℕ → Type 0) (before after : Option (List ℕ)) (text : List ℕ)
    (made : Result A Fault) (good : IfOk made (λ answer. Says answer text)) where
  pub answered : (result : Result A Fault)
      → IfOk result (λ given. (made ≡ Ok given) × Appends before after text) → IfOk result (IsWritten Says before after)
  answered (Ok given) (is, written) = record { text = text; says = rw is at good; written = written }
  answered (Err fault) none = tt

  module _ (Refuses : Fault → Type 0) (bad : IfErr made (Declines Refuses)) where
    pub refused : (result : Result A Fault) → IfErr result (λ fault. ((made ≡ Err fault) × Keeps before after)
        ⊎ ((given : A) × (made ≡ Ok given) × (fault ≡ no_output) × AppendsBeginning before after text))
        → IfErr result (IsRefused Says before after Refuses)
    refused (Ok given) none = tt
    refused (Err fault) (inl (is, kept)) = inr (rw is at bad, kept)
    refused (Err fault) (inr (given, is, output, front)) =
        inl (output, record { answer = given; text = text; says = rw is at good; front = front })

-- a text was made from nothing, and written, or it was declined to
module _ {A : Type 0} (Says : A → List ℕ → Type 0) (start after held : List ℕ) (made : Result A Fault)
    (before next : Option (List ℕ)) where
  pub written_so : (result : Result A Fault)
      → IfOk result (λ given. (made ≡ Ok given) × Appends before next held) → IfOk made (IsAppended Says start after)
      → start ≡ [] → held ≡ after → IfOk result (IsWritten Says before next)
  written_so result told it empty same =
      answered Says before next held made (whole Says start after held made it empty same) result told

  pub refused_so : (Refuses : Fault → Type 0) (result : Result A Fault)
      → IfErr result (λ fault. ((made ≡ Err fault) × Keeps before next)
      ⊎ ((given : A) × (made ≡ Ok given) × (fault ≡ no_output) × AppendsBeginning before next held))
      → IfOk made (IsAppended Says start after) → start ≡ [] → held ≡ after → IfErr made (Declines Refuses)
      → IfErr result (IsRefused Says before next Refuses)
  refused_so Refuses result told it empty same bad = refused Says before next held made
      (whole Says start after held made it empty same) Refuses bad result told

-- the same of rows that were added to a text
in_csv : {A : Type 0} (Says : A → List RowValue → Type 0) (start after : Vec ℕ Global) (made : Result A Fault)
    → IfOk made (AreAdded (λ rows before after. after.items ≡ before.items ++ csv_text rows) Says start after)
    → IfOk made (IsAppended (InCsv Says) start.items after.items)
in_csv Says start after (Ok answer) it =
    record { text = csv_text it.rows; says = (it.rows, it.says, refl); appended = it.added }
in_csv Says start after (Err fault) none = tt

module _ {A : Type 0} (Says : A → List RowValue → Type 0) (start after : Vec ℕ Global) (held : List ℕ)
    (made : Result A Fault) (before next : Option (List ℕ)) where
  pub written_rows : (result : Result A Fault)
      → IfOk result (λ given. (made ≡ Ok given) × Appends before next held)
      → IfOk made (AreAdded (λ rows before after. after.items ≡ before.items ++ csv_text rows) Says start after)
      → start.items ≡ [] → held ≡ after.items → IfOk result (IsWritten (InCsv Says) before next)
  written_rows result told it = written_so (InCsv Says) start.items after.items held made before next result told
      (in_csv Says start after made it)

  pub refused_rows : (Refuses : Fault → Type 0) (result : Result A Fault)
      → IfErr result (λ fault. ((made ≡ Err fault) × Keeps before next)
      ⊎ ((given : A) × (made ≡ Ok given) × (fault ≡ no_output) × AppendsBeginning before next held))
      → IfOk made (AreAdded (λ rows before after. after.items ≡ before.items ++ csv_text rows) Says start after)
      → start.items ≡ [] → held ≡ after.items → IfErr made (Declines Refuses)
      → IfErr result (IsRefused (InCsv Says) before next Refuses)
  refused_rows Refuses result told it = refused_so (InCsv Says) start.items after.items held made before next Refuses
      result told (in_csv Says start after made it)

pub ruleset answer_rules = (written_so, refused_so)
