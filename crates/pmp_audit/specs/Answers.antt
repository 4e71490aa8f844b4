-- What a call returns that makes rows or a text from its inputs, and adds, appends or writes them.
use Rattle.std.specs.Prelude.{◌≡◌, ◌⊎◌, ℕ, List, ◌++◌, Option}
use Rattle.std.specs.Io.KnownBytes.{Appends, Keeps}
use Rattle.pmp_text.specs.Bytes.{AppendsBeginning}
use Rattle.pmp_text.specs.Cells.{RowValue, csv_text}
use Rattle.pmp_text.specs.declared.fault.Fault.{Fault}
use Rattle.pmp_text.specs.Outcomes.{no_memory, no_output}

-- memory ran out, or the call itself refuses
abbrev pub Declines : (Refuses : Fault → Type 0) → Fault → Type 0
Declines Refuses fault = (fault ≡ no_memory) ⊎ Refuses fault

-- Says answer text: this text belongs to this answer, and was appended
pub record IsAppended {A : Type 0} (Says : A → List ℕ → Type 0) (before after : List ℕ) (answer : A) : Type 0 where
  pub text : List ℕ
  pub says : Says answer text
  pub appended : after ≡ before ++ text

-- Says answer rows: these rows belong to this answer, and were added
pub record AreAdded {A B : Type 0} (Adds : List RowValue → B → B → Type 0) (Says : A → List RowValue → Type 0)
    (before after : B) (answer : A) : Type 0 where
  pub rows : List RowValue
  pub says : Says answer rows
  pub added : Adds rows before after

-- the text of such rows
abbrev pub InCsv : {A : Type 0} → (Says : A → List RowValue → Type 0) → A → (text : List ℕ) → Type 0
InCsv Says answer text = (rows : List RowValue) × Says answer rows × (text ≡ csv_text rows)

-- Says answer text: this text belongs to this answer
module _ {A : Type 0} (Says : A → List ℕ → Type 0) (before after : Option (List ℕ)) where
  -- a text that belongs to the answer was written
  pub record IsWritten (answer : A) : Type 0 where
    pub text : List ℕ
    pub says : Says answer text
    pub written : Appends before after text

  -- a prefix of a text that belongs to some answer was written
  pub record IsCutShort : Type 0 where
    pub answer : A
    pub text : List ℕ
    pub says : Says answer text
    pub front : AppendsBeginning before after text

  -- the output failed, memory ran out, or the call itself refuses; bytes were written only if the output failed
  abbrev pub IsRefused : (Refuses : Fault → Type 0) → Fault → Type 0
  IsRefused Refuses fault =
      ((fault ≡ no_output) × IsCutShort) ⊎ (Declines Refuses fault × Keeps before after)
