-- The rows of an audit, one after another.
use mir.Val.{bool_byte}
use Rattle.std.proofs.Common.{◌≡◌, ◌∙◌, ◌+◌, ◌<◌, ◌≤◌, ℕ, List, [], ◌∷◌, ◌++◌, ap, append_assoc, append-nil, arith, cond, false, length}
use Rattle.std.proofs.Common.{map, refl, sym, true, Bool, not}
use Rattle.std.specs.List.{AllZip}
use Rattle.std.proofs.lemmas.List.{length-append}
use Rattle.pmp_core.specs.Decision.{IsDecision}
use Rattle.pmp_core.specs.declared.decision.Decision.{Decision}
use Rattle.pmp_text.specs.AnswerRows.{answer_row}
use Rattle.pmp_text.specs.Cells.{RowValue}
use Rattle.pmp_text.specs.Contents.{ScriptContents}
use Rattle.pmp_text.specs.Reports.{AreDecided, file_of_script}
use Rattle.pmp_text.specs.TraceFaults.{IsInOrder, afters}
use Rattle.pmp_text.specs.Traces.{row_fields}
use Rattle.pmp_text.specs.declared.trace.TraceRow.{TraceRow}
use Rattle.pmp_audit.specs.Answers.{AreAdded}
use Rattle.pmp_audit.specs.AuditedRows.{DecisionsSay, decision_rows}
use Rattle.pmp_audit.specs.Report.{refused_count}
use Rattle.pmp_audit.proofs.Lists.{one_more_beside}
use Rattle.pmp_audit.proofs.Reports.{refused-push}

module _ (script : ScriptContents) where
  -- the rows before `rest` have their rows, and the replay stands at `done`
  pub record AreSoFar {A : Type 0} (Adds : List RowValue → A → A → Type 0) (rows rest : List TraceRow) (done : ℕ)
      (number faults : ℕ) (before after : A) : Type 0 where
    pub front : List TraceRow
    pub split : rows ≡ front ++ rest
    pub numbered : number ≡ length front
    pub decisions : List Decision
    pub decided : AreDecided script front decisions
    pub added : Adds (decision_rows 1 front decisions) before after
    pub counted : faults ≡ refused_count decisions
    pub few : faults ≤ number
    pub order : IsInOrder (length script.batches) done (afters (map row_fields rest))

rows_more : (script : ScriptContents) (first : ℕ) (front : List TraceRow) (decisions : List Decision) (row : TraceRow)
    (decision : Decision) → AreDecided script front decisions
    → decision_rows first (front ++ row ∷ []) (decisions ++ decision ∷ [])
    ≡ decision_rows first front decisions ++ answer_row (first + length front) row.access decision ∷ []
rows_more script first [] [] row decision are =
    let same : first ≡ first + 0 = omega arith in ap (λ (n : ℕ). answer_row n row.access decision ∷ []) same
rows_more script first [] (d ∷ ds) row decision are = absurd are
rows_more script first (r ∷ front) [] row decision are = absurd are
rows_more script first (r ∷ front) (d ∷ ds) row decision are =
    let same : (first + 1) + length front ≡ first + length (r ∷ front) = omega arith in
    ap (λ rows. answer_row first r.access d ∷ rows)
    (rows_more script (first + 1) front ds row decision are.1
    ∙ ap (λ (n : ℕ). decision_rows (first + 1) front ds ++ answer_row n row.access decision ∷ []) same)

faults_more : (allowed : Bool) → bool_byte (not allowed) ≡ cond allowed 0 1
faults_more true = refl
faults_more false = refl

pub byte_at_most : (b : Bool) (n : ℕ) → n ≡ bool_byte b → n ≤ 1
byte_at_most true n is = omega (arith, is)
byte_at_most false n is = omega (arith, is)

byte_most : (allowed : Bool) → cond {A = ℕ} allowed 0 1 ≤ 1
byte_most true = omega arith
byte_most false = omega arith

module _ (script : ScriptContents) {A : Type 0} (Adds : List RowValue → A → A → Type 0) where
  pub none_yet : (rows : List TraceRow) (before : A) → ((rows : A) → Adds [] rows rows)
      → IsInOrder (length script.batches) 0 (afters (map row_fields rows))
      → AreSoFar script Adds rows rows 0 0 0 before before
  none_yet rows before none order = record {
    front = [];
    split = refl;
    numbered = refl;
    decisions = [];
    decided = tt;
    added = none before;
    counted = refl;
    few = omega arith;
    order = order;
  }

  pub one_more : ((one other : List RowValue) (first second third : A) → Adds one first second → Adds other second third
      → Adds (one ++ other) first third) → (rows : List TraceRow) (row : TraceRow) (rest : List TraceRow)
      (done number faults : ℕ) (before so_far after : A) (decision : Decision)
      → AreSoFar script Adds rows (row ∷ rest) done number faults before so_far
      → IsDecision (file_of_script script row.after) row.access decision
      → Adds (answer_row (number + 1) row.access decision ∷ []) so_far after
      → AreSoFar script Adds rows rest row.after (number + 1) (faults + bool_byte (not decision.allowed)) before after
  one_more both rows row rest done number faults before so_far after decision are is added =
      let place : 1 + length are.front ≡ number + 1 = omega (arith, are.numbered) in
      let rows_are = rows_more script 1 are.front are.decisions row decision are.decided
      ∙ ap (λ (n : ℕ). decision_rows 1 are.front are.decisions ++ answer_row n row.access decision ∷ []) place in
      let byte = faults_more decision.allowed in
      let most = byte_most decision.allowed in
      let few = are.few in
      record {
        front = are.front ++ row ∷ [];
        split = are.split ∙ sym (append_assoc are.front (row ∷ []) rest);
        numbered = let longer = length-append are.front (row ∷ []) in omega (arith, longer, are.numbered);
        decisions = are.decisions ++ decision ∷ [];
        decided = one_more_beside (λ row decision. IsDecision (file_of_script script row.after) row.access decision)
            are.front are.decisions row decision are.decided is;
        added = rw rows_are (both _ _ before so_far after are.added added);
        counted = (λ i. are.counted i + byte i) ∙ sym (refused-push are.decisions decision);
        few = rw byte (omega (arith, few, most));
        order = are.order.2;
      }

module _ (script : ScriptContents) {A : Type 0} (Adds : List RowValue → A → A → Type 0) where
  pub few_left : (rows : List TraceRow) (row : TraceRow) (rest : List TraceRow) (done number faults : ℕ)
      (before so_far : A) → AreSoFar script Adds rows (row ∷ rest) done number faults before so_far
      → (number + 1 ≤ length rows) × (faults ≤ number)
  few_left rows row rest done number faults before so_far are =
      let lengths = ap length are.split ∙ length-append are.front (row ∷ rest) in
      let numbered = are.numbered in (omega (arith, lengths, numbered), are.few)

  pub all_said : (rows rest : List TraceRow) (done number faults : ℕ) (before after : A) → length rest ≡ 0
      → AreSoFar script Adds rows rest done number faults before after
      → AreAdded Adds (DecisionsSay script rows) before after faults
  all_said rows (row ∷ rest) done number faults before after none are = absurd (omega (arith, none))
  all_said rows [] done number faults before after none are =
      let same : rows ≡ are.front = are.split ∙ append-nil are.front in
      rw same (record {
        rows = decision_rows 1 are.front are.decisions;
        says = record { decisions = are.decisions; decided = are.decided; rows_are = refl; counted = are.counted };
        added = are.added;
      })

pub one_each : {A B : Type 0} (R : A → B → Type 0) (xs : List A) (ys : List B) → AllZip R xs ys → length ys ≡ length xs
one_each R [] [] are = refl
one_each R [] (y ∷ ys) are = absurd are
one_each R (x ∷ xs) [] are = absurd are
one_each R (x ∷ xs) (y ∷ ys) are = let rest = one_each R xs ys are.1 in omega (arith, rest)
