-- The names and comments of a policy's rows.
use Rattle.std.specs.Prelude.{ℕ, List, [], ◌∷◌, map, Some, None, if◌then◌else◌}
use Rattle.pmp_text.specs.declared.policy.label.Label.{Label}
use Rattle.pmp_text.specs.declared.policy.Policy.{Policy}
use Rattle.pmp_text.specs.declared.policy.row_fields.PolicyFields.{PolicyFields}
use Rattle.pmp_text.specs.Policies.{is_labeled, nine_fields, policy_fields}
use Rattle.pmp_text.specs.Tables.{records_of}

pub record LabelText : Type 0 where
  pub name : List ℕ
  pub comment : List ℕ

abbrev pub label_text : Label → LabelText
label_text label = record { name = label.name.items; comment = label.comment.items }

-- the label of a record
abbrev pub label_in : List (List ℕ) → LabelText
label_in fields = elim (nine_fields fields) [
  | Some all ↦ record { name = all.name; comment = all.comment }
  | None ↦ record { name = []; comment = [] }
]

-- the labels of the records after a header
abbrev pub labels_behind : List (List (List ℕ)) → List LabelText
labels_behind [] = []
labels_behind (header ∷ rows) = if is_labeled (header ∷ rows) then map label_in rows else []

-- the labels of a policy's rows, in order, if its header has them; else there are none
abbrev pub policy_labels : (text : List ℕ) → List LabelText
policy_labels text = labels_behind (records_of text)

-- the rows of a policy that was read, and their labels
abbrev pub rows_said : Policy → List PolicyFields
rows_said policy = map policy_fields policy.rows.items

abbrev pub labels_said : Policy → List LabelText
labels_said policy = map label_text policy.labels.items
