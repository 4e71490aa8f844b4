use Rattle.std.proofs.Common.{◌≡◌, ◌≤◌, ◌++◌, [], cond, length, map}
use Rattle.std.specs.Prelude.{All}
use Rattle.pmp_text.specs.Labels.{label_in, label_text}
use Rattle.pmp_text.specs.Policies.{policy_fields, policy_rows_meaning}
use Rattle.pmp_text.proofs.Rows.{with_policy_read}
use Rattle.pmp_text.proofs.policy.reader.read_rows.Given as goal

-- the rows and the labels behind what was read
abbrev pub invariant-loop-labels : goal.invariant-loop-labels
invariant-loop-labels l = record {
  rows : policy_rows_meaning l.labeled l.moments l.fn.records.left
      ≡ with_policy_read l.labeled l.moments (length l.rows.items) (map policy_fields l.rows.items) l.records.left;
  within : All (λ row. row.to ≤ l.moments.publications) l.rows.items;
  labels : cond l.labeled (map label_in l.fn.records.left) []
      ≡ map label_text l.labels.items ++ cond l.labeled (map label_in l.records.left) [];
}

abbrev pub decreases-loop-labels : goal.decreases-loop-labels
decreases-loop-labels l = length l.records.left
