use Rattle.std.proofs.Common.{◌≡◌, ◌+◌, ◌≤◌, ◌∷◌, ◌++◌, [], Bool, List, cond, true, false, Ok, length, map, ap, sym}
use Rattle.std.proofs.Common.{◌∙◌, arith}
use Rattle.std.proofs.lemmas.List.{length-append, map-append}
use Rattle.std.proofs.lemmas.List.Elements.{All-push}
use Rattle.pmp_text.specs.Labels.{LabelText}
use Rattle.pmp_text.specs.Policies.{policy_fields}
use Rattle.pmp_text.proofs.Rows.{one_policy_row, with_policy_read}
use Rattle.pmp_text.proofs.policy.reader.read_rows.Goals as goal

-- where there are no labels none are left
no_label : (labeled : Bool) (all labels here there : List LabelText) → labeled ≡ false
    → all ≡ labels ++ cond labeled here [] → all ≡ labels ++ cond labeled there []
no_label true all labels here there e so_far = absurd cc
no_label false all labels here there e so_far = so_far

pub loop-labels-preserved : goal.loop-labels-preserved
loop-labels-preserved c =
    let found : c.in_ok-read.field-0 ≡ true = c.if-branch.true in
    let moments = c.args.moments.now in
    let rows = c.loop-labels.rows.items in
    let row = c.in-Ok.row in
    let fields = c.read.new.self.fields in
    let left = c.read.new.self.left in
    let more = c.in_ok-push-in-Ok.ensures.items in
    let count : length rows + 1 ≡ length c.push.new.self.items =
    omega (arith, ap length more, length-append rows (row ∷ [])) in
    let said = sym (ap (map policy_fields) more ∙ map-append policy_fields rows (row ∷ [])) in
    record {
      rows = c.loop-labels.invariant.rows
          ∙ ap (with_policy_read c.args.labeled moments (length rows) (map policy_fields rows))
          (c.in_ok-read.ensures.next (ap Ok found))
          ∙ one_policy_row c.args.labeled moments (length rows) (map policy_fields rows) (policy_fields row) fields left
          (rw c.fields.ensures at c.in-Ok.ensures.ok.0) (rw c.fields.ensures at c.in-Ok.ensures.ok.1)
          ∙ (λ i. with_policy_read c.args.labeled moments (count i) (said i) left);
      within = rw more (All-push (λ row. row.to ≤ moments.publications) rows row c.loop-labels.invariant.within
          c.in-Ok.ensures.within);
      labels = no_label c.args.labeled _ _ _ _ c.if-labeled.false c.loop-labels.invariant.labels;
    }
