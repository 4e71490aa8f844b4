use Rattle.std.proofs.Common.{ℕ, List, Result, inl, ◌∙◌, arith}
use Rattle.pmp_text.specs.declared.policy.row_fields.PolicyFields.{PolicyFields}
use Rattle.pmp_text.specs.declared.fault.Fault.{Fault}
use Rattle.pmp_text.specs.Moments.{KnownMoments}
use Rattle.pmp_text.specs.Policies.{is_labeled, is_policy_header, policy_rows_meaning}
use Rattle.pmp_text.specs.Tables.{records_of}
use Rattle.pmp_text.proofs.Rows.{long_text, by_records, policy_is}
use Rattle.pmp_text.proofs.policy.reader.read_policy.Goals as goal
use Rattle.pmp_text.specs.declared.fault.Source.TheVariants as source

-- what the records behind the header mean
abbrev behind : KnownMoments → (text : List ℕ) → List (List (List ℕ)) → Result (List PolicyFields) Fault
behind moments text = policy_rows_meaning (is_labeled (records_of text)) moments

pub returns-then-text-gt-MAX_TRACE-clause-given : goal.returns-then-text-gt-MAX_TRACE-clause-given
returns-then-text-gt-MAX_TRACE-clause-given c =
    rw (c.at_row.ensures, c.whole.ensures) (inl (policy_is c.args.moments.now c.args.text.now
    ∙ long_text source.Policy is_policy_header (behind c.args.moments.now c.args.text.now) c.args.text.now (omega arith)))

pub returns-clause-given : goal.returns-clause-given
returns-clause-given c =
    rw (
      policy_is c.args.moments.now c.args.text.now,
      by_records source.Policy is_policy_header (behind c.args.moments.now c.args.text.now) c.args.text.now (omega arith),
      ← c.open.ensures,
    ) c.read_records.ensures.given
