-- What a policy's row asks about the bytes of one owner, computed from the owner's rights and locks.
use Rattle.std.specs.Prelude.{ℕ, Bool, not, ◌&&◌, ◌||◌, Option, if◌then◌else◌}
use Rattle.pmp_core.specs.declared.access.Kind.{Kind}
use Rattle.pmp_core.specs.declared.access.Kind.TheVariants.{Fetch, Load, Store}
use Rattle.pmp_core.specs.declared.access.Mode.{Mode}
use Rattle.pmp_core.specs.declared.access.Mode.TheVariants.{M, S, U}
use Rattle.pmp_core.specs.RegisterFile.{RegisterFile}
use Rattle.pmp_core.specs.Rights.{Rights, allows}
use Rattle.pmp_map.specs.Answers.{owned_rights}
use Rattle.pmp_map.specs.OpenBytes.{holds}
use Rattle.pmp_text.specs.declared.policy.Kinds.{Kinds}
use Rattle.pmp_text.specs.declared.policy.PolicyRow.{PolicyRow}
use Rattle.pmp_text.specs.Policies.{has_kind, has_mode}
use Rattle.pmp_audit.specs.declared.policy_check.question.Question.{Question}
use Rattle.pmp_audit.specs.declared.policy_check.question.Question.TheVariants as question
use Rattle.pmp_audit.specs.PolicyCheck.{IsBroken, IsNotHeld, is_broken_by}

-- the right is given, or it isn't
abbrev pub is_so : (allowed given : Bool) → Bool
is_so allowed given = if allowed then given else not given

abbrev pub finds_kind : (allowed : Bool) → Rights → Kinds → Kind → Bool
finds_kind allowed rights kinds kind = has_kind kinds kind && is_so allowed (allows rights kind)

abbrev pub finds_in : (allowed : Bool) → Rights → Kinds → Bool
finds_in allowed rights kinds =
    finds_kind allowed rights kinds Fetch
    || (finds_kind allowed rights kinds Load || finds_kind allowed rights kinds Store)

abbrev pub finds_mode : (allowed : Bool) → RegisterFile → (owner : Option ℕ) → PolicyRow → Mode → Bool
finds_mode allowed file owner row mode =
    has_mode row.modes mode && finds_in allowed (owned_rights file owner mode) row.kinds

abbrev pub finds_owned : (allowed : Bool) → RegisterFile → (owner : Option ℕ) → PolicyRow → Bool
finds_owned allowed file owner row =
    finds_mode allowed file owner row M || (finds_mode allowed file owner row S || finds_mode allowed file owner row U)

-- the answer for the bytes of this owner
abbrev pub is_yes : Question → RegisterFile → (owner : Option ℕ) → PolicyRow → Bool
is_yes question.IsBroken file owner row = finds_owned (is_broken_by row.demand) file owner row
is_yes question.IsNotHeld file owner row = not (holds file owner)

-- what is asked about a byte
abbrev pub IsYes : Question → RegisterFile → PolicyRow → (byte : ℕ) → Type 0
IsYes question.IsBroken file row = IsBroken file row
IsYes question.IsNotHeld file row = IsNotHeld file row
