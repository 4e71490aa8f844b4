-- How an access is decided by the owners of its bytes (Volume II, 3.7.1.3).
use Rattle.std.specs.Prelude.{ℕ, Option, Some, None}
use Rattle.pmp_core.specs.declared.access.Access.{Access}
use Rattle.pmp_core.specs.declared.access.Mode.{Mode}
use Rattle.pmp_core.specs.declared.access.Mode.TheVariants.{M, S, U}
use Rattle.pmp_core.specs.declared.decision.Cause.{Cause}
use Rattle.pmp_core.specs.declared.decision.Cause.TheVariants.{Rule, NoMatch}
use Rattle.pmp_core.specs.declared.decision.Decision.{Decision}
use Rattle.pmp_core.specs.declared.perms.Perms.{Perms}
use Rattle.pmp_core.specs.RegisterFile.{RegisterFile}
use Rattle.pmp_core.specs.Rights.{Rights, perms_of, allows, rights, default_rights}
use Rattle.pmp_map.specs.declared.mode_rights.ModeRights.{ModeRights}

-- the rights of the owner's rule for the mode, or the default if there is no owner (3.7.1.3)
abbrev pub owned_rights : RegisterFile → Option ℕ → Mode → Rights
owned_rights file None = default_rights file
owned_rights file (Some i) = rights file i

-- the cause if the owner matches all bytes of the access
abbrev pub whole_cause : Option ℕ → Cause
whole_cause None = NoMatch
whole_cause (Some i) = Rule i

-- the decision if all bytes of the access have this owner
abbrev pub decision_by : RegisterFile → Option ℕ → Access → Decision
decision_by file owner access = record {
  allowed = allows (owned_rights file owner access.mode) access.kind;
  cause = whole_cause owner;
}

-- the rights of M-mode, and of S-mode and U-mode, which are equal, if this entry is the owner, or none is
abbrev pub rights_by : RegisterFile → Option ℕ → ModeRights
rights_by file owner = record {
  machine = perms_of (owned_rights file owner M);
  others = perms_of (owned_rights file owner U);
}

-- the mode's rights
abbrev pub kept_rights : ModeRights → Mode → Perms
kept_rights rights M = rights.machine
kept_rights rights S = rights.others
kept_rights rights U = rights.others
