-- What stays as it is between two register files, by the rights of one byte.
use Rattle.std.specs.Prelude.{◌≡◌, ℕ, Bool, true}
use Rattle.pmp_core.specs.declared.access.Kind.{Kind}
use Rattle.pmp_core.specs.declared.access.Mode.{Mode}
use Rattle.pmp_core.specs.declared.perms.Perms.{Perms}
use Rattle.pmp_core.specs.RegisterFile.{RegisterFile}
use Rattle.pmp_map.specs.declared.mode_rights.ModeRights.{ModeRights}
use Rattle.pmp_map.specs.Answers.{kept_rights}
use Rattle.pmp_map.specs.RightsRuns.{HasRights}
use Rattle.pmp_text.specs.Changes.{has_right}
use Rattle.pmp_plan.specs.declared.aim.Watch.{Watch}
use Rattle.pmp_plan.specs.declared.passing.Three.{Three}
use Rattle.pmp_plan.specs.Routes.{runs}

-- what is allowed, or refused, before and after is so in between, if it is asked of
abbrev pub Stays : Watch → (before during after : Bool) → Type 0
Stays watch before during after =
    (allowed : Bool) → (allowed ≡ true → watch.keeps_open ≡ true) → before ≡ allowed → after ≡ allowed
    → during ≡ allowed

abbrev pub KindStays : Watch → Three Perms → Kind → Type 0
KindStays watch perms kind =
    Stays watch (has_right perms.before kind) (has_right perms.during kind) (has_right perms.after kind)

abbrev pub PermsStay : Watch → Three Perms → Type 0
PermsStay watch perms = (kind : Kind) → KindStays watch perms kind

-- the rights of one mode
abbrev pub of_mode : Three ModeRights → Mode → Three Perms
of_mode rights mode = record {
  before = kept_rights rights.before mode;
  during = kept_rights rights.during mode;
  after = kept_rights rights.after mode;
}

-- the rights that each of three register files gives the byte
pub record HaveRights (before during after : RegisterFile) (byte : ℕ) (rights : Three ModeRights) : Type 0 where
  pub earlier : HasRights before byte rights.before
  pub meanwhile : HasRights during byte rights.during
  pub later : HasRights after byte rights.after

abbrev pub RightsStay : Watch → Three ModeRights → Type 0
RightsStay watch rights = (mode : Mode) → runs watch mode ≡ true → PermsStay watch (of_mode rights mode)
