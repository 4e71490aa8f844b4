-- Which rights an entry can give, and which of them it can hold (Volume II, 3.7.1, 3.7.1.2 and Smepmp).
use Rattle.std.specs.Prelude.{◌≡◌, false, true}
use Rattle.pmp_core.specs.declared.access.Mode.TheVariants.{M, U}
use Rattle.pmp_core.specs.Configuration.{Configuration, is_reserved}
use Rattle.pmp_core.specs.Rights.{perms_of, rule_rights}
use Rattle.pmp_map.specs.declared.mode_rights.ModeRights.{ModeRights}
use Rattle.pmp_plan.specs.declared.plan_row.Demand.{Demand}
use Rattle.pmp_plan.specs.declared.security.Security.{Security}

-- what an entry's rule, its L, R, W and X, gives M-mode, and S-mode and U-mode, by MML
abbrev pub rule_pair : Security → Configuration → ModeRights
rule_pair security rule = record {
  machine = perms_of (rule_rights security.mml rule M);
  others = perms_of (rule_rights security.mml rule U);
}

-- the rule gives what is asked: W without R only if MML is 1, exactly these rights, and if bytes are to be held, L with
-- RLB clear
pub record IsRuleFor (security : Security) (demand : Demand) (rule : Configuration) : Type 0 where
  pub legal : security.mml ≡ false → is_reserved rule ≡ false
  pub rights : rule_pair security rule ≡ demand.rights
  pub holds : demand.is_locked ≡ true → (rule.locked ≡ true) × (security.rlb ≡ false)

-- some rule does
abbrev pub HasRule : Security → Demand → Type 0
HasRule security demand = (rule : Configuration) × IsRuleFor security demand rule
