-- Two sets of rights are those of every mode.
use Rattle.std.proofs.Common.{rules, ◌≡◌, ℕ, Bool, Option, Some, None, refl, ap}
use Rattle.pmp_core.specs.Configuration.{Configuration}
use Rattle.pmp_core.specs.declared.access.Mode.{Mode}
use Rattle.pmp_core.specs.declared.access.Mode.TheVariants.{M, S, U}
use Rattle.pmp_core.specs.RegisterFile.{RegisterFile, entry_at}
use Rattle.pmp_core.specs.Rights.{perms_of, rule_rights}
use Rattle.pmp_map.specs.Answers.{owned_rights, kept_rights, rights_by}

-- supervisor and user mode have the same rights
rule_alike : (mml : Bool) (c : Configuration) → rule_rights mml c U ≡ rule_rights mml c S
rule_alike mml c = search rules

pub rights_kept : (file : RegisterFile) (owner : Option ℕ) (mode : Mode)
    → kept_rights (rights_by file owner) mode ≡ perms_of (owned_rights file owner mode)
rights_kept file owner M = refl
rights_kept file None S = refl
rights_kept file (Some i) S = ap perms_of (rule_alike file.mseccfg.mml (entry_at file.entries i).configuration)
rights_kept file owner U = refl
