-- A rule as an entry stores it.
use Rattle.std.specs.Prelude.{ℕ, if◌then◌else◌}
use Rattle.pmp_core.specs.Configuration.{Configuration, configuration_of}
use Rattle.pmp_core.specs.RegisterWrite.{without_reserved}
use Rattle.pmp_plan.specs.declared.security.Security.{Security}

-- W without R is stored as no rights if MML is 0 (3.7.1)
abbrev pub stored_rule : Security → (byte : ℕ) → Configuration
stored_rule security byte =
    if security.mml then configuration_of byte else without_reserved (configuration_of byte)
