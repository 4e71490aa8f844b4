-- The writes for a plan without rows.
use Rattle.std.specs.Prelude.{◌==◌, [], ◌∷◌, List, if◌then◌else◌}
use Rattle.pmp_core.specs.declared.csr.Csr.TheVariants.{Mseccfg}
use Rattle.pmp_core.specs.declared.event.Event.{Event}
use Rattle.pmp_core.specs.declared.event.Event.TheVariants.{Write}
use Rattle.pmp_plan.specs.declared.security.Security.{Security}
use Rattle.pmp_plan.specs.Plans.{security_value}

-- mseccfg, if a bit of it is asked for
abbrev pub security_writes : Security → List Event
security_writes security =
    if security_value security == 0 then [] else Write Mseccfg (security_value security) ∷ []
