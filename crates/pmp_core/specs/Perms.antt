-- The right that a kind of access needs (3.7.1).
use Rattle.pmp_core.specs.declared.access.Kind.{Kind}
use Rattle.pmp_core.specs.declared.access.Kind.TheVariants.{Fetch, Load, Store}
use Rattle.pmp_core.specs.declared.perms.Perms.{Perms}

abbrev pub right_of : Kind → Perms
right_of Load = record { 0 = 1 }
right_of Store = record { 0 = 2 }
right_of Fetch = record { 0 = 4 }
