-- The words for an access's mode and kind.
use Rattle.std.specs.Prelude.{ℕ, List, Option, Some, None, codes, bytes_eq, if◌then◌else◌}
use Rattle.pmp_core.specs.declared.access.Mode.{Mode}
use Rattle.pmp_core.specs.declared.access.Mode.TheVariants.{M, S, U}
use Rattle.pmp_core.specs.declared.access.Kind.{Kind}
use Rattle.pmp_core.specs.declared.access.Kind.TheVariants.{Fetch, Load, Store}

abbrev pub mode_named : List ℕ → Option Mode
mode_named word =
    if bytes_eq word (codes "M") then Some M
    else (if bytes_eq word (codes "S") then Some S
    else (if bytes_eq word (codes "U") then Some U else None))

abbrev pub kind_named : List ℕ → Option Kind
kind_named word =
    if bytes_eq word (codes "fetch") then Some Fetch
    else (if bytes_eq word (codes "load") then Some Load
    else (if bytes_eq word (codes "store") then Some Store else None))
