-- Where a row holds the answer to an access.
use Rattle.std.specs.Prelude.{ℕ, ◌+◌, ◌*◌}
use Rattle.pmp_core.specs.declared.access.Mode.{Mode}
use Rattle.pmp_core.specs.declared.access.Kind.{Kind}
use Rattle.pmp_map.specs.Request.{mode_number, kind_number}

abbrev pub column_of : Mode → Kind → ℕ
column_of mode kind = 4 * mode_number mode + kind_number kind
