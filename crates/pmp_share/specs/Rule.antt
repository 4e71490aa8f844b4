-- The running rule over the published version.
use Rattle.std.specs.Prelude.{◌≡◌, ℕ, List, Option, Some, None}
use mathlib.Core.Option.{some}
use lib.ListN.{get_elem?}
use Rattle.pmp_share.specs.declared.knowledge.Known.{Known}
use Rattle.pmp_share.specs.declared.version.Version.{Version}
use Rattle.pmp_share.specs.Batches.{StartsWith}
use Rattle.pmp_share.specs.Known.{known}
use Rattle.pmp_share.specs.Tokens.{UnitId, unit_with}

-- the version's unit
abbrev pub unit_of : Version → UnitId
unit_of version = unit_with version.history.book version.base.value

-- everything in a version
abbrev pub known_of : Version → Known
known_of version = known (unit_of version) version.journal

-- what is known is of the version's unit, and a prefix of its batches
abbrev pub Fits : Version → Option Known → Type 0
Fits version None = Unit {0}
Fits version (Some view) = (view.unit ≡ unit_of version) × StartsWith version.journal view.list

-- the version's history is its batches, of which all that is known is a prefix
pub record Kept (version : Version) (views : List (Option Known)) : Type 0 where
  pub noted : version.history.log ≡ version.journal
  pub fits : (seat : ℕ) (view : Option Known) → get_elem? views seat ≡ some view → Fits version view

-- on entering: what was known is a prefix of the version's batches, which are all known now
abbrev pub Enters : Option Known → Version → Version → Option Known → Type 0
Enters before version _ after =
    Fits version before × (version.history.log ≡ version.journal) × (after ≡ Some (known_of version))

-- publication: all batches of the next version are known
abbrev pub Shown : Option Known → Version → Version → Option Known → Type 0
Shown _ _ next after = after ≡ Some (known_of next)
