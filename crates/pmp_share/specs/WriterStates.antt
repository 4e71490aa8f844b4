-- The state of the publisher's side.
use Rattle.std.specs.Prelude.{◌≡◌, Bool, false, List, fold, Option, Some}
use Rattle.pmp_share.specs.declared.logged_batch.LoggedBatch.{LoggedBatch}
use Rattle.pmp_share.specs.declared.version_state.VersionState.{VersionState}
use Rattle.pmp_share.specs.declared.version.Version.{Version}
use Rattle.pmp_share.specs.declared.knowledge.Known.{Known}
use Rattle.pmp_share.specs.Batches.{Batches, StartsWith}
use Rattle.pmp_share.specs.Known.{known}
use Rattle.pmp_share.specs.Rule.{unit_of}
use Rattle.pmp_share.specs.Tokens.{UnitId}
use Rattle.pmp_share.specs.Versions.{applied}

-- the published batches; these and those handed over for the next publication; the history; and whether the history
-- has one more batch
pub record WriterProgress : Type 0 where
  pub unit : UnitId
  pub shown : Batches
  pub handed : Batches
  pub noted : Batches
  pub ahead : Bool

abbrev pub state_of : Version → VersionState
state_of version = record { batches = version.journal; log = version.history.log; unit = unit_of version }

-- what the next publication shows
abbrev pub after : Version → List LoggedBatch → VersionState
after version entries = fold applied (state_of version) entries

-- one unit's state, whose history has all that is handed over
pub record IsWriterState (recorder : Known) (ahead : Bool) (view : Option Known) (shown : Version)
    (next : VersionState) : Type 0 where
  pub seated : view ≡ Some (known recorder.unit shown.journal)
  pub unit : unit_of shown ≡ recorder.unit
  pub noted : shown.history.log ≡ shown.journal
  pub next_unit : next.unit ≡ recorder.unit
  pub next_noted : next.log ≡ next.batches
  pub begins : StartsWith next.batches shown.journal
  pub history : ahead ≡ false → recorder.list ≡ next.batches
