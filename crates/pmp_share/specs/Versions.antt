-- What an entry does to a version.
use Rattle.std.specs.Prelude.{◌∷◌, ◌++◌, []}
use Rattle.pmp_share.specs.declared.logged_batch.LoggedBatch.{LoggedBatch}
use Rattle.pmp_share.specs.declared.version_state.VersionState.{VersionState}
use Rattle.pmp_share.specs.Tokens.{unit_with}

-- its batch is appended, and its history replaces the old one. The base stays
abbrev pub applied : VersionState → LoggedBatch → VersionState
applied told logged = record {
  batches = told.batches ++ logged.events.items ∷ [];
  log = logged.history.log;
  unit = unit_with logged.history.book told.unit.base;
}
