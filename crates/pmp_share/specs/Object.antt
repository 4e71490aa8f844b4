-- The sequential object: its state is the list of published batches, empty at first.
-- Each step of the running rule (docs/ARCHITECTURE.md) is one event of it or none.
use Rattle.std.specs.Prelude.{◌≡◌, [], ◌++◌}
use Rattle.pmp_core.specs.declared.access.Access.{Access}
use Rattle.pmp_core.specs.declared.decision.Decision.{Decision}
use Rattle.pmp_core.specs.Decision.{IsDecision}
use Rattle.pmp_core.specs.RegisterFile.{RegisterFile}
use Rattle.pmp_share.specs.Batches.{Batches, file_from}

-- initially
abbrev pub no_batches : Batches
no_batches = []

-- a publication appends its batches
abbrev pub Publishes : Batches → Batches → Batches → Type 0
Publishes state batches after = after ≡ state ++ batches

-- a decision changes nothing, and is the manual's in the file after the base and the batches
abbrev pub Decides : (base : RegisterFile) → Batches → Access → Decision → Type 0
Decides base state access = IsDecision (file_from base state) access
