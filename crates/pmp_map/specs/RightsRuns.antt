-- What a register file lets the modes do with a byte.
use Rattle.std.specs.Prelude.{◌≡◌, ℕ, Option}
use Rattle.pmp_core.specs.Decision.{IsOwner}
use Rattle.pmp_core.specs.RegisterFile.{RegisterFile}
use Rattle.pmp_map.specs.declared.mode_rights.ModeRights.{ModeRights}
use Rattle.pmp_map.specs.Answers.{rights_by}

-- what a file lets the modes do with the byte, by the byte's owner
abbrev pub HasRights : RegisterFile → (byte : ℕ) → ModeRights → Type 0
HasRights file byte rights = (owner : Option ℕ) × IsOwner file byte owner × (rights ≡ rights_by file owner)
