-- An entry (Volume II, 3.7.1).
use Rattle.std.specs.Prelude.{ℕ}
use Rattle.pmp_core.specs.Configuration.{Configuration}

-- its configuration, and its word address: bits 55 to 2 of a byte address
pub record Entry : Type 0 where
  pub configuration : Configuration
  pub address : ℕ
