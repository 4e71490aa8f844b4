-- The first byte that is open, or closed, to a mode and a kind of access.
use Rattle.std.specs.Prelude.{ℕ, ◌<◌, ◌≤◌, Bool, not}
use Rattle.pmp_core.specs.declared.access.Kind.{Kind}
use Rattle.pmp_core.specs.declared.access.Mode.{Mode}
use Rattle.pmp_core.specs.declared.access.TheConstants.{ADDRESS_LIMIT}
use Rattle.pmp_core.specs.RegisterFile.{RegisterFile}
use Rattle.pmp_map.specs.OpenBytes.{IsAnswered}

-- no byte from `from` up to, but not including, `end` is answered so
pub record AreAnsweredTo (file : RegisterFile) (allowed : Bool) (mode : Mode) (kind : Kind) (from end : ℕ) : Type 0
  where
    pub forward : from ≤ end
    pub inside : end ≤ ADDRESS_LIMIT
    pub before : (byte : ℕ) → from ≤ byte → byte < end → IsAnswered file (not allowed) mode kind byte

-- the first byte from `from` on that is answered so, or the end of all bytes
pub record IsFirstAnswered (file : RegisterFile) (allowed : Bool) (mode : Mode) (kind : Kind) (from first : ℕ) : Type 0
  where
    pub before : AreAnsweredTo file allowed mode kind from first
    pub here : first < ADDRESS_LIMIT → IsAnswered file allowed mode kind first
