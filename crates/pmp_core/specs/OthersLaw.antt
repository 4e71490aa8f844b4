-- What a write leaves unchanged (Volume II, 3.7.1 and 3.7.1.1).
use Rattle.std.specs.Prelude.{◌≡◌, ◌≢◌, ◌↔◌, ℕ, suc, ◌==◌, Bool, true, false, ◌&&◌, ◌||◌}
use Rattle.pmp_core.specs.declared.access.Access.{Access}
use Rattle.pmp_core.specs.declared.csr.Csr.{Csr}
use Rattle.pmp_core.specs.declared.csr.Csr.TheVariants.{Cfg, Addr, Mseccfg}
use Rattle.pmp_core.specs.declared.decision.Decision.{Decision}
use Rattle.pmp_core.specs.RegisterFile.{RegisterFile, entry_at}
use Rattle.pmp_core.specs.RegisterWrite.{holds, is_tor, written}
use Rattle.pmp_core.specs.Hart.{holds_byte_of}
use Rattle.pmp_core.specs.Matching.{Matches}
use Rattle.pmp_core.specs.Decision.{IsDecision, Touches}

-- a write to the register may move entry i; a TOR entry also by the pmpaddr before its own (3.7.1.1)
abbrev pub may_move : RegisterFile → Csr → ℕ → Bool
may_move file (Cfg q) i = holds_byte_of file.profile q i
may_move file (Addr j) i = i == j || (i == suc j && is_tor (entry_at file.entries i).configuration.matching)
may_move file _ i = false

pub record LeavesOthers (file after : RegisterFile) (csr : Csr) : Type 0 where
  -- the entries that the register doesn't hold
  pub entries : (i : ℕ) → holds file.profile csr i ≡ false → entry_at after.entries i ≡ entry_at file.entries i
  -- the bytes of entries that it can't move
  pub bytes : (i byte : ℕ) → may_move file csr i ≡ false → Matches after i byte ↔ Matches file i byte
  -- and, except for mseccfg, decisions on accesses that touch no entry that it may move, before or after
  pub decisions : csr ≢ Mseccfg → (access : Access)
      → ((i : ℕ) → may_move file csr i ≡ true → ¬ (Touches file access i) × ¬ (Touches after access i))
      → (decision : Decision) → IsDecision file access decision → IsDecision after access decision

-- every write leaves the others unchanged
abbrev pub OthersLaw : Type 0
OthersLaw = (file : RegisterFile) (csr : Csr) (value : ℕ) → LeavesOthers file (written file csr value) csr
