-- How an entry is locked (Volume II, 3.7.1.2 and Smepmp).
use Rattle.std.specs.Prelude.{ℕ, if◌then◌else◌}
use Rattle.pmp_core.specs.declared.lock.Lock.{Lock}
use Rattle.pmp_core.specs.declared.lock.Lock.TheVariants.{Open, Bypassed, Frozen}
use Rattle.pmp_core.specs.RegisterFile.{RegisterFile, entry_at, is_frozen}

-- frozen if L is set and RLB clear, bypassed if both are set, and open if L is clear
abbrev pub lock_of : RegisterFile → ℕ → Lock
lock_of file i =
    if is_frozen file i then Frozen
    else (if (entry_at file.entries i).configuration.locked then Bypassed else Open)
