-- How the owners of bytes are locked (Volume II, 3.7.1.2 and Smepmp).
use Rattle.std.specs.Prelude.{ℕ, Bool, true, false, Option, Some, None}
use Rattle.pmp_core.specs.declared.lock.Lock.{Lock}
use Rattle.pmp_core.specs.declared.lock.Lock.TheVariants as entry
use Rattle.pmp_core.specs.Lock.{lock_of}
use Rattle.pmp_core.specs.RegisterFile.{RegisterFile}
use Rattle.pmp_map.specs.declared.byte_lock.ByteLock.{ByteLock}
use Rattle.pmp_map.specs.declared.byte_lock.ByteLock.TheVariants.{Open, Bypassed, Frozen, Held}
use Rattle.pmp_map.specs.OpenBytes.{holds}

-- the entry's lock, unless it is held
abbrev pub entry_lock : Lock → ByteLock
entry_lock entry.Open = Open
entry_lock entry.Bypassed = Bypassed
entry_lock entry.Frozen = Frozen

abbrev pub owner_lock : RegisterFile → (owner : Option ℕ) → ByteLock
owner_lock file None = Open
owner_lock file (Some i) = entry_lock (lock_of file i)

abbrev pub lock_unless : (is_held : Bool) → ByteLock → ByteLock
lock_unless true lock = Held
lock_unless false lock = lock

-- held if the owner holds, else the owner's lock; open if there is no owner
abbrev pub lock_by : RegisterFile → (owner : Option ℕ) → ByteLock
lock_by file owner = lock_unless (holds file owner) (owner_lock file owner)
