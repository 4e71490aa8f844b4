-- What a rule allows, and what is allowed if no entry matches (Volume II, 3.7.1.2, 3.7.1.3 and Smepmp).
use Rattle.std.specs.Prelude.{ℕ, ◌+◌, ◌*◌, Bool, true, false, nat_lt, length}
use Rattle.pmp_core.specs.declared.access.Mode.{Mode}
use Rattle.pmp_core.specs.declared.access.Mode.TheVariants.{M}
use Rattle.pmp_core.specs.declared.access.Kind.{Kind}
use Rattle.pmp_core.specs.declared.access.Kind.TheVariants.{Fetch, Load, Store}
use Rattle.pmp_core.specs.declared.perms.Perms.{Perms}
use Rattle.pmp_core.specs.Configuration.{Configuration, bit_of}
use Rattle.pmp_core.specs.RegisterFile.{RegisterFile, entry_at}

pub record Rights : Type 0 where
  pub read : Bool
  pub write : Bool
  pub execute : Bool

-- the set of rights: R is 1, W is 2, X is 4
abbrev pub perms_of : Rights → Perms
perms_of rights = record { 0 = bit_of rights.read + 2 * bit_of rights.write + 4 * bit_of rights.execute }

-- R for a load, W for a store, X for a fetch (3.7.1)
abbrev pub allows : Rights → Kind → Bool
allows rights Load = rights.read
allows rights Store = rights.write
allows rights Fetch = rights.execute

abbrev pub nothing : Rights
nothing = record { read = false; write = false; execute = false }

abbrev pub x_only : Rights
x_only = record { read = false; write = false; execute = true }

abbrev pub r_only : Rights
r_only = record { read = true; write = false; execute = false }

abbrev pub rx : Rights
rx = record { read = true; write = false; execute = true }

abbrev pub rw : Rights
rw = record { read = true; write = true; execute = false }

abbrev pub rwx : Rights
rwx = record { read = true; write = true; execute = true }

-- the first of the two for M-mode, the second for S-mode and U-mode
abbrev pub for_mode : Rights → Rights → Mode → Rights
for_mode machine others M = machine
for_mode machine others _ = others

-- the bits R, W and X themselves
abbrev pub bits_of : Configuration → Rights
bits_of c = record { read = c.read; write = c.write; execute = c.execute }

-- if MML is 0: an unlocked rule doesn't bind M-mode (3.7.1.2)
abbrev pub plain_rights : (locked : Bool) → Rights → Mode → Rights
plain_rights false bits = for_mode rwx bits
plain_rights true bits = for_mode bits bits

-- if MML is 1: L, R, W, X, and then the rights of M-mode and of S-mode and U-mode (the truth table of Smepmp)
abbrev pub lockdown_rights : (l r w x : Bool) → Mode → Rights
lockdown_rights false false false false = for_mode nothing nothing
lockdown_rights false false false true = for_mode nothing x_only
lockdown_rights false false true false = for_mode rw r_only
lockdown_rights false false true true = for_mode rw rw
lockdown_rights false true false false = for_mode nothing r_only
lockdown_rights false true false true = for_mode nothing rx
lockdown_rights false true true false = for_mode nothing rw
lockdown_rights false true true true = for_mode nothing rwx
lockdown_rights true false false false = for_mode nothing nothing
lockdown_rights true false false true = for_mode x_only nothing
lockdown_rights true false true false = for_mode x_only x_only
lockdown_rights true false true true = for_mode rx x_only
lockdown_rights true true false false = for_mode r_only nothing
lockdown_rights true true false true = for_mode rx nothing
lockdown_rights true true true false = for_mode rw nothing
lockdown_rights true true true true = for_mode r_only r_only

-- what a rule allows the mode, by MML
abbrev pub rule_rights : (mml : Bool) → Configuration → Mode → Rights
rule_rights false c = plain_rights c.locked (bits_of c)
rule_rights true c = lockdown_rights c.locked c.read c.write c.execute

-- what entry i's rule allows the mode
abbrev pub rights : RegisterFile → ℕ → Mode → Rights
rights file i = rule_rights file.mseccfg.mml (entry_at file.entries i).configuration

-- for M-mode if no entry matches, by MML and MMWP (3.7.1.3 and Smepmp)
abbrev pub machine_default : (mml mmwp : Bool) → Rights
machine_default false false = rwx
machine_default true false = rw
machine_default _ true = nothing

-- for S-mode and U-mode: all on a hart without entries, else none (3.7.1.3)
abbrev pub others_default : (has_entries : Bool) → Rights
others_default true = nothing
others_default false = rwx

abbrev pub default_rights_by : (has_entries mml mmwp : Bool) → Mode → Rights
default_rights_by has_entries mml mmwp = for_mode (machine_default mml mmwp) (others_default has_entries)

-- the hart has an entry, even if it is OFF
abbrev pub has_entries : RegisterFile → Bool
has_entries file = nat_lt 0 (length file.entries)

-- what the mode may do if no entry matches
abbrev pub default_rights : RegisterFile → Mode → Rights
default_rights file = default_rights_by (has_entries file) file.mseccfg.mml file.mseccfg.mmwp

-- the combinations L R W X that no write adds if MML is 1 and RLB is 0 (Smepmp)
abbrev pub is_barred : (l r w x : Bool) → Bool
is_barred true false false true = true
is_barred true false true false = true
is_barred true false true true = true
is_barred true true false true = true
is_barred _ _ _ _ = false
