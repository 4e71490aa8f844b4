-- What a register reads (Volume II, 3.7.1).
use Rattle.std.specs.Prelude.{ℕ, ◌+◌, ◌*◌, if◌then◌else◌, map}
use Rattle.std.specs.List.{range_with_len}
use Rattle.std.specs.Int.{w64, from_le_bytes}
use Rattle.pmp_core.specs.declared.csr.Csr.{Csr}
use Rattle.pmp_core.specs.declared.csr.Csr.TheVariants.{Cfg, Addr, Mseccfg, Mseccfgh}
use Rattle.pmp_core.specs.declared.register_write.TheConstants.{ENTRIES_PER_CFG}
use Rattle.pmp_core.specs.Configuration.{byte_of}
use Rattle.pmp_core.specs.Grain.{read_address}
use Rattle.pmp_core.specs.Hart.{holds_byte_of}
use Rattle.pmp_core.specs.Mseccfg.{mseccfg_value}
use Rattle.pmp_core.specs.RegisterFile.{RegisterFile, entry_at}

-- entry i's byte in pmpcfg q, or zero if that register doesn't hold it (3.7.1)
abbrev pub byte_in : RegisterFile → (q i : ℕ) → ℕ
byte_in file q i = if holds_byte_of file.profile q i then byte_of (entry_at file.entries i).configuration else 0

-- pmpcfg q, with entry 4q's byte lowest (3.7.1)
unfoldable pub configuration_word : RegisterFile → (q : ℕ) → ℕ
configuration_word file q =
    from_le_bytes w64 (map (λ j. byte_in file q (4 * q + j)) (range_with_len 0 ENTRIES_PER_CFG))

-- zero for entries that the hart lacks (3.7.1, and 3.7.1.1 for addresses), and mseccfgh is zero (Smepmp)
abbrev pub register_value : RegisterFile → Csr → ℕ
register_value file (Cfg q) = configuration_word file q
register_value file (Addr i) =
    let entry = entry_at file.entries i in read_address file.profile.grain entry.configuration.matching entry.address
register_value file Mseccfg = mseccfg_value file.mseccfg
register_value file Mseccfgh = 0
