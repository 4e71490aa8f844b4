-- The hart that the command line describes.
use Rattle.std.specs.Prelude.{ℕ, Bool, true, false, ◌||◌, if◌then◌else◌, List, Option, Some, None, option_map, unwrap_or}
use Rattle.std.specs.Prelude.{Result, Ok, Err}
use Rattle.clap.specs.Words.{Row}
use Rattle.pmp_core.specs.Hart.{hart_fault, most_bits}
use Rattle.pmp_core.specs.declared.hart.HartFault.{HartFault}
use Rattle.pmp_core.specs.declared.hart.HartFault.TheVariants as hart_fault
use Rattle.pmp_core.specs.declared.hart.Profile.{Profile}
use Rattle.pmp_plan.specs.declared.aim.Aim.{Aim}
use Rattle.pmp_plan.specs.declared.security.Security.{Security}
use Rattle.pmp_tool.specs.declared.argument.Argument.{Argument}
use Rattle.pmp_tool.specs.declared.argument.Argument.TheVariants as argument
use Rattle.pmp_tool.specs.declared.fault_line.FaultLine.{FaultLine}
use Rattle.pmp_tool.specs.declared.hart_words.HartWords.{HartWords}
use Rattle.pmp_tool.specs.declared.word.Grain.{Grain}
use Rattle.pmp_tool.specs.declared.word.Xlen.{Xlen}
use Rattle.pmp_tool.specs.Words.{and_then, asked_in, bad_word, byte_named, grain_named, is_set, is_used, smepmp_named}
use Rattle.pmp_tool.specs.Words.{xlen_named}

-- the option whose value no hart has
abbrev pub argument_of : HartFault → Argument
argument_of hart_fault.Entries = argument.Entries
argument_of hart_fault.Grain = argument.Grain
argument_of hart_fault.AddressBits = argument.AddressBits

abbrev pub made : Profile → Result Profile FaultLine
made profile = elim (hart_fault profile) [ Some fault ↦ Err (bad_word (argument_of fault)) | None ↦ Ok profile ]

-- by default RV64, 16 entries, the finest grain, the widest addresses and Smepmp
abbrev pub profile_said : HartWords → Profile
profile_said words = let is_rv32 = unwrap_or (option_map (λ said. said.is_rv32) words.xlen) false in record {
  entries = unwrap_or words.entries 16;
  grain = unwrap_or (option_map (λ said. said.place) words.grain) 0;
  address_bits = unwrap_or words.bits (most_bits is_rv32);
  has_smepmp = unwrap_or (option_map (λ said. said.is_there) words.smepmp) true;
  is_rv32 = is_rv32;
}

-- the hart with this XLEN, number of entries and grain
abbrev pub hart_with : Option Xlen → (entries : Option ℕ) → Option Grain → List Row → Result Profile FaultLine
hart_with xlen entries grain rows =
    and_then (asked_in byte_named argument.AddressBits rows) (λ bits.
    and_then (asked_in smepmp_named argument.Smepmp rows) (λ smepmp. made (profile_said (record {
      xlen = xlen;
      entries = entries;
      grain = grain;
      bits = bits;
      smepmp = smepmp;
    }))))

abbrev pub hart_in : List Row → Result Profile FaultLine
hart_in rows =
    and_then (asked_in xlen_named argument.Xlen rows) (λ xlen.
    and_then (asked_in byte_named argument.Entries rows) (λ entries.
    and_then (asked_in grain_named argument.Grain rows) (λ grain. hart_with xlen entries grain rows)))

abbrev pub security_in : List Row → Security
security_in rows = record {
  mml = is_set argument.Mml rows;
  mmwp = is_set argument.Mmwp rows;
  rlb = is_set argument.Rlb rows;
}

-- the words describe a hart
abbrev pub says_hart : List Row → Bool
says_hart rows = is_used argument.Xlen rows || (is_used argument.Entries rows || (is_used argument.Grain rows
    || (is_used argument.AddressBits rows || is_used argument.Smepmp rows)))

-- they ask for a bit of mseccfg
abbrev pub says_security : List Row → Bool
says_security rows =
    is_set argument.Mml rows || (is_set argument.Mmwp rows || is_set argument.Rlb rows)

-- where the writes begin, and what is asked of each: at a script's registers always something
abbrev pub says_watch : List Row → Bool
says_watch rows =
    is_used argument.From rows || (is_set argument.Keep rows || is_set argument.WhileM rows)

-- what the writes of a plan are to leave
abbrev pub aim_in : List Row → Aim
aim_in rows = record {
  security = security_in rows;
  watch = if says_watch rows then Some (record {
    is_machine_alone = is_set argument.WhileM rows;
    keeps_open = is_set argument.Keep rows;
  }) else None;
}

abbrev pub says_aim : List Row → Bool
says_aim rows = says_security rows || says_watch rows
