-- A register file written back as a script.
use Rattle.std.specs.Prelude.{◌≡◌, ℕ, ◌+◌, ◌^◌, List, [], ◌∷◌, ◌++◌, Ok, codes, decimal, if◌then◌else◌}
use Rattle.pmp_core.specs.declared.hart.Profile.{Profile}
use Rattle.pmp_core.specs.RegisterFile.{RegisterFile}
use Rattle.pmp_text.specs.Contents.{ScriptContents}
use Rattle.pmp_text.specs.Dumps.{lines_of}
use Rattle.pmp_text.specs.declared.lines.registers.Form.TheVariants.{Script}
use Rattle.pmp_text.specs.Scripts.{script_meaning}

-- a line about the hart, and what follows it
abbrev pub hart_line : (name value behind : List ℕ) → List ℕ
hart_line name value behind = codes "hart " ++ (name ++ (codes " " ++ (value ++ 10 ∷ behind)))

-- RV64 is the default
unfoldable pub xlen_line : Profile → List ℕ
xlen_line hart = if hart.is_rv32 then hart_line (codes "xlen") (codes "32") [] else []

-- the version and the hart, with its grain of 2^(G + 2) bytes
abbrev pub script_on : Profile → (behind : List ℕ) → List ℕ
script_on hart behind =
    codes "pmp 3" ++ 10 ∷ (xlen_line hart ++ hart_line (codes "entries") (decimal hart.entries)
    (hart_line (codes "grain") (decimal (2 ^ (hart.grain + 2)))
    (hart_line (codes "bits") (decimal hart.address_bits)
    (hart_line (codes "smepmp") (if hart.has_smepmp then codes "yes" else codes "no") behind))))

-- and a line for each register that doesn't store zero
unfoldable pub script_text : RegisterFile → List ℕ
script_text file = script_on file.profile (lines_of Script file)

-- the text is that one, and means a script that starts from this file, publishes nothing, and expects nothing
pub record GivesBack (file : RegisterFile) (text : List ℕ) : Type 0 where
  pub written : text ≡ script_text file
  pub contents : ScriptContents
  pub means : script_meaning text ≡ Ok contents
  pub begins : contents.start ≡ file
  pub publishes : contents.batches ≡ []
  pub expects : contents.expectations ≡ []
