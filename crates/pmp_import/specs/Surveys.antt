-- What a survey of a log finds, which decides what the script has.
use Rattle.std.specs.Prelude.{ℕ, ◌+◌, ◌-◌, ◌^◌, List, [], ◌∷◌, Bool, true, false, not, ◌&&◌, ◌||◌, ◌==◌, min, nat_le}
use Rattle.std.specs.Prelude.{nat_lt, Option, Some, None, Result, Ok, Err, is_some, option_map, unwrap_or, if◌then◌else◌, slice_index}
use Rattle.std.specs.Prelude.{slice_set}
use Rattle.std.specs.Prelude.{replicate}
use Rattle.std.specs.Option.{option_or}
use Rattle.pmp_core.specs.declared.csr.Csr.{Csr}
use Rattle.pmp_core.specs.declared.csr.Csr.TheVariants.{Cfg, Addr}
use Rattle.pmp_text.specs.declared.refusal.Refusal.TheVariants.{BadNumber, NoHart, OddCfg}
use Rattle.pmp_text.specs.declared.fault.Fault.{Fault}
use Rattle.pmp_import.specs.declared.format.Format.{Format}
use Rattle.pmp_import.specs.declared.given.Given.{Given}
use Rattle.pmp_import.specs.declared.options.Options.{Options}
use Rattle.pmp_import.specs.declared.said.How.{How}
use Rattle.pmp_import.specs.declared.said.How.TheVariants.{Write}
use Rattle.pmp_import.specs.declared.said.Said.{Said}
use Rattle.pmp_import.specs.declared.said.Said.TheVariants.{Nothing, Reset, Hart, Register}
use Rattle.pmp_import.specs.declared.said.Told.{Told}
use Rattle.pmp_import.specs.declared.survey.Survey.{Survey}
use Rattle.pmp_import.specs.declared.survey.TheConstants.{COUNTED}
use Rattle.pmp_import.specs.Formats.{line_said}
use Rattle.pmp_import.specs.Imported.{at, is_read}

-- one more, up to 2^64 - 1
abbrev pub one_more : ℕ → ℕ
one_more count = min (count + 1) (2 ^ 64 - 1)

-- a register that a hart of 16 entries doesn't have; a write to pmpaddr16 doesn't count, since such a hart may write it
-- to see whether it is there
abbrev pub is_high : How → Csr → Bool
is_high how (Cfg number) = nat_le 4 number
is_high Write (Addr number) = nat_le 17 number
is_high how (Addr number) = nat_le 16 number
is_high how _ = false

-- a value other than zero in such a register
abbrev pub needs_many : Told → Bool
needs_many told = not (told.value == 0) && is_high told.how told.register

abbrev pub hart_of : Survey → Told → ℕ
hart_of survey told = unwrap_or told.hart survey.shown

-- the numbers of writes of the first harts, with one more for this hart
abbrev pub counted : (hart : ℕ) → List ℕ → List ℕ
counted hart writes = if nat_lt hart COUNTED then slice_set writes hart (one_more (slice_index writes hart)) else writes

-- the number of the first line of its kind
abbrev pub first_line : Option ℕ → (is_one : Bool) → (line : ℕ) → Option ℕ
first_line first is_one line = option_or first (if is_one then Some line else None)

-- whether the script is of this hart, as far as known
abbrev pub is_own : Survey → (hart : ℕ) → Bool
is_own survey hart = unwrap_or survey.hart hart == hart

-- after a write, or a register that is shown: if no hart is asked for, the script is of the first one's hart
abbrev pub behind_found : Survey → (hart : ℕ) → Survey
behind_found survey hart = record survey {
  hart = option_or survey.hart (Some hart);
  own = if is_own survey hart then one_more survey.own else survey.own;
  left = if is_own survey hart then survey.left else one_more survey.left;
  writes = counted hart survey.writes;
}

-- what a line shows of a register of the hart
abbrev pub with_told : Survey → Told → Survey
with_told survey told = record survey {
  of_rv32 = first_line survey.of_rv32 told.is_rv32 survey.line;
  wide = first_line survey.wide (nat_le (2 ^ 32) told.value) survey.line;
  has_many = survey.has_many || needs_many told;
}

-- after a line about a register
abbrev pub behind_told : Survey → Told → Survey
behind_told survey told =
    let seen = if is_own survey (hart_of survey told) then with_told survey told else survey in
    if is_read told.how then seen else behind_found seen (hart_of survey told)

-- after a line that means this, except for its number
abbrev pub behind_said : Survey → Said → Survey
behind_said survey (Register told) = behind_told survey told
behind_said survey (Hart hart) = record survey { shown = hart }
behind_said survey Reset = survey
behind_said survey Nothing = record survey { others = one_more survey.others }

abbrev pub behind_line : Survey → Said → Survey
behind_line survey said = record (behind_said survey said) { line = one_more survey.line }

abbrev pub surveyed_from : Format → Survey → List (List ℕ) → Result Survey Fault
surveyed_from format survey [] = Ok survey
surveyed_from format survey (line ∷ more) = elim (line_said format line) [
  | Ok said ↦ surveyed_from format (behind_line survey said) more
  | Err refusal ↦ Err (at survey.line refusal)
]

-- before the first line, with this hart asked for
abbrev pub nothing_found : (hart : Option ℕ) → Survey
nothing_found hart = record {
  line = 1;
  hart = hart;
  own = 0;
  left = 0;
  of_rv32 = None;
  wide = None;
  has_many = false;
  writes = replicate COUNTED 0;
  others = 0;
  shown = 0;
}

-- the survey of a log with these lines
abbrev pub surveyed : Format → (hart : Option ℕ) → List (List ℕ) → Result Survey Fault
surveyed format hart lines = surveyed_from format (nothing_found hart) lines

-- ---- what is given for the script

-- an RV32 hart has no value above 2^32 - 1, and an RV64 hart no register that only RV32 has; a log must show its hart
abbrev pub survey_fault : (is_rv32 : Bool) → Survey → Option Fault
survey_fault is_rv32 survey = option_or
    (elim is_rv32 [
      | true ↦ option_map (λ line. at line BadNumber) survey.wide
      | false ↦ option_map (λ line. at line OddCfg) survey.of_rv32
    ]) (if survey.own == 0 then Some (at 0 NoHart) else None)

-- what is given for this hart, with the options
abbrev pub given_of : Format → Options → (hart : ℕ) → (is_rv32 : Bool) → (entries : ℕ) → Given
given_of format options hart is_rv32 entries = record {
  format = format;
  hart = hart;
  is_rv32 = is_rv32;
  entries = entries;
  grain = options.grain;
  bits = options.bits;
  has_smepmp = options.has_smepmp;
  bursts = options.bursts;
}

-- for a log that is read once: by default hart 0, RV64 and 16 entries
abbrev pub given_alone : Format → Options → Given
given_alone format options = given_of format options (unwrap_or options.hart 0) (unwrap_or options.is_rv32 false)
    (unwrap_or options.entries 16)

abbrev pub given_unless : Option Fault → Given → Result Given Fault
given_unless None given = Ok given
given_unless (Some fault) given = Err fault

-- for a log that was surveyed
abbrev pub given_for : Format → Options → Survey → Result Given Fault
given_for format options survey =
    let is_rv32 = unwrap_or options.is_rv32 (is_some survey.of_rv32) in
    given_unless (survey_fault is_rv32 survey) (given_of format options (unwrap_or survey.hart 0) is_rv32
    (unwrap_or options.entries (if survey.has_many then 64 else 16)))
