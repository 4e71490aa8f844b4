-- A policy of what is closed after the last publication of a script.
use Rattle.std.specs.Prelude.{◌≡◌, ℕ, Bool, List, [], ◌∷◌, ◌++◌, length, map, is_some, All, Ok, Err}
use Rattle.std.specs.Prelude.{◌^◌, ◌-◌, false, codes, decimal, if◌then◌else◌}
use Rattle.std.specs.List.{flat_map}
use Rattle.pmp_core.specs.declared.access.Kind.{Kind}
use Rattle.pmp_core.specs.declared.access.Kind.TheVariants.{Fetch, Load, Store}
use Rattle.pmp_core.specs.declared.access.Mode.{Mode}
use Rattle.pmp_core.specs.declared.access.Mode.TheVariants.{M, S, U}
use Rattle.pmp_core.specs.declared.span.Span.{Span}
use Rattle.pmp_core.specs.RegisterFile.{RegisterFile}
use Rattle.pmp_text.specs.declared.lines.verdict.Verdict.TheVariants.{Holds}
use Rattle.pmp_text.specs.declared.policy.PolicyRow.{PolicyRow}
use Rattle.pmp_text.specs.Contents.{ScriptContents}
use Rattle.pmp_text.specs.Moments.{KnownMoments}
use Rattle.pmp_text.specs.Policies.{policy_fields, policy_meaning}
use Rattle.pmp_text.specs.Reports.{fields_after}
use Rattle.pmp_text.specs.Scripts.{script_meaning}
use Rattle.pmp_lint.specs.EndState.{end_of}
use Rattle.std.specs.Fmt.{digits, format_spec, padded_integral}
use Rattle.pmp_audit.specs.declared.policy_check.steps.Pace.{Pace}
use Rattle.pmp_audit.specs.ClosedRanges.{AreClosedRanges}
use Rattle.pmp_audit.specs.Moments.{AreMoments}
use Rattle.pmp_audit.specs.PolicyCheck.{IsVerdict}

-- a byte address in fourteen hexadecimal digits
abbrev pub address_text : ℕ → List ℕ
address_text address = padded_integral (format_spec 32 0 4 14 (2 ^ 64 - 1)) false [] (digits 16 false address)

-- ---- its text

-- the moment after the last publication: `last` if the script's version has names, otherwise the number of all
abbrev pub last_word : (has_names : Bool) → (publications : ℕ) → List ℕ
last_word has_names publications = if has_names then codes "last" else decimal publications

abbrev pub last_moment : ScriptContents → List ℕ
last_moment script = last_word (is_some script.marks) (length script.batches)

-- S-mode and U-mode have the same rights, so they share rows
abbrev pub modes_word : Mode → List ℕ
modes_word M = codes "M"
modes_word S = codes "SU"
modes_word U = codes "SU"

abbrev pub kind_word : Kind → List ℕ
kind_word Fetch = codes "fetch"
kind_word Load = codes "load"
kind_word Store = codes "store"

-- a byte address in fourteen hexadecimal digits, as a number
abbrev pub address_word : ℕ → List ℕ
address_word address = codes "0x" ++ address_text address

-- the fields of a range's row, after the first one
abbrev pub never_fields : Mode → Kind → Span → List (List ℕ)
never_fields mode kind range = [] ∷ modes_word mode ∷ kind_word kind ∷ address_word range.first
    ∷ address_word range.last ∷ codes "never" ∷ []

-- the row: from that moment on, no byte of the range is open to the mode and the kind
unfoldable pub never_row : (moment : List ℕ) → Mode → Kind → Span → List ℕ
never_row moment mode kind range = moment ++ fields_after (never_fields mode kind range)

-- a row for each of the longest ranges that are closed to the mode and the kind
pub record AreNeverRows (file : RegisterFile) (moment : List ℕ) (mode : Mode) (kind : Kind) (text : List ℕ) : Type 0
  where
    pub ranges : List Span
    pub ranges_are : AreClosedRanges file mode kind ranges
    pub rows : text ≡ flat_map (never_row moment mode kind) ranges

-- those of the mode, for each kind
pub record IsModeText (file : RegisterFile) (moment : List ℕ) (mode : Mode) (text : List ℕ) : Type 0 where
  pub fetches : List ℕ
  pub fetches_are : AreNeverRows file moment mode Fetch fetches
  pub loads : List ℕ
  pub loads_are : AreNeverRows file moment mode Load loads
  pub stores : List ℕ
  pub stores_are : AreNeverRows file moment mode Store stores
  pub text_is : text ≡ fetches ++ (loads ++ stores)

abbrev pub header_text : List ℕ
header_text = codes "from" ++ fields_after (codes "to" ∷ codes "modes" ∷ codes "kind" ∷ codes "first" ∷ codes "last"
    ∷ codes "demand" ∷ [])

-- the header, the rows of M-mode, and those of S-mode and U-mode
pub record IsDraftText (file : RegisterFile) (moment : List ℕ) (text : List ℕ) : Type 0 where
  pub machine : List ℕ
  pub machine_is : IsModeText file moment M machine
  pub others : List ℕ
  pub others_is : IsModeText file moment U others
  pub text_is : text ≡ header_text ++ (machine ++ others)

-- ---- what it promises

-- read as a policy for the script, the text has rows, and each of them holds, after publications and after events
pub record HoldsFor (script : ScriptContents) (text : List ℕ) : Type 0 where
  pub rows : List PolicyRow
  pub policy_means : (moments : KnownMoments) → AreMoments script moments
      → policy_meaning moments text ≡ Ok (map policy_fields rows)
  pub hold : (pace : Pace) → All (λ row. IsVerdict pace script row Holds) rows

-- the script has these contents, the text has the ranges that are closed in the end, and holds for it
pub record IsDraftOf (script text : List ℕ) : Type 0 where
  pub contents : ScriptContents
  pub script_means : script_meaning script ≡ Ok contents
  pub text_is : IsDraftText (end_of contents) (last_moment contents) text
  pub holds : HoldsFor contents text

abbrev pub DraftSays : (script : List ℕ) → Unit {0} → (text : List ℕ) → Type 0
DraftSays script _ text = IsDraftOf script text
