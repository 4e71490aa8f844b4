-- Where a register file doesn't meet a plan, row by row.
use Rattle.std.specs.Prelude.{◌≡◌, ℕ, ◌+◌, ◌<◌, ◌≤◌, Bool, false, List, [], ◌∷◌, ◌++◌, length, Option, Some, None}
use Rattle.std.specs.Prelude.{Ok, codes, decimal, map, if◌then◌else◌}
use Rattle.std.specs.Fmt.{digits}
use Rattle.pmp_core.specs.declared.access.TheConstants.{ADDRESS_LIMIT}
use Rattle.pmp_core.specs.Decision.{IsOwner}
use Rattle.pmp_core.specs.RegisterFile.{RegisterFile}
use Rattle.pmp_map.specs.Answers.{rights_by}
use Rattle.pmp_map.specs.OpenBytes.{holds}
use Rattle.pmp_map.specs.RightsRuns.{HasRights}
use Rattle.pmp_map.specs.declared.mode_rights.ModeRights.{ModeRights}
use Rattle.pmp_text.specs.RightsTexts.{perms_text}
use Rattle.pmp_plan.specs.KeptRows.{said}
use Rattle.pmp_plan.specs.PlanTexts.{plan_said}
use Rattle.pmp_plan.specs.Plans.{Gives, MeetsRow, is_named, rest_rights}
use Rattle.pmp_plan.specs.Routes.{security_in}
use Rattle.pmp_plan.specs.declared.plan_row.Demand.{Demand}
use Rattle.pmp_plan.specs.declared.plan_row.PlanRow.{PlanRow}
use Rattle.pmp_plan.specs.declared.unmet.Unmet.{Unmet}

-- the owner's number, or a dash
abbrev pub owner_text : Option ℕ → List ℕ
owner_text None = codes "-"
owner_text (Some entry) = decimal entry

-- the byte has this owner, and by it these rights, and is held or not
pub record IsSeen (file : RegisterFile) (it : Unmet) : Type 0 where
  pub owned : IsOwner file it.byte it.owner
  pub rights : it.rights ≡ rights_by file it.owner
  pub held : it.is_held ≡ holds file it.owner

-- the first of these bytes that isn't given what is asked, and what it has
pub record IsFirst (file : RegisterFile) (demand : Demand) (first last : ℕ) (it : Unmet) : Type 0 where
  pub from : first ≤ it.byte
  pub to : it.byte ≤ last
  pub before : (byte : ℕ) → first ≤ byte → byte < it.byte → Gives file demand byte
  pub differs : ¬ (Gives file demand it.byte)
  pub seen : IsSeen file it

-- the first byte of no row that has other rights, and what it has
pub record IsFirstOfRest (file : RegisterFile) (rows : List PlanRow) (rights : ModeRights) (it : Unmet) : Type 0 where
  pub inside : it.byte < ADDRESS_LIMIT
  pub unnamed : is_named rows it.byte ≡ false
  pub before : (byte : ℕ) → byte < it.byte → is_named rows byte ≡ false → HasRights file byte rights
  pub differs : ¬ (HasRights file it.byte rights)
  pub seen : IsSeen file it

-- the row is met, or this is its first byte that isn't
abbrev pub IsVerdict : RegisterFile → PlanRow → Option Unmet → Type 0
IsVerdict file row None = MeetsRow file row
IsVerdict file row (Some it) = IsFirst file row.demand row.first row.last it

-- each byte of no row has the rights of a byte that no entry matches, or this is the first that doesn't
abbrev pub IsRestVerdict : RegisterFile → List PlanRow → Option Unmet → Type 0
IsRestVerdict file rows None = (byte : ℕ) → byte < ADDRESS_LIMIT → is_named rows byte ≡ false
    → HasRights file byte (rest_rights (security_in file))
IsRestVerdict file rows (Some it) = IsFirstOfRest file rows (rest_rights (security_in file)) it

-- ---- their lines

abbrev pub yes_no : Bool → List ℕ
yes_no is = if is then codes "yes" else codes "no"

-- the number of a row, and if it isn't met, the byte, its owner, the rights of M-mode and of S-mode and U-mode, and
-- whether it is held
abbrev pub verdict_line : (number : ℕ) → Option Unmet → List ℕ
verdict_line number None = decimal number ++ codes ",met,,,,,\n"
verdict_line number (Some it) =
    decimal number ++ (codes ",unmet,0x" ++ (digits 16 false it.byte ++ (codes "," ++ (owner_text it.owner
    ++ (codes "," ++ (perms_text it.rights.machine ++ (codes "," ++ (perms_text it.rights.others
    ++ (codes "," ++ (yes_no it.is_held ++ codes "\n"))))))))))

-- a line for each row, numbered from 1
pub data AreJudged (file : RegisterFile) : List PlanRow → (text : List ℕ) → Type 0 where
  no_row : AreJudged file [] []
  one_more : (rows : List PlanRow) (text : List ℕ) (row : PlanRow) (unmet : Option Unmet) → AreJudged file rows text
      → IsVerdict file row unmet
      → AreJudged file (rows ++ row ∷ []) (text ++ verdict_line (length rows + 1) unmet)

-- the plan has these rows, with a line for each, and the last line, numbered 0, is for the bytes of no row
pub record VerdictsSay (file : RegisterFile) (plan text : List ℕ) : Type 0 where
  pub rows : List PlanRow
  pub are : plan_said plan ≡ Ok (map said rows)
  pub judged : List ℕ
  pub each : AreJudged file rows judged
  pub rest : Option Unmet
  pub rest_is : IsRestVerdict file rows rest
  pub text_is : text ≡ judged ++ verdict_line 0 rest
