-- Bytes that single writes open to S-mode and U-mode for a while (Volume II, 3.7.1.3 and Smepmp).
use Rattle.std.specs.Prelude.{◌≡◌, ℕ, zero, suc, ◌+◌, ◌<◌, ◌≤◌, Bool, not, ◌&&◌, ◌||◌, List, [], ◌∷◌, ◌++◌, Option, Some, None}
use Rattle.std.specs.List.{flat_map}
use Rattle.std.specs.Option.{option_to_list}
use Rattle.pmp_core.specs.declared.access.Kind.{Kind}
use Rattle.pmp_core.specs.declared.access.Kind.TheVariants.{Fetch, Load, Store}
use Rattle.pmp_core.specs.declared.access.TheConstants.{ADDRESS_LIMIT}
use Rattle.pmp_core.specs.declared.perms.Perms.{Perms}
use Rattle.pmp_core.specs.RegisterFile.{RegisterFile}
use Rattle.pmp_map.specs.declared.mode_rights.ModeRights.{ModeRights}
use Rattle.pmp_map.specs.RightsRuns.{HasRights}
use Rattle.pmp_text.specs.Changes.{has_right}
use Rattle.pmp_text.specs.Contents.{ScriptContents}
use Rattle.pmp_text.specs.Reports.{file_of_script}
use Rattle.pmp_lint.specs.declared.finding.Finding.{Finding}
use Rattle.pmp_lint.specs.declared.lint.Lint.TheVariants.{OpenBetween}
use Rattle.pmp_lint.specs.declared.stretch.Stretch.{Stretch}
use Rattle.pmp_lint.specs.EndState.{found_if}
use Rattle.pmp_lint.specs.Events.{Happening, file_after, happenings_in}
use Rattle.pmp_lint.specs.Findings.{supervisor_and_user}

-- a kind is allowed in between, and neither before nor after
abbrev pub opens_kind : (before during after : Perms) → Kind → Bool
opens_kind before during after kind =
    has_right during kind && (not (has_right before kind) && not (has_right after kind))

abbrev pub opens : (before during after : Perms) → Bool
opens before during after =
    opens_kind before during after Load
    || (opens_kind before during after Store || opens_kind before during after Fetch)

-- whether S-mode and U-mode have a right to the byte by the second file, and by neither the first nor the third
pub record IsOpened (before during after : RegisterFile) (byte : ℕ) (is : Bool) : Type 0 where
  pub earlier : ModeRights
  pub meanwhile : ModeRights
  pub later : ModeRights
  pub earlier_are : HasRights before byte earlier
  pub meanwhile_are : HasRights during byte meanwhile
  pub later_are : HasRights after byte later
  pub is_so : is ≡ opens earlier.others meanwhile.others later.others

-- the longest range of bytes, from its first on, that are all opened like this, or none of which is
pub record IsStretch (before during after : RegisterFile) (stretch : Stretch) : Type 0 where
  pub proper : stretch.first ≤ stretch.last
  pub below : stretch.last < ADDRESS_LIMIT
  pub alike : (byte : ℕ) → stretch.first ≤ byte → byte ≤ stretch.last
      → IsOpened before during after byte stretch.is_opened
  pub longest : stretch.last + 1 < ADDRESS_LIMIT
      → ¬ (IsOpened before during after (stretch.last + 1) stretch.is_opened)

-- such ranges one after the other, from `first` up to `end`; none if these are equal
abbrev pub AreStretchesFrom : (before during after : RegisterFile) → (first end : ℕ) → List Stretch → Type 0
AreStretchesFrom before during after first end [] = first ≡ end
AreStretchesFrom before during after first end (stretch ∷ rest) =
    (stretch.first ≡ first) × IsStretch before during after stretch
    × AreStretchesFrom before during after (stretch.last + 1) end rest

-- a finding for a range of opened bytes
abbrev pub open_between : (line : ℕ) → Stretch → Option Finding
open_between line stretch = found_if stretch.is_opened (record {
  lint = OpenBetween;
  line = line;
  entry = None;
  bytes = Some (record { first = stretch.first; last = stretch.last });
  modes = supervisor_and_user;
})

abbrev pub of_stretches : (line : ℕ) → List Stretch → List Finding
of_stretches line stretches = flat_map (λ stretch. option_to_list (open_between line stretch)) stretches

-- those of an event on this line that leads to the second file, between the first and the third
pub record AreFoundBetween (before during after : RegisterFile) (line : ℕ) (findings : List Finding) : Type 0 where
  pub stretches : List Stretch
  pub stretches_are : AreStretchesFrom before during after 0 ADDRESS_LIMIT stretches
  pub found : findings ≡ of_stretches line stretches

-- those of one, then those of another
pub record AreJoined (First Rest : List Finding → Type 0) (findings : List Finding) : Type 0 where
  pub first : List Finding
  pub rest : List Finding
  pub first_are : First first
  pub rest_are : Rest rest
  pub joined : findings ≡ first ++ rest

-- those of a publication's events, in order
abbrev pub AreOfEvents : (before after : RegisterFile) → List Happening → List Finding → Type 0
AreOfEvents before after [] findings = findings ≡ []
AreOfEvents before after (it ∷ more) findings =
    AreJoined (AreFoundBetween before (file_after it) after it.line) (AreOfEvents before after more) findings

-- those of the publication with this index
abbrev pub AreOfPublication : ScriptContents → (index : ℕ) → List Finding → Type 0
AreOfPublication script index =
    AreOfEvents (file_of_script script index) (file_of_script script (index + 1)) (happenings_in script index)

-- those of the first `count` publications, in order
abbrev pub AreOpenBetween : ScriptContents → (count : ℕ) → List Finding → Type 0
AreOpenBetween script zero findings = findings ≡ []
AreOpenBetween script (suc n) findings =
    AreJoined (AreOpenBetween script n) (AreOfPublication script n) findings
