-- The moments of a script that can be named (Smepmp, mseccfg).
use Rattle.std.specs.Prelude.{◌≡◌, ℕ, ◌+◌, ◌≤◌, Bool, true, false, not, List, length, Option, Some, None}
use Rattle.pmp_text.specs.declared.mark.Mark.{Mark}
use Rattle.pmp_text.specs.declared.moments.Lasting.{Lasting}
use Rattle.pmp_text.specs.Contents.{ScriptContents}
use Rattle.pmp_text.specs.Moments.{KnownMoments}
use Rattle.pmp_text.specs.Reports.{file_of_script}

-- it holds from this moment to the last, and not right before; or it doesn't hold at the last
abbrev pub LastsFrom : (holds : ℕ → Bool) → (last : ℕ) → Option ℕ → Type 0
LastsFrom holds last None = holds last ≡ false
LastsFrom holds last (Some first) = (first ≤ last)
    × ((done : ℕ) → first ≤ done → done ≤ last → holds done ≡ true)
    × ((done : ℕ) → done + 1 ≡ first → holds done ≡ false)

-- since when MML is set, MMWP is set, and RLB is clear, up to publication `last` of a script
pub record AllLast (script : ScriptContents) (last : ℕ) (lasting : Lasting) : Type 0 where
  pub mml : LastsFrom (λ done. (file_of_script script done).mseccfg.mml) last lasting.mml
  pub mmwp : LastsFrom (λ done. (file_of_script script done).mseccfg.mmwp) last lasting.mmwp
  pub rlb_clear : LastsFrom (λ done. not (file_of_script script done).mseccfg.rlb) last lasting.rlb_clear

-- these can be named if the script's version names moments
abbrev pub MayLast : Option (List Mark) → ScriptContents → Option Lasting → Type 0
MayLast (Some marks) script None = ⊥
MayLast (Some marks) script (Some lasting) = AllLast script (length script.batches) lasting
MayLast None script lasting = lasting ≡ None

-- the moments of the script that can be named
pub record AreMoments (script : ScriptContents) (moments : KnownMoments) : Type 0 where
  pub publications : moments.publications ≡ length script.batches
  pub marks : moments.marks ≡ script.marks
  pub lasting : MayLast script.marks script moments.lasting
