-- The ranges of bytes that are alike in each of two register files.
use Rattle.std.specs.Prelude.{◌≡◌, ℕ, ◌+◌, ◌<◌, ◌≤◌, Option, List, [], ◌∷◌}
use Rattle.pmp_core.specs.declared.access.TheConstants.{ADDRESS_LIMIT}
use Rattle.pmp_core.specs.Decision.{IsOwner}
use Rattle.pmp_core.specs.RegisterFile.{RegisterFile}
use Rattle.pmp_map.specs.declared.compared.Aspect.{Aspect}
use Rattle.pmp_map.specs.declared.compared.Aspect.TheVariants as aspect
use Rattle.pmp_map.specs.declared.compared.Compared.{Compared}
use Rattle.pmp_map.specs.declared.compared.Compared.TheVariants.{Rights, Locks}
use Rattle.pmp_map.specs.declared.compared_run.ComparedRun.{ComparedRun}
use Rattle.pmp_map.specs.Answers.{rights_by}
use Rattle.pmp_map.specs.ByteLocks.{lock_by}

-- what each file gives its owner of the byte, an entry or none
abbrev pub compared_by : Aspect → (old : RegisterFile) → (old_owner : Option ℕ) → (new : RegisterFile)
    → (new_owner : Option ℕ) → Compared
compared_by aspect.Rights old old_owner new new_owner = Rights (rights_by old old_owner) (rights_by new new_owner)
compared_by aspect.Locks old old_owner new new_owner = Locks (lock_by old old_owner) (lock_by new new_owner)

-- what they give the byte, by its owners
pub record IsCompared (aspect : Aspect) (old new : RegisterFile) (byte : ℕ) (both : Compared) : Type 0 where
  pub old_owner : Option ℕ
  pub new_owner : Option ℕ
  pub owns_old : IsOwner old byte old_owner
  pub owns_new : IsOwner new byte new_owner
  pub both_are : both ≡ compared_by aspect old old_owner new new_owner

-- the longest range from its first byte on for which they give the same
pub record IsComparedRun (aspect : Aspect) (old new : RegisterFile) (run : ComparedRun) : Type 0 where
  pub proper : run.first ≤ run.last
  pub below : run.last < ADDRESS_LIMIT
  pub both : (byte : ℕ) → run.first ≤ byte → byte ≤ run.last → IsCompared aspect old new byte run.both
  pub longest : run.last + 1 < ADDRESS_LIMIT → ¬ (IsCompared aspect old new (run.last + 1) run.both)

-- such ranges one after the other, from `first` up to `end`; none if these are equal
abbrev pub AreComparedRunsFrom : Aspect → (old new : RegisterFile) → (first end : ℕ) → List ComparedRun → Type 0
AreComparedRunsFrom aspect old new first end [] = first ≡ end
AreComparedRunsFrom aspect old new first end (run ∷ rest) =
    (run.first ≡ first) × IsComparedRun aspect old new run × AreComparedRunsFrom aspect old new (run.last + 1) end rest

-- such ranges of all bytes
abbrev pub AreComparedRuns : Aspect → (old new : RegisterFile) → List ComparedRun → Type 0
AreComparedRuns aspect old new = AreComparedRunsFrom aspect old new 0 ADDRESS_LIMIT
