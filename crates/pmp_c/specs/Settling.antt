-- When a map pays off, and the unit after it is built if so.
use Rattle.std.specs.Prelude.{◌≡◌, ◌↔◌, ℕ, ◌<◌, ◌≤◌, ◌⊎◌, Bool, IsTrue}
use Rattle.pmp_c.specs.declared.unit.Unit.{Unit}
use Rattle.pmp_c.specs.Unit.{IsBuilt}

-- building takes about as long as 24 questions without a map
abbrev pub Pays : (questions : ℕ) → Type 0
Pays questions = 24 ≤ questions

-- the map is built if it was or if it pays off, else nothing changes; the answer is whether it is built
pub record IsSettled (old new : Unit) (questions : ℕ) (answer : Bool) : Type 0 where
  pub built : (0 < old.map.runs) ⊎ (Pays questions) → IsBuilt old new
  pub left : old.map.runs ≡ 0 → questions < 24 → new ≡ old
  pub answer_is : IsTrue answer ↔ 0 < new.map.runs
