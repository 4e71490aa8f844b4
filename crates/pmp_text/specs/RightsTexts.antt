-- The text of rights.
use Rattle.std.specs.Prelude.{ℕ, ◌/◌, ◌%◌, ◌==◌, Bool, List, [], ◌∷◌, if◌then◌else◌}
use Rattle.pmp_core.specs.declared.perms.Perms.{Perms}
use Rattle.pmp_core.specs.Rights.{Rights}

-- the letter of a right, or a dash
abbrev pub mark : (letter : ℕ) → Bool → ℕ
mark letter given = if given then letter else 45

-- `r`, `w` and `x`, each if it is given
abbrev pub rights_text : Rights → List ℕ
rights_text rights = mark 114 rights.read ∷ mark 119 rights.write ∷ mark 120 rights.execute ∷ []

-- the same of a set
unfoldable pub perms_text : Perms → List ℕ
perms_text perms =
    mark 114 (perms.0 / 1 % 2 == 1) ∷ mark 119 (perms.0 / 2 % 2 == 1) ∷ mark 120 (perms.0 / 4 % 2 == 1) ∷ []
