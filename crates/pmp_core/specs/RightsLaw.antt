-- Which rules are barred; and a right to store implies one to load (Volume II, 3.7.1 and Smepmp).
use Rattle.std.specs.Prelude.{◌≡◌, ℕ, ◌&&◌, Bool, IsTrue}
use Rattle.pmp_core.specs.declared.access.Mode.{Mode}
use Rattle.pmp_core.specs.declared.access.Mode.TheVariants.{M}
use Rattle.pmp_core.specs.declared.access.Kind.TheVariants.{Load, Store}
use Rattle.pmp_core.specs.RegisterFile.{RegisterFile, IsLegal}
use Rattle.pmp_core.specs.Rights.{Rights, allows, lockdown_rights, rights, default_rights, is_barred}

-- the barred rules are the locked ones that let M-mode execute
abbrev pub BarredRulesLaw : Type 0
BarredRulesLaw = (l r w x : Bool) → is_barred l r w x ≡ (l && (lockdown_rights l r w x M).execute)

-- a right to store implies the right to load
abbrev pub LoadsWhatItStores : Rights → Type 0
LoadsWhatItStores rights = IsTrue (allows rights Store) → IsTrue (allows rights Load)

-- this holds for every rule of a legal file, and if no entry matches
abbrev pub StoreLaw : Type 0
StoreLaw = (file : RegisterFile) → IsLegal file → (i : ℕ) (mode : Mode)
    → LoadsWhatItStores (rights file i mode) × LoadsWhatItStores (default_rights file mode)
