-- The bits of mseccfg (Smepmp).
use Rattle.std.specs.Prelude.{ℕ, ◌+◌, ◌*◌, ◌/◌, ◌%◌, Bool, not, ◌&&◌, ◌||◌, ◌==◌}
use Rattle.pmp_core.specs.declared.mseccfg.MseccfgFields.{MseccfgFields}
use Rattle.pmp_core.specs.Configuration.{bit_of}

-- MML is bit 0, MMWP is bit 1, RLB is bit 2
abbrev pub mseccfg_value : MseccfgFields → ℕ
mseccfg_value mseccfg = bit_of mseccfg.mml + 2 * bit_of mseccfg.mmwp + 4 * bit_of mseccfg.rlb

-- the fields of a value; its other bits are ignored
abbrev pub mseccfg_fields : ℕ → MseccfgFields
mseccfg_fields value = record {
  mml = value % 2 == 1;
  mmwp = value / 2 % 2 == 1;
  rlb = value / 4 % 2 == 1;
}

-- after a write: MML and MMWP stay set; RLB stays clear if it was clear and some entry is locked
abbrev pub mseccfg_written : MseccfgFields → (is_any_locked : Bool) → (value : ℕ) → MseccfgFields
mseccfg_written before is_any_locked value =
    let new = mseccfg_fields value in
    record {
      mml = before.mml || new.mml;
      mmwp = before.mmwp || new.mmwp;
      rlb = new.rlb && (before.rlb || not is_any_locked);
    }
