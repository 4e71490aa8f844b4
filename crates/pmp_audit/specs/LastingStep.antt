-- Since when a condition lasts, as a pass goes over the publications.
use Rattle.std.specs.Prelude.{ℕ, Bool, not, Option, Some, None, unwrap_or, if◌then◌else◌}
use Rattle.pmp_core.specs.RegisterFile.{RegisterFile}
use Rattle.pmp_text.specs.declared.moments.Lasting.{Lasting}

-- since when it holds after `done` publications, given since when it held before
abbrev pub since : (before : Option ℕ) → (holds : Bool) → (done : ℕ) → Option ℕ
since before holds done = if holds then Some (unwrap_or before done) else None

abbrev pub lasting_with : Lasting → RegisterFile → (done : ℕ) → Lasting
lasting_with before file done = record {
  mml = since before.mml file.mseccfg.mml done;
  mmwp = since before.mmwp file.mseccfg.mmwp done;
  rlb_clear = since before.rlb_clear (not file.mseccfg.rlb) done;
}
