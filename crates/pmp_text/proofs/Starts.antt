-- A script's unit begins with a legal register file.
use Rattle.std.proofs.Common.{List, sym, subst}
use Rattle.pmp_core.specs.Hart.{profile_of}
use Rattle.pmp_core.specs.RegisterFile.{IsLegal, RegisterFile}
use Rattle.pmp_core.proofs.HartNumbers.{is_profile_of}
use Rattle.pmp_core.proofs.Legal.{reset_legal}
use Rattle.pmp_core.proofs.Saved.{restored_legal}
use Rattle.pmp_text.specs.declared.script.version.Version.{Version}
use Rattle.pmp_text.specs.declared.script.version.Version.TheVariants.{Sized, Headed}
use Rattle.pmp_text.specs.Contents.{ScriptContents}
use Rattle.pmp_text.specs.ScriptLines.{Line}
use Rattle.pmp_text.specs.Versions.{LegalStartLaw}
use Rattle.pmp_text.proofs.MadeScripts.{Begins, is_read}

begins_legal : (version : Version) (more : List Line) (script : ScriptContents) → Begins version more script
    → IsLegal script.start
begins_legal (Sized size) more script begins =
    subst (λ (file : RegisterFile). IsLegal file) (sym begins.start)
    (reset_legal (profile_of size) (is_profile_of size))
begins_legal Headed more script begins =
    subst (λ (file : RegisterFile). IsLegal file) (sym begins) (restored_legal _)

pub legal_start : LegalStartLaw
legal_start text script e =
    let it = is_read text script e in begins_legal it.version _ script it.made.begins
