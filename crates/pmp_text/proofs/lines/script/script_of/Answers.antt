use Rattle.std.proofs.Common.{◌≡◌, IfOk, subst}
use Rattle.pmp_core.specs.declared.hart.Profile.{Profile}
use Rattle.pmp_text.specs.Dumps.{lines_of}
use Rattle.pmp_text.specs.declared.lines.registers.Form.TheVariants.{Script}
use Rattle.pmp_text.specs.GivenBack.{script_on, script_text}
use Rattle.pmp_text.proofs.lines.script.script_of.Goals as goal

pub returns : goal.returns
unfolding script_text
returns c = subst (λ (hart : Profile). IfOk c.text_of.result (λ text. text.bytes
    ≡ script_on hart (lines_of Script c.args.file.now))) c.hart-hart.ensures (rw (
      ← c.xlen_line-xlen.ensures,
      ← c.has_smepmp.ensures,
      ← c.smepmp_word-smepmp.ensures,
      ← c.address_bits-bits.ensures,
      ← c.grain_bytes-grain.ensures,
      ← c.entries-entries.ensures.count,
    ) c.text_of.ensures)
