use Rattle.std.proofs.Common.{append_assoc, refl}
use Rattle.pmp_text.specs.Reports.{report_row}
use Rattle.pmp_text.proofs.lines.report.row_of.Goals as goal

pub returns : goal.returns
unfolding report_row
returns c =
    rw (
      c.append_reserved-4.ensures.text,
      c.append_number-2.ensures.text,
      c.append_reserved-3.ensures.text,
      c.append_number.ensures.text,
      c.append_reserved-2.ensures.text,
      c.append_reserved.ensures.text,
      c.new-row.ensures,
      c.answer_field.ensures.text,
      c.cause_field.ensures.text,
      c.as_bytes.ensures.value,
      c.format.ensures.text,
      c.fault_code.ensures,
      c.deciding_entry.ensures,
    )
    (simp append_assoc refl)
