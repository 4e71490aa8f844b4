use Rattle.std.proofs.Common.{rules}
use Rattle.pmp_text.proofs.trace.row_fields.RowFields.of_words.Goals as goal

pub returns-in_err-ok_or-2 : goal.returns-in_err-ok_or-2
returns-in_err-ok_or-2 c = search rules
