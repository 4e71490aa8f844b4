use Rattle.std.proofs.Common.{◌∙◌, refl}
use Rattle.pmp_forms.proofs.sarif.row_location.Goals as goal

pub returns : goal.returns
returns c =
    c.in_ok-append_all.ensures
    ∙ rw (
      c.new-all.ensures.items,
      c.as_slice.ensures.value,
      c.in_ok-at.ensures,
      c.line_of.ensures,
      c.as_slice-2.ensures.value,
      c.in_ok-script.ensures,
      c.deref.ensures.value,
    ) refl
