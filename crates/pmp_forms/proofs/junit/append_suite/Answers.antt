use Rattle.std.proofs.Common.{append_assoc}
use Rattle.pmp_forms.proofs.junit.append_suite.Goals as goal

pub returns : goal.returns
returns c =
    rw (
      c.in_ok-extend_from_slice-2.ensures.items,
      c.in_ok-append_cases.ensures,
      c.in_ok-append_tag.ensures,
      c.in_ok-extend_from_slice.ensures.items,
    ) (simp append_assoc)
