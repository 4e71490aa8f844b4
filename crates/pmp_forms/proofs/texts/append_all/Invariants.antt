use Rattle.std.proofs.Common.{◌≡◌, ◌++◌, drop}
use Rattle.pmp_forms.specs.Texts.{joined_now}
use Rattle.pmp_forms.proofs.texts.append_all.Given as goal

-- the parts so far, and the rest, are all
abbrev pub invariant-loop-part : goal.invariant-loop-part
invariant-loop-part l =
    l.out.items ++ joined_now (drop l.part-index l.parts) ≡ l.fn.out.items ++ joined_now l.parts
