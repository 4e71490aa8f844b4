use Rattle.std.proofs.Common.{◌≡◌}
use Rattle.pmp_forms.specs.Sarif.{row_rules}
use Rattle.pmp_forms.specs.Texts.{text_items}
use Rattle.pmp_forms.proofs.sarif.row_rules.Given as goal

-- the rules so far
abbrev pub invariant-loop-index : goal.invariant-loop-index
invariant-loop-index l = text_items l.all.items ≡ row_rules l.index
