use Rattle.std.proofs.Common.{◌≡◌, ◌++◌, drop, map}
use Rattle.pmp_forms.specs.Sarif.{lint_rule}
use Rattle.pmp_forms.specs.Texts.{text_items}
use Rattle.pmp_forms.proofs.sarif.lint_rules.Given as goal

-- the rules so far, and those of the rest, are all
abbrev pub invariant-loop-lint : goal.invariant-loop-lint
invariant-loop-lint l =
    text_items l.all.items ++ map lint_rule (drop l.lint-index l.lints) ≡ map lint_rule l.lints
