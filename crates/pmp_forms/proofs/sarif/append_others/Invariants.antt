use Rattle.std.proofs.Common.{◌≡◌, ◌++◌, drop}
use Rattle.std.specs.List.{flat_map}
use Rattle.pmp_forms.specs.Sarif.{after_comma}
use Rattle.pmp_forms.specs.Texts.{text_items}
use Rattle.pmp_forms.proofs.sarif.append_others.Given as goal

-- the elements so far, and the rest, are all
abbrev pub invariant-loop-text : goal.invariant-loop-text
invariant-loop-text l =
    l.out.items ++ flat_map after_comma (text_items (drop l.text-index l.texts))
    ≡ l.fn.out.items ++ flat_map after_comma (text_items l.texts)
