use Rattle.std.proofs.Common.{◌≡◌, ◌++◌, drop}
use Rattle.std.specs.List.{flat_map}
use Rattle.pmp_forms.specs.Junit.{xml_byte}
use Rattle.pmp_forms.proofs.junit.append_escaped.Given as goal

-- the bytes so far, and those of the rest, are all
abbrev pub invariant-loop-byte : goal.invariant-loop-byte
invariant-loop-byte l =
    l.out.items ++ flat_map xml_byte (drop l.byte-index l.text) ≡ l.fn.out.items ++ flat_map xml_byte l.text
