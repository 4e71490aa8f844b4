use Rattle.std.proofs.Common.{◌≡◌, ◌++◌, take}
use Rattle.pmp_text.specs.Picture.{escaped}
use Rattle.pmp_text.proofs.lines.picture.column.append_escaped.Given as goal

-- the bytes so far
abbrev pub invariant-loop-byte : goal.invariant-loop-byte
invariant-loop-byte g l =
    (g.S.Sink.text l.out) ≡ (g.S.Sink.text l.initial.out) ++ escaped (take l.byte-index l.text)
