use Rattle.std.proofs.Common.{◌≡◌, ◌++◌, take}
use Rattle.csv.specs.Writing.{default_writer, escaped}
use Rattle.pmp_text.proofs.lines.field.append_escaped.Given as goal

-- the bytes so far stand there
abbrev pub invariant-loop-byte : goal.invariant-loop-byte
invariant-loop-byte g l =
    g.S.Sink.text l.out ≡ g.S.Sink.text l.initial.out ++ escaped default_writer (take l.byte-index l.field)
