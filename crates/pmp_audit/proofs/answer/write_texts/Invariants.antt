use Rattle.std.proofs.Common.{take}
use Rattle.std.specs.Io.KnownBytes.{Appends}
use Rattle.pmp_audit.specs.LongParts.{items_of}
use Rattle.pmp_audit.proofs.answer.write_texts.Given as goal

-- the texts so far are written
abbrev pub invariant-loop-part : goal.invariant-loop-part
invariant-loop-part g l = Appends (g.W.Write.contents l.initial.writer) (g.W.Write.contents l.writer)
    (items_of (take l.part-index l.texts))
