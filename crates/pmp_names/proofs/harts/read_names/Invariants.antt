use Rattle.std.proofs.Common.{map, string_bytes, take}
use Rattle.pmp_names.specs.HartLists.{AreNames}
use Rattle.pmp_names.proofs.harts.read_names.Given as goal

-- the files so far were looked at
abbrev pub invariant-loop-file : goal.invariant-loop-file
invariant-loop-file l = AreNames (map string_bytes (take l.file-index l.files)) l.harts.items
