use Rattle.std.proofs.Common.{◌≡◌}
use Rattle.pmp_text.specs.Reports.{file_of_script}
use Rattle.pmp_audit.proofs.replay.Replay.advance.Given as goal

-- the file is the one after the publications so far
abbrev pub invariant-loop-index : goal.invariant-loop-index
invariant-loop-index l =
    (l.self-inside.script.now ≡ l.fn.self.script)
    × (l.self-inside.file ≡ file_of_script l.fn.self.script l.index)
