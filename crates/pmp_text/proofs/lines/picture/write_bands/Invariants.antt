use Rattle.std.proofs.Common.{◌≡◌, ◌++◌, take}
use Rattle.pmp_text.specs.MetNames.{given_names}
use Rattle.pmp_text.specs.Picture.{bands}
use Rattle.pmp_text.proofs.lines.picture.write_bands.Given as goal

abbrev pub invariant-loop-place : goal.invariant-loop-place
invariant-loop-place g l = (g.S.Sink.text l.out) ≡ (g.S.Sink.text l.initial.out) ++ bands l.drawing.file.now (given_names l.drawing.names) (take l.place l.runs)
