use Rattle.std.proofs.Common.{◌≡◌, take}
use Rattle.pmp_audit.specs.Since.{AreSince}
use Rattle.pmp_audit.proofs.since.since_of.Given as goal

-- the publications so far are counted in
abbrev pub invariant-loop-index : goal.invariant-loop-index
invariant-loop-index l = record {
  position : l.replay ≡ record { script = l.script; done = l.index };
  so_far : AreSince l.script.start (take l.index l.script.batches) l.since;
}
