use Rattle.std.proofs.Common.{◌≡◌, ◌+◌, ◌-◌, ◌<◌, ◌≤◌, ◌++◌, true, length, take}
use Rattle.pmp_share.proofs.handing.hand_over.Given as goal

abbrev pub invariant-loop-handed : goal.invariant-loop-handed
invariant-loop-handed l = record {
  counted : l.batches ≡ length l.pending;
  within : l.handed ≤ length l.pending;
  unit : l.state.unit ≡ l.fn.state.unit;
  shown : l.state.shown ≡ l.fn.state.shown;
  handed_over : l.state.handed ≡ l.state.shown ++ take l.handed l.pending;
  ahead : l.state.ahead ≡ true → (l.handed < length l.pending)
      × (l.state.noted ≡ l.state.shown ++ take (l.handed + 1) l.pending);
}

abbrev pub decreases-loop-handed : goal.decreases-loop-handed
decreases-loop-handed l = length l.pending - l.handed
