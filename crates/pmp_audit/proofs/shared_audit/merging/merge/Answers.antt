use Rattle.std.proofs.Common.{◌≡◌, ◌+◌, ◌<◌, ◌%◌, List, get_or, length, refl, ℕ, Some, false, arith}
use Rattle.std.specs.Prelude.{slice_get}
use Rattle.std.proofs.lemmas.Nat.{mod_below}
use Rattle.std.proofs.lemmas.Option.{slice_get_read}
use Rattle.pmp_core.specs.declared.decision.Cause.TheVariants.{Rule}
use Rattle.pmp_audit.specs.declared.shared_audit.job.Done.{Done}
use Rattle.pmp_audit.proofs.Merging.{is_brought, merged}
use Rattle.pmp_audit.proofs.shared_audit.merging.merge.Goals as goal

-- the worker whose turn it is
at_done : (all : List Done) (place : ℕ) (done : Done) → 0 < length all → done ≡ get_or all (place % length all) done
    → slice_get all (place % length all) ≡ Some done
at_done all place done some is =
    slice_get_read all (length all) (place % length all) done refl (mod_below place (length all) some) is

pub index-requires : goal.index-requires
index-requires c =
    let (made, many, dealt) = c.requires.dealt in
    let done = c.index-all-place.result in
    let at = at_done c.args.all.now c.loop-place.place done c.requires.some c.index-all-place.is in
    let inside = is_brought _ made c.args.all.now c.loop-place.place done dealt at (omega arith)
    (0, record { allowed = false; cause = Rule 0 }) in
    omega (arith, done.decisions.ok.0)

pub loop-place-preserved : goal.loop-place-preserved
loop-place-preserved c made many dealt =
    let done = c.index-all-place.result in
    merged (length c.args.decided.now.items + 1) made c.args.all.now c.loop-place.place done dealt
    (at_done c.args.all.now c.loop-place.place done c.requires.some c.index-all-place.is) (omega arith)
    c.index.result.now c.args.decided.now.items c.loop-place.decided.items c.push.new.self.items c.index.ensures
    (c.loop-place.invariant made many dealt) c.in_ok-push.ensures.items
