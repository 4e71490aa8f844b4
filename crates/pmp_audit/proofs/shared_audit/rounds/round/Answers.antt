use Rattle.std.proofs.Common.{◌≡◌, ◌+◌, arith, inl, inr, length, rules}
use Rattle.std.proofs.lemmas.List.{length-map}
use Rattle.pmp_share.specs.Batches.{file_from}
use Rattle.pmp_audit.proofs.Merging.{all_dealt_out, all_checkers, stopped}
use Rattle.pmp_audit.proofs.Stopping.{unit_stops}
use Rattle.pmp_audit.specs.Rounds.{AreDealt}
use Rattle.pmp_audit.specs.Working.{StopsRound, decided_in}
use Rattle.pmp_audit.proofs.shared_audit.rounds.round.Goals as goal
use Rattle.pmp_audit.proofs.shared_audit.rounds.round.Goals.{After-deref}

-- each worker brings its share of the decisions in what is published
dealt : (g : _) (c : After-deref g) → AreDealt (length c.args.unit.now.decided.items + 1)
    (decided_in (file_from c.args.unit.now.publisher.unit.base c.args.unit.now.publisher.published) c.args.rows.now)
    c.in_ok-all.all.items
dealt g c =
    let first : c.len.result + 1 ≡ length c.args.unit.now.decided.items + 1 =
    omega (arith, c.len.ensures, c.args.unit.now.decided.ok.0) in
    rw (← first) (all_dealt_out c.args.unit.now.publisher _ (c.len.result + 1)
    c.args.rows.now c.in-Ok.jobs.items c.in_ok-results.results.items c.in_ok-all.all.items
    c.in-Ok.ensures.jobs c.in_ok-all.ensures.done c.in_ok-results.ensures)

pub merge-requires-clause-dealt : goal.merge-requires-clause-dealt
merge-requires-clause-dealt g c = (
  decided_in (file_from c.args.unit.now.publisher.unit.base c.args.unit.now.publisher.published) c.args.rows.now,
  length-map c.args.rows.now _,
  rw c.deref.ensures.value (dealt g c),
)

pub returns-clause-ok : goal.returns-clause-ok
returns-clause-ok g c = (
  all_checkers c.args.unit.now.publisher _ (c.len.result + 1) c.args.rows.now
      c.in-Ok.jobs.items c.in_ok-results.results.items c.in_ok-all.all.items
      (rw c.replace-checkers.ensures.value at c.in-Ok.ensures.jobs)
      c.in_ok-all.ensures.done c.in_ok-results.ensures _ c.in_ok-unit.ensures,
  c.in_ok-merge.ensures _ (length-map c.args.rows.now _)
      (rw c.deref.ensures.value (dealt g (goal.at.returns-clause-ok g c).After-deref)),
)

pub returns-in_err-all-clause-err : goal.returns-in_err-all-clause-err
returns-in_err-all-clause-err g c =
    let told = c.args.unit.now.publisher.published in
    let why : StopsRound told c.in_err-all.field-0.0 = elim c.in_err-all.ensures.refused [
      | inl found ↦
          stopped c.args.unit.now.publisher _ (c.len.result + 1) c.args.rows.now c.in-Ok.jobs.items
          c.in_ok-results.results.items c.in_err-all.field-0.0 c.in-Ok.ensures.jobs c.in_ok-results.ensures found
      | inr memory ↦ inl memory
    ] in
    search rules

pub returns-in-Err-clause-err : goal.returns-in-Err-clause-err
returns-in-Err-clause-err g c = rw c.fault_of_share.ensures (unit_stops _ c.in-Err.fault c.in-Err.ensures.refused)
