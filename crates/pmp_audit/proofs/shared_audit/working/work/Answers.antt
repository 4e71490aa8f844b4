use Rattle.std.proofs.Common.{◌≡◌, ◌∙◌, ◌+◌, ◌*◌, ◌<◌, ℕ, List, Some, ap, sym, length, arith, get_or}
use Rattle.std.proofs.Math.Nat.{add-mul}
use Rattle.std.specs.Prelude.{slice_get}
use Rattle.std.specs.List.{enumerate_from}
use Rattle.std.proofs.lemmas.List.{get_or-map, length-map, length_push}
use Rattle.std.proofs.lemmas.List.FromFn.{get_or-enumerate_from, length-enumerate_from}
use Rattle.std.proofs.lemmas.Option.{slice_get-get_or}
use Rattle.pmp_core.specs.declared.decision.Decision.{Decision}
use Rattle.pmp_core.specs.Ranges.{decision_of}
use Rattle.pmp_core.specs.RegisterFile.{RegisterFile}
use Rattle.pmp_text.specs.declared.trace.TraceRow.{TraceRow}
use Rattle.pmp_audit.specs.Working.{decided_in}
use Rattle.pmp_audit.proofs.Dealing.{one_dealt, all_dealt}
use Rattle.pmp_audit.proofs.shared_audit.working.work.Goals as goal

-- the numbered decision of the row at a place
at_place : (first : ℕ) (file : RegisterFile) (rows : List TraceRow) (place : ℕ) (row : TraceRow) (decision : Decision)
    → place < length rows → decision ≡ decision_of file (get_or rows place row).access
    → slice_get (enumerate_from first (decided_in file rows)) place ≡ Some (first + place, decision)
at_place first file rows place row decision inside is =
    let decide : TraceRow → Decision = λ r. decision_of file r.access in
    let many : length (decided_in file rows) ≡ length rows = length-map rows decide in
    let numbered = enumerate_from first (decided_in file rows) in
    slice_get-get_or numbered place (0, decision) (omega (arith, length-enumerate_from first (decided_in file rows)))
    ∙ ap Some (get_or-enumerate_from first (decided_in file rows) place (0, decision) (omega arith))
    ∙ ap (λ (d : Decision). Some (first + place, d)) (get_or-map decide rows place row decision inside
    ∙ sym is)

pub loop-place-preserved : goal.loop-place-preserved
loop-place-preserved g c =
    let at = c.loop-place in
    let rows = c.args.round.rows.now in
    let numbered = enumerate_from c.args.round.first (decided_in c.file-file.result rows) in
    let turns = length at.decisions.items in
    let own = at_place c.args.round.first c.file-file.result rows at.place c.index-round-place.result c.in-Ok.decision
    c.loop-place-test.true c.in-Ok.ensures.decided in
    let size = length_push at.decisions.items (c.args.round.first + at.place, c.in-Ok.decision) in
    let one_more : length c.push.new.self.items ≡ turns + 1 = ap (λ (l : List (ℕ × Decision)). length l)
    c.in_ok-push.ensures.items ∙ size in
    record {
      same_unit = c.ask.ensures.unit ∙ at.invariant.same_unit;
      learnt = c.in-Ok.ensures.learnt;
      file_is = at.invariant.file_is;
      place_is =
          let was = at.invariant.place_is in
          let turn = add-mul turns 1 c.args.round.workers in
          let next : length c.push.new.self.items * c.args.round.workers ≡ (turns + 1) * c.args.round.workers =
          ap (λ (n : ℕ). n * c.args.round.workers) one_more in
          omega arith;
      dealt = rw (one_more, c.in_ok-push.ensures.items) (one_dealt c.args.job.worker c.args.round.workers numbered turns
          at.decisions.items _ at.invariant.dealt (ap (slice_get numbered) (sym at.invariant.place_is) ∙ own));
      asked = λ _. c.in-Ok.ensures.asked;
      count_is = at.invariant.count_is;
    }

pub returns-clause-result : goal.returns-clause-result
returns-clause-result g c =
    let at = c.loop-place in
    let made = decided_in c.file-file.result c.args.round.rows.now in
    let many : length (enumerate_from c.args.round.first made) ≡ length c.args.round.rows.now =
    length-enumerate_from c.args.round.first made ∙ length-map c.args.round.rows.now _ in
    record {
      done = record {
        same_unit = at.invariant.same_unit;
        dealt = rw (← at.invariant.file_is) (all_dealt c.args.job.worker c.args.round.workers
            (enumerate_from c.args.round.first made) (length at.decisions.items) at.decisions.items at.invariant.dealt
            (let place_is = at.invariant.place_is in omega arith));
      };
      refused = tt;
    }
