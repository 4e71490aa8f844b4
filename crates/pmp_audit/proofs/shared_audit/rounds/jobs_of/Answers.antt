use Rattle.std.proofs.Common.{◌≡◌, ◌∙◌, ◌∷◌, [], length, sym, ap, arith, append_assoc}
use Rattle.std.specs.Vec.Iter.{into_iter_items}
use Rattle.std.proofs.lemmas.List.{length_push}
use Rattle.pmp_share.specs.declared.knowledge.Known.{Known}
use Rattle.pmp_share.specs.Tokens.{PublisherToken}
use Rattle.pmp_audit.specs.Rounds.{IsJob}
use Rattle.pmp_audit.proofs.Merging.{all_at, one_job}
use Rattle.pmp_audit.proofs.shared_audit.rounds.jobs_of.Goals as goal

pub invariant_of-push : goal.invariant_of-push
invariant_of-push c =
    let at = c.loop-checker in
    let x = c.in-Some.checker in
    let unit = c.args.publisher.now.unit in
    let own : x.unit ≡ unit =
    all_at (λ (checker : Known). checker.unit ≡ unit) at.yielded x (into_iter_items c.next.new.self)
    c.args.checkers.items (rw c.in-Some.ensures.steps.0 at at.invariant.whole) c.requires.same_unit in
    record {
      same_unit = ap (λ (n : Known). n.unit) c.in_ok-notice.ensures.told
          ∙ ap (λ (p : PublisherToken). p.unit) at.invariant.same ∙ sym own;
    }

pub loop-checker-preserved : goal.loop-checker-preserved
loop-checker-preserved c =
    let at = c.loop-checker in
    let job : IsJob at.publisher (length at.yielded) _ = record {
      numbered = omega (arith, at.invariant.jobs.many, at.jobs.ok.0);
      same_unit = all_at (λ (checker : Known). checker.unit ≡ c.args.publisher.now.unit) at.yielded c.in-Some.checker
          (into_iter_items c.next.new.self) c.args.checkers.items (rw c.in-Some.ensures.steps.0 at at.invariant.whole)
          c.requires.same_unit ∙ sym (ap (λ (p : PublisherToken). p.unit) at.invariant.same);
      notice = c.in_ok-notice.ensures.told;
    } in
    record {
      whole = append_assoc at.yielded (c.in-Some.checker ∷ []) _ ∙ rw c.in-Some.ensures.steps.0 at at.invariant.whole;
      left =
          let was = at.invariant.left in
          let gone = c.in-Some.ensures.steps.1 in
          let short = ap length c.in-Some.ensures.steps.0 in
          omega arith;
      same = c.tell.ensures.same ∙ at.invariant.same;
      jobs = rw (c.tell.ensures.same, length_push) (one_job at.publisher (length at.yielded) at.jobs.items
          c.push.new.self.items _ at.invariant.jobs job c.in_ok-push.ensures.items);
    }
