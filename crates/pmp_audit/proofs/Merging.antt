-- What workers bring back, in the order of the rows.
use Rattle.std.proofs.Common.{◌≡◌, ℕ, ◌+◌, ◌<◌, ◌/◌, ◌%◌, inl, inr, List, [], ◌∷◌, ◌++◌, length, map, All}
use Rattle.std.proofs.Common.{Some, Result, Ok, IfOk, refl, sym, ap, ◌∙◌, arith, subst, get_or, take}
use Rattle.std.proofs.Common.{append_assoc}
use Rattle.std.specs.Prelude.{Contains, Err, IfErr, slice_get}
use Rattle.std.specs.List.{enumerate_from}
use Rattle.std.proofs.lemmas.List.{length-append, length_push, get_or_append_left, get_or_at, get_or_push, length-map}
use Rattle.std.proofs.lemmas.List.{get_or-map, take_more}
use Rattle.std.proofs.lemmas.List.FromFn.{get_or-enumerate_from, length-enumerate_from}
use Rattle.std.proofs.lemmas.Bool.{cases_lt}
use Rattle.std.proofs.lemmas.Option.{slice_get_within, slice_get_cases, get_or_from_slice_get}
use Rattle.std.proofs.lemmas.Option.{same_Some, slice_get-get_or}
use Rattle.pmp_core.specs.declared.decision.Decision.{Decision}
use Rattle.pmp_core.specs.RegisterFile.{RegisterFile}
use Rattle.pmp_share.specs.Batches.{Batches, file_from}
use Rattle.pmp_share.specs.declared.knowledge.Known.{Known}
use Rattle.pmp_share.specs.Tokens.{PublisherToken}
use Rattle.pmp_text.specs.declared.trace.TraceRow.{TraceRow}
use Rattle.pmp_text.specs.declared.fault.Fault.{Fault}
use Rattle.pmp_audit.specs.declared.shared_audit.job.Done.{Done}
use Rattle.pmp_audit.specs.declared.shared_audit.job.Job.{Job}
use Rattle.pmp_audit.specs.Rounds.{AreCheckersOf, AreDealt, AreJobs, AreResults, IsJob, IsResult}
use Rattle.pmp_audit.specs.Working.{IsDone, StopsRound, decided_in}
use Rattle.pmp_audit.proofs.Dealing.{slice_get-push_old, slice_get-push_new}

-- ---- one decision more

module _ (first : ℕ) (made : List Decision) (all : List Done) (place : ℕ) (done : Done)
    (dealt : AreDealt first made all) (at_done : slice_get all (place % length all) ≡ Some done)
    (inside : place < length made) (d : ℕ × Decision) where
  -- the worker whose turn it is brings the decision of the next row
  own : slice_get done.decisions.items (place / length all) ≡ Some (get_or (enumerate_from first made) place d)
  own = dealt (place % length all) done at_done place refl
      ∙ slice_get-get_or (enumerate_from first made) place d (omega (arith, length-enumerate_from first made))

  pub is_brought : place / length all < length done.decisions.items
  is_brought = slice_get_within done.decisions.items (place / length all) _ own

  pub merged : (old held new : List Decision) → d ≡ get_or done.decisions.items (place / length all) d
      → held ≡ old ++ take place made → new ≡ held ++ d.1 ∷ [] → new ≡ old ++ take (place + 1) made
  merged old held new at so_far pushed =
      let is : d ≡ (first + place, get_or made place d.1) =
      at ∙ get_or_from_slice_get done.decisions.items (place / length all) _ d own
      ∙ get_or-enumerate_from first made place d inside in
      let next = take_more made place d.1 inside in
      let one : d.1 ≡ get_or made place d.1 = ap (λ (p : ℕ × Decision). p.1) is in
      pushed ∙ ap (λ (l : List Decision). l ++ d.1 ∷ []) so_far ∙ append_assoc old (take place made) (d.1 ∷ [])
      ∙ ap (λ (e : Decision). old ++ (take place made ++ e ∷ [])) one ∙ ap (λ (l : List Decision). old ++ l) (sym next)

-- ---- one job more

pub all_at : {A : Type 0} (P : A → Type 0) (xs : List A) (x : A) (ys all : List A)
    → xs ++ (x ∷ ys) ≡ all → All P all → P x
all_at P xs x ys all whole each =
    let many = ap (λ (l : List _). length l) whole in
    let inside : length xs < length all = omega (arith, many, length-append xs (x ∷ ys)) in
    subst P (ap (λ (l : List _). get_or l (length xs) x) (sym whole) ∙ get_or_at xs x ys x (length xs) refl)
    (each (length xs) x inside)

module _ (publisher : PublisherToken) (count : ℕ) (jobs : List Job) (job : Job)
    (so_far : AreJobs publisher count jobs) where
  earlier_job : (worker : ℕ) (other : Job) → worker < length jobs
      → slice_get (jobs ++ job ∷ []) worker ≡ Some other → IsJob publisher worker other
  earlier_job worker other before at =
      so_far.each worker other (sym (slice_get-push_old jobs job worker before) ∙ at)

  last_job : (worker : ℕ) (other : Job) → IsJob publisher count job → length jobs ≡ worker
      → slice_get (jobs ++ job ∷ []) worker ≡ Some other → IsJob publisher worker other
  last_job worker other is last at =
      let here : slice_get (jobs ++ job ∷ []) worker ≡ Some job =
      subst (λ (n : ℕ). slice_get (jobs ++ job ∷ []) n ≡ Some job) last (slice_get-push_new jobs job) in
      let same : job ≡ other = same_Some job other (sym here ∙ at) in
      let number : count ≡ worker = omega (arith, so_far.many, last) in
      subst (IsJob publisher worker) same (subst (λ (n : ℕ). IsJob publisher n job) number is)

pub one_job : (publisher : PublisherToken) (count : ℕ) (jobs new : List Job) (job : Job)
    → AreJobs publisher count jobs → IsJob publisher count job → new ≡ jobs ++ job ∷ []
    → AreJobs publisher (count + 1) new
one_job publisher count jobs new job so_far is pushed =
    let many : length new ≡ count + 1 =
    ap (λ (l : List Job). length l) pushed ∙ length_push jobs job ∙ ap (λ (n : ℕ). n + 1) so_far.many in
    record {
      many = many;
      each = λ worker other at.
          let own : slice_get (jobs ++ job ∷ []) worker ≡ Some other =
          ap (λ (l : List Job). slice_get l worker) (sym pushed) ∙ at in
          let within = slice_get_within new worker other at in
          elim (cases_lt worker count) [
            | inl before ↦
                earlier_job publisher count jobs job so_far worker other (omega (arith, so_far.many)) own
            | inr after ↦
                last_job publisher count jobs job so_far worker other is (omega (arith, so_far.many, many)) own
          ];
    }

-- ---- what all workers bring back

done_at : (results : List (Result Done Fault)) (all : List Done) (worker : ℕ) (done : Done)
    → results ≡ map Ok all → slice_get all worker ≡ Some done → get_or results worker (Ok done) ≡ Ok done
done_at results all worker done same at =
    ap (λ (l : List (Result Done Fault)). get_or l worker (Ok done)) same
    ∙ get_or-map Ok all worker done (Ok done) (slice_get_within all worker done at)
    ∙ ap Ok (get_or_from_slice_get all worker done done at)

-- each of so many workers was given a job, and all brought back what `work` says of it
module _ (publisher : PublisherToken) (count first : ℕ) (rows : List TraceRow) (jobs : List Job)
    (results : List (Result Done Fault)) (all : List Done) (are : AreJobs publisher count jobs)
    (same : results ≡ map Ok all) (made : AreResults (length jobs) first rows jobs results) where
  abbrev file : RegisterFile
  file = file_from publisher.unit.base publisher.published

  all_many : length all ≡ count
  all_many = sym (length-map all Ok) ∙ sym (ap (λ (l : List (Result Done Fault)). length l) same) ∙ made.many ∙ are.many

  -- so each is done with the rows of its number, in the file of what is published
  pub all_met : (worker : ℕ) (done : Done) → slice_get all worker ≡ Some done
      → IsDone publisher.unit file worker (length all) first rows done
  all_met worker done at =
      let inside : worker < length jobs =
      let within = slice_get_within all worker done at in omega (arith, all_many, are.many) in
      let (job, job_is, is) = made.each worker (Ok done) inside in
      let at_job : slice_get jobs worker ≡ Some job = slice_get-get_or jobs worker job inside ∙ ap Some (job_is job) in
      let own : IsDone job.checker.unit (file_from job.checker.unit.base job.notice.list) job.worker (length jobs) first
      rows done = subst (λ (r : Result Done Fault). IfOk r (IsDone job.checker.unit
      (file_from job.checker.unit.base job.notice.list) job.worker (length jobs) first rows))
      (done_at results all worker done same at) is.done in
      let j : IsJob publisher worker job = are.each worker job at_job in
      let told : job.notice.list ≡ publisher.published = ap (λ (n : Known). n.list) j.notice in
      let number : length jobs ≡ length all = are.many ∙ sym all_many in
      rw (j.same_unit, told, j.numbered, number) at own

  pub all_dealt_out : AreDealt first (decided_in file rows) all
  all_dealt_out worker done at = (all_met worker done at).dealt

  pub all_checkers : (checkers : List Known)
      → checkers ≡ map (λ done. done.checker) all → AreCheckersOf publisher.unit count checkers
  all_checkers checkers is = record {
    many = ap (λ (l : List Known). length l) is ∙ length-map all (λ (done : Done). done.checker) ∙ all_many;
    same_unit = λ i d inside.
        let of : Done → Known = λ done. done.checker in
        let many = ap (λ (l : List Known). length l) is ∙ length-map all of in
        elim ((slice_get_cases all i).1) [
          | inl (done, within, at, _) ↦
              let here : get_or checkers i d ≡ done.checker =
              ap (λ (l : List Known). get_or l i d) is ∙ get_or-map of all i done d within
              ∙ ap of (get_or_from_slice_get all i done done at) in
              ap (λ (c : Known). c.unit) here ∙ (all_met i done at).same_unit
          | inr (past, _) ↦ absurd (omega (arith, many))
        ];
  }

-- what stopped a worker may stop the round
pub stopped : (publisher : PublisherToken) (count first : ℕ) (rows : List TraceRow) (jobs : List Job)
    (results : List (Result Done Fault)) (fault : Fault) → AreJobs publisher count jobs
    → AreResults (length jobs) first rows jobs results → Contains results (Err fault)
    → StopsRound publisher.published fault
stopped publisher count first rows jobs results fault are made (k, within, at) =
    let inside : k < length jobs = omega (arith, made.many, within) in
    let (job, job_is, is) = made.each k (Err fault) inside in
    let own : StopsRound job.notice.list fault =
    subst (λ (r : Result Done Fault). IfErr r (StopsRound job.notice.list)) at is.refused in
    let j : IsJob publisher k job = are.each k job (slice_get-get_or jobs k job inside ∙ ap Some (job_is job)) in
    subst (λ (told : Batches). StopsRound told fault) (ap (λ (n : Known). n.list) j.notice) own

-- ---- one result more

module _ (workers first : ℕ) (rows : List TraceRow) (jobs : List Job) (results : List (Result Done Fault))
    (so_far : AreResults workers first rows jobs results) (job : Job) (result : Result Done Fault)
    (is : IsResult workers first rows job result) where
  pub one_result : AreResults workers first rows (jobs ++ job ∷ []) (results ++ result ∷ [])
  one_result = record {
    many = length_push results result ∙ ap (λ (n : ℕ). n + 1) so_far.many ∙ sym (length_push jobs job);
    each = λ i d inside. elim (cases_lt i (length jobs)) [
      | inl before ↦
          let (old, old_is, was) = so_far.each i d before in (
            old,
            (λ e. get_or_append_left jobs (job ∷ []) e i before ∙ old_is e),
            rw (get_or_append_left results (result ∷ []) d i (omega (arith, so_far.many))) was,
          )
      | inr last ↦
          let here : length jobs ≡ i = omega (arith, length_push jobs job) in (
            job,
            (λ e. get_or_push jobs job e i here),
            rw (get_or_push results result d i (so_far.many ∙ here)) is,
          )
    ];
  }
