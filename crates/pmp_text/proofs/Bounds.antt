-- A script has no more events, and no more publications, than the limit.
use Rattle.std.proofs.Common.{◌≡◌, ℕ, ◌+◌, ◌<◌, ◌≤◌, Bool, true, false, cond, ltb, List, [], ◌∷◌, length, Option, Some}
use Rattle.std.proofs.Common.{None, Result, Ok, Err, refl, sym, ◌∙◌, arith, subst}
use Rattle.std.specs.Option.{option_or}
use Rattle.std.proofs.lemmas.Bool.{ltb-true}
use Rattle.std.proofs.lemmas.List.{length-append}
use Rattle.std.proofs.lemmas.List.Sums.{sum_by_push}
use Rattle.pmp_core.specs.declared.event.Event.{Event}
use Rattle.pmp_core.specs.declared.event.TheConstants.{BATCH_EVENTS}
use Rattle.pmp_text.specs.declared.flaw.Flaw.{Flaw}
use Rattle.pmp_text.specs.declared.mark.Name.{Name}
use Rattle.pmp_text.specs.declared.refusal.Refusal.TheVariants.{BatchFull, TooMany}
use Rattle.pmp_text.specs.declared.fault.Fault.{Fault}
use Rattle.pmp_text.specs.declared.script.reader.TheConstants.{MAX_EVENTS}
use Rattle.pmp_text.specs.declared.script.statement.Statement.{Statement}
use Rattle.pmp_text.specs.declared.script.statement.Statement.TheVariants as statement
use Rattle.pmp_text.specs.declared.script.version.Version.{Version}
use Rattle.pmp_text.specs.Contents.{Publications}
use Rattle.pmp_text.specs.Flaws.{as_whole}
use Rattle.pmp_text.specs.Heads.{event_flaw, profile_said}
use Rattle.pmp_text.specs.Longhand.{in_longhand}
use Rattle.pmp_text.specs.Marks.{is_in}
use Rattle.pmp_text.specs.ScriptEvents.{first_unpublished, publications}
use Rattle.pmp_text.specs.ScriptFaults.{event_fault, first_fault, name_fault, publish_fault}
use Rattle.pmp_text.specs.ScriptLines.{Line, said_by}
use Rattle.pmp_text.specs.Scripts.{fault_or_publications}
use Rattle.pmp_text.specs.Sizes.{IsInLimits, ScriptSizeLaw, events_in}
use Rattle.pmp_text.specs.Steps.Progress.{Read, Reading, after_statement, all_published, nothing_begun, read_in}
use Rattle.pmp_text.specs.Steps.Progress.{resumed, with_event, with_publish}
use Rattle.pmp_text.proofs.Known.{known_fault, line_taken, with_line}
use Rattle.pmp_text.proofs.MadeScripts.{faultless, is_read, published_in}
use Rattle.pmp_text.proofs.Meanings.{reads_from_nothing}
use Rattle.pmp_text.proofs.Resumed.{read_alone}

-- what was read so far is counted, and within the limits
record IsCounted (so_far : Reading) : Type 0 where
  events : so_far.events ≡ events_in so_far.progress.published.batches + length so_far.progress.batch
  publications : so_far.done ≡ length so_far.progress.published.batches
  few_events : so_far.events ≤ MAX_EVENTS
  few_publications : so_far.done ≤ MAX_EVENTS

room : (has : Bool) (flaw : Flaw) → cond has None (Some flaw) ≡ None → has ≡ true
room true flaw e = refl
room false flaw e = absurd cc

room_for_event : (flaw : Option Flaw) (unpublished all : ℕ) → event_fault flaw unpublished all ≡ None → all < MAX_EVENTS
room_for_event (Some flaw) unpublished all e = absurd cc
room_for_event None unpublished all e = by (ltb unpublished BATCH_EVENTS) e
  where
    by : (has : Bool) → cond has (cond (ltb all MAX_EVENTS) None (Some (as_whole TooMany))) (Some (as_whole BatchFull))
        ≡ None → all < MAX_EVENTS
    by true e = ltb-true all MAX_EVENTS (room (ltb all MAX_EVENTS) (as_whole TooMany) e)
    by false e = absurd cc

room_for_publication : (marked : Name → Bool) (name : Option Name) (all : ℕ) → publish_fault marked name all ≡ None
    → all < MAX_EVENTS
room_for_publication marked name all e = by (name_fault marked name) e
  where
    by : (fault : Option Flaw) → option_or fault (cond (ltb all MAX_EVENTS) None (Some (as_whole TooMany))) ≡ None
        → all < MAX_EVENTS
    by None e = ltb-true all MAX_EVENTS (room (ltb all MAX_EVENTS) (as_whole TooMany) e)
    by (Some flaw) e = absurd cc

module _ (so_far : Reading) (counted : IsCounted so_far) (number : ℕ) where
  with_event_too : (event : Event) → so_far.events < MAX_EVENTS → IsCounted (with_event so_far number event)
  with_event_too event below = record {
    events = let n = length-append so_far.progress.batch (event ∷ []) in let m = counted.events in omega arith;
    publications = counted.publications;
    few_events = omega arith;
    few_publications = counted.few_publications;
  }

  with_publish_too : (name : Option Name) → so_far.done < MAX_EVENTS → IsCounted (with_publish so_far name)
  with_publish_too name below =
      let n = sum_by_push (λ (batch : List Event). length batch) so_far.progress.published.batches so_far.progress.batch in
      let k = length-append so_far.progress.published.batches (so_far.progress.batch ∷ []) in
      record {
        events = let m = counted.events in omega arith;
        publications = let m = counted.publications in omega arith;
        few_events = counted.few_events;
        few_publications = omega arith;
      }

  same_counts : (next : Reading) → next.events ≡ so_far.events → next.done ≡ so_far.done
      → next.progress ≡ so_far.progress → IsCounted next
  same_counts next events done progress = record {
    events = rw (events, progress) counted.events;
    publications = rw (done, progress) counted.publications;
    few_events = rw events counted.few_events;
    few_publications = rw done counted.few_publications;
  }

  counted_line : (version : Version) (says : Result Statement Flaw) → known_fault version so_far says ≡ None
      → IsCounted (with_line version so_far number says)
  counted_line version (Err flaw) e = absurd cc
  counted_line version (Ok (statement.Publish name)) e =
      with_publish_too name (room_for_publication (is_in so_far.marks) name so_far.done e)
  counted_line version (Ok (statement.Mark name)) e = same_counts _ refl refl refl
  counted_line version (Ok (statement.Event event)) e =
      with_event_too event (room_for_event (event_flaw version (profile_said so_far.head.lines).is_rv32 event)
      (length so_far.progress.batch) so_far.events e)
  counted_line version (Ok (statement.Head says)) e = same_counts _ refl refl refl
  counted_line version (Ok (statement.Expect register value)) e = same_counts _ refl refl refl

  one_line : (version : Version) (next : Reading) (says : Result Statement Flaw)
      → after_statement version so_far number says ≡ Ok next → IsCounted next
  one_line version next says e =
      let (none, is) = line_taken version so_far number says next e in
      subst (λ (r : Reading). IsCounted r) is (counted_line version says none)

ended : (so_far : Reading) → IsCounted so_far → (since : Option ℕ) (all : Read)
    → all_published since (read_in so_far) ≡ Ok all → IsInLimits all.published.batches
ended so_far counted None all e =
    let is : read_in so_far ≡ all = cc in
    subst (λ (r : Read). IsInLimits r.published.batches) is (record {
      events = let n = counted.events in let m = counted.few_events in omega arith;
      publications = let n = counted.publications in let m = counted.few_publications in omega arith;
    })
ended so_far counted (Some number) all e = absurd cc

module _ (version : Version) where
  abbrev IsLimited : List Line → Type 0
  IsLimited lines = (so_far : Reading) → IsCounted so_far → (all : Read) → resumed version so_far lines ≡ Ok all
      → IsInLimits all.published.batches

  behind_line : (more : List Line) → IsLimited more → (so_far : Reading) → IsCounted so_far → (number : ℕ)
      (says : Result Statement Flaw) (all : Read) (step : Result Reading Fault)
      → after_statement version so_far number says ≡ step
      → elim step as (λ _. Result Read Fault) [ Ok next ↦ resumed version next more | Err fault ↦ Err fault ]
      ≡ Ok all → IsInLimits all.published.batches
  behind_line more limited so_far counted number says all (Ok next) was e =
      limited next (one_line so_far counted number version next says was) all e
  behind_line more limited so_far counted number says all (Err fault) was e = absurd cc

  in_limits : (lines : List Line) → IsLimited lines
  in_limits [] = λ so_far counted all e. ended so_far counted so_far.progress.since all e
  in_limits (line ∷ more) = λ so_far counted all e.
      behind_line more (in_limits more) so_far counted line.number (said_by version line) all _ refl e

-- ---- the law

pub size_at_most : ScriptSizeLaw
size_at_most text script e =
    let it = is_read text script e in
    let version = it.version in
    let more = in_longhand version it.more in
    let fine = faultless (first_fault (it.first ∷ []) more) (first_unpublished version more) (publications version more)
    (published_in script) it.made.published in
    let all = read_alone version more in
    let read : resumed version nothing_begun more ≡ Ok all =
    sym (reads_from_nothing text it.short it.first it.more it.lines version it.named)
    ∙ (λ i. fault_or_publications (fine.0 i) (fine.1 i) all) in
    subst (λ (p : Publications). IsInLimits p.batches) fine.2
    (in_limits version more nothing_begun (record {
      events = refl;
      publications = refl;
      few_events = omega arith;
      few_publications = omega arith;
    }) all read)
