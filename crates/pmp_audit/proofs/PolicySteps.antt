-- The steps of a script.
use Rattle.std.proofs.Common.{◌≡◌, ℕ, ◌+◌, ◌-◌, ◌<◌, ◌≤◌, List, [], ◌∷◌, ◌++◌, length, map, take, drop, sym, ap}
use Rattle.std.proofs.Common.{◌∙◌, arith}
use Rattle.std.specs.Prelude.{slice_index_or}
use Rattle.std.proofs.Math.Seq.{take-add}
use Rattle.std.proofs.lemmas.Grind.{flat_map-append}
use Rattle.std.proofs.lemmas.List.{drop_more, get_or-map, length-append, length-map, take_all}
use Rattle.pmp_core.specs.declared.event.Event.{Event}
use Rattle.pmp_core.specs.declared.event.Event.TheVariants.{Reset}
use Rattle.pmp_core.specs.Histories.{joined}
use Rattle.pmp_audit.specs.declared.policy_check.steps.Pace.{Pace}
use Rattle.pmp_audit.specs.declared.policy_check.steps.Pace.TheVariants.{Publications, Events}
use Rattle.pmp_audit.specs.PolicyCheck.{step_count, steps_of}

abbrev pub alone : Event → List Event
alone event = event ∷ []

event_alone : (events : List Event) (i : ℕ) → i < length events
    → take (i + 1 - i) (drop i events) ≡ slice_index_or (map alone events) i []
event_alone events i inside =
    let one : i + 1 - i ≡ 1 = omega arith in
    ap (λ (n : ℕ). take n (drop i events)) one ∙ ap (take 1) (drop_more events i Reset inside)
    ∙ sym (get_or-map alone events i Reset [] inside)

-- an event by itself is the step with its index
pub one_event : (pace : Pace) (batches : List (List Event)) (events : List Event) (i : ℕ) → pace ≡ Events
    → events ≡ joined batches → i < length (steps_of pace batches)
    → take (i + 1 - i) (drop i events) ≡ slice_index_or (steps_of pace batches) i []
one_event pace batches events i by_events all inside =
    rw (by_events, all) (event_alone (joined batches) i
    (omega (arith, ap (λ (p : Pace). length (steps_of p batches)) by_events, length-map (joined batches) alone)))

-- more publications are at least as many steps
pub no_fewer : (pace : Pace) (batches : List (List Event)) (from to : ℕ) → from ≤ to
    → step_count pace batches from ≤ step_count pace batches to
no_fewer Publications batches from to forward = forward
no_fewer Events batches from to forward =
    let more = to - from in
    let count : from + more ≡ to = omega arith in
    let parts : take to batches ≡ take from batches ++ take more (drop from batches) =
    ap (λ (n : ℕ). take n batches) (sym count) ∙ take-add from more batches in
    let events : length (joined (take to batches)) ≡ length (joined (take from batches))
    + length (joined (take more (drop from batches))) =
    ap (λ (l : List (List Event)). length (joined l)) parts
    ∙ ap (λ (l : List Event). length l)
    (flat_map-append (λ batch. batch) (take from batches) (take more (drop from batches)))
    ∙ length-append (joined (take from batches)) (joined (take more (drop from batches))) in
    omega (arith, events)

-- the first publications take no more steps than there are
pub steps_within : (pace : Pace) (batches : List (List Event)) (publications : ℕ) → publications ≤ length batches
    → step_count pace batches publications ≤ length (steps_of pace batches)
steps_within Publications batches publications within = within
steps_within Events batches publications within =
    let fewer = no_fewer Events batches publications (length batches) within in
    let all : take (length batches) batches ≡ batches = take_all _ _ (omega arith) in
    omega (arith, fewer, ap (λ (l : List (List Event)). length (joined l)) all, length-map (joined batches) alone)
