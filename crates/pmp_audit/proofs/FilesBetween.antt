-- The register file between the events of a script.
use Rattle.std.proofs.Common.{◌≡◌, ℕ, ◌+◌, ◌-◌, ◌≤◌, List, fold, length, min, take, drop, sym, ap, ◌∙◌, arith}
use Rattle.std.proofs.Math.Seq.{take-add}
use Rattle.std.proofs.lemmas.List.Sums.{fold-append}
use Rattle.std.proofs.lemmas.List.{take_min}
use Rattle.pmp_core.specs.declared.event.Event.{Event}
use Rattle.pmp_core.specs.RegisterFile.{RegisterFile}
use Rattle.pmp_core.specs.RegisterWrite.{step}

-- from the file behind the first events to the one behind some more
pub file_further : (start : RegisterFile) (all : List Event) (done end : ℕ) → done ≤ end
    → fold step (fold step start (take done all)) (take (end - done) (drop done all)) ≡ fold step start (take end all)
file_further start all done end within =
    let sum : done + (end - done) ≡ end = omega arith in
    sym (fold-append step start (take done all) (take (end - done) (drop done all)))
    ∙ ap (fold step start) (sym (take-add done (end - done) all) ∙ ap (λ (n : ℕ). take n all) sum)

-- no more events than there are
pub first_of : (all : List Event) (n : ℕ) → take (min (length all) n) all ≡ take n all
first_of all n =
    let same : min (length all) n ≡ min n (length all) = omega arith in
    ap (λ (m : ℕ). take m all) same ∙ take_min n all

-- events that are run behind the first ones, from a file that is known
pub run_further : (start : RegisterFile) (all given : List Event) (file next : RegisterFile) (done end : ℕ)
    → given ≡ all → file ≡ fold step start (take done all) → done ≤ end
    → next ≡ fold step file (take (end - done) (drop done given)) → next ≡ fold step start (take end all)
run_further start all given file next done end same before within is =
    is ∙ ap (λ (f : RegisterFile). fold step f (take (end - done) (drop done given))) before
    ∙ ap (λ (l : List Event). fold step (fold step start (take done all)) (take (end - done) (drop done l))) same
    ∙ file_further start all done end within

pub at_most_all : (start : RegisterFile) (all given : List Event) (end events : ℕ) → given ≡ all
    → end ≡ min (length given) events → fold step start (take end all) ≡ fold step start (take events all)
at_most_all start all given end events same is =
    ap (λ (n : ℕ). fold step start (take n all)) (is ∙ ap (λ (l : List Event). min (length l) events) same)
    ∙ ap (fold step start) (first_of all events)
