-- Outputs that begin with what they were.
use Rattle.std.proofs.Common.{◌≡◌, ℕ, ◌≤◌, List, ◌++◌, length, take, drop, Result, Ok, Err, sym, ap, ◌∙◌, arith}
use Rattle.std.specs.Io.{StartsWith}
use Rattle.std.specs.Result.{OnErr}
use Rattle.std.proofs.Math.Seq.{take-append_seam}
use Rattle.std.proofs.lemmas.List.{length-append, take-append-drop, take-append-le, take_all}

pub on_err : {T E P : Type 0} (r : Result T E) → P → OnErr r P
on_err (Ok x) p = tt
on_err (Err e) p = p

-- what begins with a longer text begins with the text
pub starts_before : (first longer last more : List ℕ) → longer ≡ first ++ more → StartsWith last longer
    → StartsWith last first
starts_before first longer last more grown starts =
    let short : length first ≤ length longer =
    omega (arith, ap length grown, length-append first more) in
    let split : last ≡ longer ++ drop (length longer) last =
    sym (take-append-drop (length longer) last) ∙ ap (λ (l : List ℕ). l ++ drop (length longer) last) starts in
    ap (take (length first)) split ∙ take-append-le (length first) longer (drop (length longer) last) short
    ∙ ap (take (length first)) grown ∙ take-append_seam first more

pub starts_same : (first last : List ℕ) → last ≡ first → StartsWith last first
starts_same first last same = ap (take (length first)) same ∙ take_all (length first) first (omega arith)

-- what failed to append to a longer text left it, and so begins with the text
pub starts_after : (first longer last more : List ℕ) → longer ≡ first ++ more → last ≡ longer → StartsWith last first
starts_after first longer last more grown same =
    starts_before first longer last more grown (starts_same longer last same)
