use Rattle.std.proofs.Common.{◌≡◌, ℕ, suc, ◌+◌, ◌*◌, ◌<◌, Bool, true, false, drop, get_or, refl, sym, ap, ◌∙◌, arith}
use Rattle.std.proofs.Math.Seq.{drop-cons}
use Rattle.std.proofs.lemmas.List.{drop_all}
use mir.Val.{bool_byte}
use Rattle.pmp_core.specs.Configuration.{bit_of}
use Rattle.pmp_core.specs.WriteReasons.{bits_of}
use Rattle.pmp_core.proofs.write_reasons.Reasons.of.Goals as goal

bit_is : (b : Bool) → bit_of b ≡ bool_byte b
bit_is true = refl
bit_is false = refl

pub returns-clause-bits : goal.returns-clause-bits
unfolding bits_of
returns-clause-bits c =
    let tests = c.args.tests in
    let left : ℕ → ℕ = λ k. bits_of (drop k tests) in
    let none : left 9 ≡ 0 = ap bits_of (drop_all 9 tests (omega arith)) in
    let each : (k : ℕ) → k < 9 → (r : ℕ) → r ≡ bool_byte (get_or tests k false) → left k ≡ r + 2 * left (suc k) =
    λ k near r is. ap bits_of (drop-cons tests k false (omega arith))
    ∙ ap (λ n. n + 2 * left (suc k)) (bit_is (get_or tests k false) ∙ sym is) in
    omega (
      arith,
      none,
      each 0 (omega arith) _ c.from.ensures,
      each 1 (omega arith) _ c.from-2.ensures,
      each 2 (omega arith) _ c.from-3.ensures,
      each 3 (omega arith) _ c.from-4.ensures,
      each 4 (omega arith) _ c.from-5.ensures,
      each 5 (omega arith) _ c.from-6.ensures,
      each 6 (omega arith) _ c.from-7.ensures,
      each 7 (omega arith) _ c.from-8.ensures,
      each 8 (omega arith) _ c.from-9.ensures,
    )
