-- Lemmas on bytes that move in several calls.
use Rattle.std.proofs.Common.{◌≡◌, ℕ, ◌+◌, ◌-◌, ◌<◌, ◌≤◌, List, ◌++◌, length, take, drop, sym, ap, ◌∙◌, append_assoc}
use Rattle.std.proofs.Common.{take-append-drop, length-append, length-take, arith, Option, Some, None, IfSome, inl, inr}
use Rattle.pmp_text.specs.Inputs.{CantReadPart, CantReadWhole}
use Rattle.pmp_text.specs.declared.input.InputFault.{InputFault}
use Rattle.std.proofs.lemmas.List.{take_rest}
use Rattle.std.proofs.KnownBytes.{Consumes-kept, Consumes-trans}
use Rattle.std.specs.Io.KnownBytes.{Consumes}
use Rattle.pmp_text.specs.Bytes.{Takes, TakesAtMost}

-- after a write of `count` bytes of `rest`
pub front_grows : (all done rest : List ℕ) (count : ℕ) → all ≡ done ++ rest
    → all ≡ (done ++ take count rest) ++ take (length rest - count) (drop count rest)
front_grows all done rest count split =
    split ∙ ap (λ l. done ++ l) (sym (take-append-drop count rest))
    ∙ sym (append_assoc done (take count rest) (drop count rest))
    ∙ ap (λ l. (done ++ take count rest) ++ l) (sym (take_rest rest count))

-- held bytes, and then `count` more
pub Takes-after : (a b c : Option (List ℕ)) (held : List ℕ) (count total : ℕ) → Consumes a b held → Takes b c count
    → length held + count ≡ total → Takes a c total
Takes-after a b c held count total first (taken, second, counted) sum =
    (held ++ taken, Consumes-trans a b c held taken first second, simp length-append (omega arith))

-- held bytes, and then at most `count` more
pub TakesAtMost-after : (a b c : Option (List ℕ)) (held chunk : List ℕ) (count limit : ℕ) → Consumes a b held
    → Consumes b c (take count chunk) → length held + count ≤ limit
    → TakesAtMost a c limit
TakesAtMost-after a b c held chunk count limit first second sum = (
  held ++ take count chunk,
  Consumes-trans a b c held (take count chunk) first second,
  simp (length-append, length-take) (omega arith),
)

-- a reader that loses more bytes than a limit had more
pub Takes-more : (old new : Option (List ℕ)) (limit : ℕ) → Takes old new (limit + 1)
    → IfSome old (λ left. limit < length left)
Takes-more None new limit taken = tt
Takes-more (Some left) None limit (bytes, none, counted) = absurd none
Takes-more (Some left) (Some rest) limit (bytes, split, counted) =
    omega (arith, ap length split, length-append bytes rest)

-- what a reader's rest can't be read for, all of it can't
pub CantReadWhole-after : (a b c : Option (List ℕ)) (held : List ℕ) (room limit : ℕ) (fault : InputFault)
    → Consumes a b held → length held + room ≡ limit → CantReadPart room b c fault → CantReadWhole limit a c fault
CantReadWhole-after a b c held room limit fault first sum (inl (is, taken)) =
    let all = Takes-after a b c held (room + 1) (limit + 1) first taken (omega (arith, sum)) in
    inl (is, Takes-more a c limit all, all)
CantReadWhole-after a b c held room limit fault first sum (inr (is, keeps)) =
    inr (inl is, (held, Consumes-kept a b c held first keeps, omega (arith, sum)))
