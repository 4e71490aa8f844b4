-- Numbers name one access.
use borrow.Author.Tests.{tests}
use Rattle.std.proofs.Common.{rules, ◌≡◌, ℕ, ◌+◌, ◌<◌, ◌≤◌, ap, ◌∙◌, subst}
use Rattle.std.proofs.Math.Bridge.{le_prop}
use Rattle.pmp_core.specs.declared.access.Access.{Access}
use Rattle.pmp_core.specs.declared.access.Mode.{Mode}
use Rattle.pmp_core.specs.declared.access.Kind.{Kind}
use Rattle.pmp_core.specs.declared.access.TheConstants.{ADDRESS_LIMIT, MAX_LENGTH}
use Rattle.pmp_map.specs.Request.{mode_number, kind_number, IsNamed}

pub mode_once : (one other : Mode) → mode_number one ≡ mode_number other → one ≡ other
mode_once one other e = search (rules, tests)

pub kind_once : (one other : Kind) → kind_number one ≡ kind_number other → one ≡ other
kind_once one other e = search (rules, tests)

-- a lawful start and length
abbrev IsLawful : (start length : ℕ) → Type 0
IsLawful start length = (0 < length) × (length ≤ MAX_LENGTH) × (start + length ≤ ADDRESS_LIMIT)

made : Mode → Kind → (start length : ℕ) → IsLawful start length → Access
made mode kind start length lawful = record {
  mode = mode;
  kind = kind;
  start = start;
  length = length;
  not_empty = lawful.0;
  not_long = lawful.1;
  inside = lawful.2;
}

lawful_once : (start length : ℕ) (one other : IsLawful start length) → one ≡ other
lawful_once start length one other = let once : IsProp (IsLawful start length) = hlevel le_prop in once one other

module _ (mode : Mode) (kind : Kind) (start length : ℕ) (lawful : IsLawful start length) where
  same_length : (n : ℕ) → length ≡ n → (other : IsLawful start n)
      → made mode kind start length lawful ≡ made mode kind start n other
  same_length n e =
      let P : ℕ → Type 0 = λ n. (other : IsLawful start n)
      → made mode kind start length lawful ≡ made mode kind start n other in
      subst P e (λ other. ap (made mode kind start length) (lawful_once start length lawful other))

  same_start : (first n : ℕ) → start ≡ first → length ≡ n → (other : IsLawful first n)
      → made mode kind start length lawful ≡ made mode kind first n other
  same_start first n e d =
      let P : ℕ → Type 0 = λ first. (other : IsLawful first n)
      → made mode kind start length lawful ≡ made mode kind first n other in
      subst P e (same_length n d)

same_numbers : (one other : Access) → one.mode ≡ other.mode → one.kind ≡ other.kind → one.start ≡ other.start
    → one.length ≡ other.length → one ≡ other
unfolding made
same_numbers one other mode kind start length =
    let lawful : IsLawful one.start one.length = (one.not_empty, one.not_long, one.inside) in
    let right : IsLawful other.start other.length = (other.not_empty, other.not_long, other.inside) in
    ap (λ (m : Mode). made m one.kind one.start one.length lawful) mode
    ∙ ap (λ (k : Kind). made other.mode k one.start one.length lawful) kind
    ∙ same_start other.mode other.kind one.start one.length lawful other.start other.length start length right

pub named_once : (one other : Access) (mode kind start length : ℕ) → IsNamed one mode kind start length
    → IsNamed other mode kind start length → one ≡ other
named_once one other mode kind start length p q = search (rules, tests, same_numbers, mode_once, kind_once)
