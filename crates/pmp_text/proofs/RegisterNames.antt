-- Reading a register's written name gives the register.
use Rattle.std.proofs.Common.{◌≡◌, ℕ, ◌+◌, ◌-◌, ◌≤◌, ◌<◌, ◌==◌, ◌⊎◌, Bool, true, false, Result, Ok, Err, refl, ap}
use Rattle.std.proofs.Common.{arith, inl, inr, subst}
use Rattle.std.proofs.lemmas.Bool.{agree_below, agree_below_at, eqb-true}
use Rattle.std.specs.Fmt.{digits}
use Rattle.std.proofs.lemmas.Grind.{common_steps}
use Rattle.pmp_core.specs.declared.csr.Csr.{Csr}
use Rattle.pmp_core.specs.declared.csr.Csr.TheVariants.{Cfg, Addr, Mseccfg, Mseccfgh}
use Rattle.pmp_core.specs.declared.csr.CsrFault.{CsrFault}
use Rattle.pmp_core.specs.Csr.{numbered_on}
use Rattle.pmp_text.specs.declared.refusal.Refusal.{Refusal}
use Rattle.pmp_text.specs.Names.{register_name, register_named, register_number, plain_number}
use Rattle.pmp_text.specs.Numbers.{numeral, is_numeral}

-- the answer is this register
is_answer : Csr → Result Csr Refusal → Bool
is_answer csr (Err kind) = false
is_answer (Cfg number) (Ok (Cfg other)) = other == number
is_answer (Addr number) (Ok (Addr other)) = other == number
is_answer Mseccfg (Ok Mseccfg) = true
is_answer Mseccfgh (Ok Mseccfgh) = true
is_answer _ (Ok _) = false

answered : (csr : Csr) (answer : Result Csr Refusal) → is_answer csr answer ≡ true → answer ≡ Ok csr
unfolding is_answer
answered csr (Err kind) e = cc
answered (Cfg number) (Ok (Cfg other)) e = ap (λ n. Ok (Cfg n)) (eqb-true other number e)
answered (Cfg number) (Ok (Addr other)) e = cc
answered (Cfg number) (Ok Mseccfg) e = cc
answered (Cfg number) (Ok Mseccfgh) e = cc
answered (Addr number) (Ok (Addr other)) e = ap (λ n. Ok (Addr n)) (eqb-true other number e)
answered (Addr number) (Ok (Cfg other)) e = cc
answered (Addr number) (Ok Mseccfg) e = cc
answered (Addr number) (Ok Mseccfgh) e = cc
answered Mseccfg (Ok Mseccfg) e = refl
answered Mseccfg (Ok (Cfg other)) e = cc
answered Mseccfg (Ok (Addr other)) e = cc
answered Mseccfg (Ok Mseccfgh) e = cc
answered Mseccfgh (Ok Mseccfgh) e = refl
answered Mseccfgh (Ok (Cfg other)) e = cc
answered Mseccfgh (Ok (Addr other)) e = cc
answered Mseccfgh (Ok Mseccfg) e = cc

-- the register with a number, if there is one, is read by its name
is_read_back : (is_rv32 : Bool) → Result Csr CsrFault → Bool
is_read_back is_rv32 (Err fault) = true
is_read_back is_rv32 (Ok csr) = is_answer csr (register_named is_rv32 (register_name csr))

pmp_read_back : (is_rv32 : Bool)
    → agree_below (λ place. is_read_back is_rv32 (numbered_on is_rv32 (0x3a0 + place))) (λ _. true) 80 ≡ true
unfolding is_read_back is_answer register_number plain_number numeral is_numeral digits
pmp_read_back false = refl
pmp_read_back true = refl

mseccfg_read_back : (is_rv32 : Bool) → is_read_back is_rv32 (numbered_on is_rv32 0x747) ≡ true
unfolding is_read_back is_answer register_number
mseccfg_read_back false = refl
mseccfg_read_back true = refl

mseccfgh_read_back : (is_rv32 : Bool) → is_read_back is_rv32 (numbered_on is_rv32 0x757) ≡ true
unfolding is_read_back is_answer register_number
mseccfgh_read_back false = refl
mseccfgh_read_back true = refl

-- where registers are
numbers_of : (is_rv32 : Bool) (number : ℕ) (csr : Csr) → numbered_on is_rv32 number ≡ Ok csr
    → ((0x3a0 ≤ number) × (number < 0x3f0)) ⊎ ((number ≡ 0x747) ⊎ (number ≡ 0x757))
numbers_of is_rv32 number csr e = grind (arith, common_steps)

module _ (is_rv32 : Bool) (number : ℕ) (csr : Csr) (e : numbered_on is_rv32 number ≡ Ok csr) where
  each_read_back : is_read_back is_rv32 (numbered_on is_rv32 number) ≡ true
  each_read_back = elim (numbers_of is_rv32 number csr e) [
    | inl between ↦
        let place : 0x3a0 + (number - 0x3a0) ≡ number = omega (arith, between) in
        subst (λ n. is_read_back is_rv32 (numbered_on is_rv32 n) ≡ true) place
        (agree_below_at (λ place. is_read_back is_rv32 (numbered_on is_rv32 (0x3a0 + place))) (λ _. true) 80 (number - 0x3a0)
        (pmp_read_back is_rv32) (omega (arith, between)))
    | inr (inl same) ↦ rw same (mseccfg_read_back is_rv32)
    | inr (inr same) ↦ rw same (mseccfgh_read_back is_rv32)
  ]

  pub read_back : register_named is_rv32 (register_name csr) ≡ Ok csr
  unfolding is_read_back
  read_back = answered csr (register_named is_rv32 (register_name csr))
      (subst (λ answer. is_read_back is_rv32 answer ≡ true) e each_read_back)
