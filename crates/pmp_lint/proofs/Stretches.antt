-- Ranges of bytes that a write opens, while they are found.
use Rattle.std.proofs.Common.{◌≡◌, ◌∙◌, sym, refl, ap, ℕ, ◌+◌, ◌≤◌, Bool, List, [], ◌∷◌, ◌++◌, arith, inl, inr, rules}
use Rattle.std.proofs.Common.{append-nil}
use Rattle.std.specs.Option.{option_to_list}
use Rattle.std.proofs.lemmas.Bool.{cases_lt}
use Rattle.std.proofs.lemmas.List.Concat.{flat_map-append}
use Rattle.pmp_core.specs.declared.access.TheConstants.{ADDRESS_LIMIT}
use Rattle.pmp_core.specs.RegisterFile.{RegisterFile}
use Rattle.pmp_core.proofs.Decisions.{least_once}
use Rattle.pmp_map.specs.declared.mode_rights.ModeRights.{ModeRights}
use Rattle.pmp_map.specs.RightsRuns.{HasRights}
use Rattle.pmp_lint.specs.declared.finding.Finding.{Finding}
use Rattle.pmp_lint.specs.declared.stretch.Stretch.{Stretch}
use Rattle.pmp_lint.specs.OpenBetween.{AreFoundBetween, AreStretchesFrom, IsOpened, IsStretch, of_stretches, open_between, opens}
use Rattle.pmp_text.specs.Cells.{RowValue}
use Rattle.pmp_lint.specs.Telling.{HasTold, HasToldSome, Telling}
use Rattle.pmp_lint.proofs.Telling.{then_none, told_more}

-- a byte has one set of rights in a file
once : (file : RegisterFile) (byte : ℕ) (one other : ModeRights) → HasRights file byte one → HasRights file byte other
    → one ≡ other
once file byte one other here there = search (rules, least_once)

module _ (before during after : RegisterFile) where
  -- it is opened or it isn't
  pub opened_once : (byte : ℕ) (one other : Bool) → IsOpened before during after byte one
      → IsOpened before during after byte other → one ≡ other
  opened_once byte one other p q =
      let earlier = once before byte p.earlier q.earlier p.earlier_are q.earlier_are in
      let meanwhile = once during byte p.meanwhile q.meanwhile p.meanwhile_are q.meanwhile_are in
      let later = once after byte p.later q.later p.later_are q.later_are in
      p.is_so
      ∙ ap (λ (rights : ModeRights). opens rights.others p.meanwhile.others p.later.others) earlier
      ∙ ap (λ (rights : ModeRights). opens q.earlier.others rights.others p.later.others) meanwhile
      ∙ ap (λ (rights : ModeRights). opens q.earlier.others q.meanwhile.others rights.others) later
      ∙ sym q.is_so

  -- all bytes of these are alike
  abbrev pub AreAlike : (first last : ℕ) → Bool → Type 0
  AreAlike first last is = (byte : ℕ) → first ≤ byte → byte ≤ last → IsOpened before during after byte is

  pub alike_more : (first last next : ℕ) (is : Bool) → AreAlike first last is → AreAlike (last + 1) next is
      → AreAlike first next is
  alike_more first last next is here there byte from to = elim (cases_lt last byte) [
    | inr le ↦ here byte from le
    | inl past ↦ there byte (omega (arith, past)) to
  ]

  one_stretch_more : (first end : ℕ) (stretches : List Stretch) (stretch : Stretch)
      → AreStretchesFrom before during after first end stretches → stretch.first ≡ end
      → IsStretch before during after stretch
      → AreStretchesFrom before during after first (stretch.last + 1) (stretches ++ stretch ∷ [])
  one_stretch_more first end [] stretch are begins is = (begins ∙ sym are, is, refl)
  one_stretch_more first end (one ∷ stretches) stretch are begins is =
      (are.0, are.1, one_stretch_more (one.last + 1) end stretches stretch are.2 begins is)

  module _ {A : Type 0} (Adds : List RowValue → A → A → Type 0)
      (none : (rows : A) → Adds [] rows rows)
      (both : (one other : List RowValue) (first second third : A) → Adds one first second → Adds other second third
      → Adds (one ++ other) first third) (line : ℕ) where
    abbrev finding_of : Stretch → List Finding
    finding_of stretch = option_to_list (open_between line stretch)

    -- the findings of the bytes below this one are told
    pub record AreToldTo (start : Telling A) (first : ℕ) (now : Telling A) : Type 0 where
      pub inside : first ≤ ADDRESS_LIMIT
      pub stretches : List Stretch
      pub stretches_are : AreStretchesFrom before during after 0 first stretches
      pub told : HasTold Adds (of_stretches line stretches) start now

    pub none_told : (start : Telling A) → AreToldTo start 0 start
    none_told start = record {
      inside = omega arith;
      stretches = [];
      stretches_are = refl;
      told = then_none Adds none both start;
    }

    found_more : (stretches : List Stretch) (stretch : Stretch) → of_stretches line (stretches ++ stretch ∷ [])
        ≡ of_stretches line stretches ++ finding_of stretch
    found_more stretches stretch =
        flat_map-append finding_of stretches (stretch ∷ [])
        ∙ ap (λ l. of_stretches line stretches ++ l) (append-nil (finding_of stretch))

    pub one_more_told : (start now then : Telling A) (first : ℕ) (stretch : Stretch) → AreToldTo start first now
        → stretch.first ≡ first → IsStretch before during after stretch → HasTold Adds (finding_of stretch) now then
        → AreToldTo start (stretch.last + 1) then
    one_more_told start now then first stretch are begins is told = record {
      inside = omega (arith, is.below);
      stretches = are.stretches ++ stretch ∷ [];
      stretches_are = one_stretch_more 0 first are.stretches stretch are.stretches_are begins is;
      told = rw (found_more are.stretches stretch) (told_more Adds none both (of_stretches line are.stretches)
          (finding_of stretch) start now then are.told told);
    }

    pub all_told : (start now : Telling A) (first : ℕ) → AreToldTo start first now → first ≡ ADDRESS_LIMIT
        → HasToldSome Adds (AreFoundBetween before during after line) start now
    all_told start now first are whole = record {
      findings = of_stretches line are.stretches;
      findings_are = record {
        stretches = are.stretches;
        stretches_are = rw whole at are.stretches_are;
        found = refl;
      };
      has_told = are.told;
    }
