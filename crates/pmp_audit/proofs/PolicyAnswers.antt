-- What a policy asks of a byte is answered by its owner.
use Rattle.std.proofs.Common.{◌≡◌, ℕ, ◌<◌, Bool, true, false, not, Option, refl, sym, ap}
use Rattle.std.proofs.Common.{subst, ◌∙◌, inl, inr}
use Rattle.std.proofs.lemmas.Bool.{and_from, and_parts, false≢true, not-false, not-true, or_cases, or_left, or_right}
use Rattle.pmp_core.specs.declared.access.Kind.{Kind}
use Rattle.pmp_core.specs.declared.access.Kind.TheVariants.{Fetch, Load, Store}
use Rattle.pmp_core.specs.declared.access.Mode.{Mode}
use Rattle.pmp_core.specs.declared.access.Mode.TheVariants.{M, S, U}
use Rattle.pmp_core.specs.declared.access.TheConstants.{ADDRESS_LIMIT}
use Rattle.pmp_core.specs.Decision.{IsOwner}
use Rattle.pmp_core.specs.Matching.{Matches}
use Rattle.pmp_core.specs.RegisterFile.{RegisterFile}
use Rattle.pmp_core.proofs.Decisions.{least_once}
use Rattle.pmp_map.specs.Answers.{owned_rights}
use Rattle.pmp_map.specs.OpenBytes.{IsAnswered, holds}
use Rattle.pmp_map.proofs.OpenBytes.{answer_by_owner, open_byte}
use Rattle.pmp_text.specs.declared.policy.PolicyRow.{PolicyRow}
use Rattle.pmp_text.specs.Policies.{has_mode}
use Rattle.pmp_audit.specs.declared.policy_check.question.Question.{Question}
use Rattle.pmp_audit.specs.declared.policy_check.question.Question.TheVariants as question
use Rattle.pmp_audit.specs.PolicyCheck.{IsFound, IsNotHeld, is_broken_by}
use Rattle.pmp_audit.specs.PolicyQuestions.{IsYes, finds_in, finds_kind, finds_mode, finds_owned, is_so, is_yes}

given_so : (allowed given : Bool) → is_so allowed given ≡ true → given ≡ allowed
given_so true true so = refl
given_so false false so = refl
given_so allowed given so = absurd (false≢true so)

so_given : (allowed given : Bool) → allowed ≡ given → is_so allowed given ≡ true
so_given true given same = sym same
so_given false true same = absurd (false≢true same)
so_given false false same = refl

module _ (file : RegisterFile) (row : PolicyRow) (byte : ℕ) (owner : Option ℕ) (inside : byte < ADDRESS_LIMIT)
    (owned : IsOwner file byte owner) where
  module _ (allowed : Bool) where
    found_kind : (mode : Mode) (kind : Kind) → has_mode row.modes mode ≡ true
        → finds_kind allowed (owned_rights file owner mode) row.kinds kind ≡ true → IsFound allowed file row byte
    found_kind mode kind named finds =
        let (has, so) = and_parts _ _ finds in (
          mode,
          kind,
          named,
          has,
          subst (λ (b : Bool). IsAnswered file b mode kind byte) (given_so allowed _ so)
              (open_byte file byte owner mode kind inside owned),
        )

    found_mode : (mode : Mode) → finds_mode allowed file owner row mode ≡ true → IsFound allowed file row byte
    found_mode mode finds =
        let (named, one) = and_parts _ _ finds in
        elim (or_cases _ _ one) [
          | inl fetch ↦ found_kind mode Fetch named fetch
          | inr rest ↦ elim (or_cases _ _ rest) [
            | inl load ↦ found_kind mode Load named load
            | inr store ↦ found_kind mode Store named store
          ]
        ]

    found_owned : finds_owned allowed file owner row ≡ true → IsFound allowed file row byte
    found_owned finds = elim (or_cases _ _ finds) [
      | inl machine ↦ found_mode M machine
      | inr rest ↦ elim (or_cases _ _ rest) [
        | inl supervisor ↦ found_mode S supervisor
        | inr user ↦ found_mode U user
      ]
    ]

    finds_by_kind : (mode : Mode) (kind : Kind)
        → finds_kind allowed (owned_rights file owner mode) row.kinds kind ≡ true
        → finds_in allowed (owned_rights file owner mode) row.kinds ≡ true
    finds_by_kind mode Fetch finds = or_left _ _ finds
    finds_by_kind mode Load finds = or_right _ _ (or_left _ _ finds)
    finds_by_kind mode Store finds = or_right _ _ (or_right _ _ finds)

    finds_by_mode : (mode : Mode) → finds_mode allowed file owner row mode ≡ true
        → finds_owned allowed file owner row ≡ true
    finds_by_mode M finds = or_left _ _ finds
    finds_by_mode S finds = or_right _ _ (or_left _ _ finds)
    finds_by_mode U finds = or_right _ _ (or_right _ _ finds)

    finds_found : IsFound allowed file row byte → finds_owned allowed file owner row ≡ true
    finds_found (mode, kind, named, has, answered) =
        let so = so_given allowed _ (answer_by_owner file byte owner allowed mode kind owned answered) in
        finds_by_mode mode (and_from _ _ named (finds_by_kind mode kind (and_from _ _ has so)))

  same_owner : (other : Option ℕ) → IsOwner file byte other → other ≡ owner
  same_owner other is = least_once (λ i. Matches file i byte) other owner is owned

  loose : not (holds file owner) ≡ true → IsNotHeld file row byte
  loose free (other, is, held) =
      false≢true (sym (not-true _ free) ∙ ap (holds file) (sym (same_owner other is)) ∙ held)

  pub yes_by_owner : (asked : Question) → is_yes asked file owner row ≡ true → IsYes asked file row byte
  yes_by_owner question.IsBroken answer = found_owned (is_broken_by row.demand) answer
  yes_by_owner question.IsNotHeld answer = loose answer

  pub no_by_owner : (asked : Question) → is_yes asked file owner row ≡ false → ¬ (IsYes asked file row byte)
  no_by_owner question.IsBroken answer found = false≢true (sym answer ∙ finds_found (is_broken_by row.demand) found)
  no_by_owner question.IsNotHeld answer free = free (owner, owned, not-false _ answer)
