-- What a register file gives to a byte is what its owner gives.
use Rattle.std.proofs.Common.{◌≡◌, ◌∙◌, sym, ap, ℕ, ◌≤◌, true, Option}
use Rattle.std.proofs.lemmas.Bool.{and_from, and_parts, le-leb, leb-true}
use Rattle.pmp_core.specs.Decision.{IsOwner}
use Rattle.pmp_core.specs.Matching.{Matches}
use Rattle.pmp_core.specs.RegisterFile.{RegisterFile}
use Rattle.pmp_core.proofs.Decisions.{least_once}
use Rattle.pmp_map.specs.Answers.{rights_by}
use Rattle.pmp_map.specs.OpenBytes.{holds}
use Rattle.pmp_plan.specs.declared.plan_row.Demand.{Demand}
use Rattle.pmp_plan.specs.declared.plan_row.PlanRow.{PlanRow}
use Rattle.pmp_plan.specs.Plans.{Gives, is_in}
use Rattle.pmp_plan.specs.Walks.{OwnerGives}

module _ (file : RegisterFile) (byte : ℕ) (owner : Option ℕ) (owned : IsOwner file byte owner) (demand : Demand) where
  pub given_by_owner : OwnerGives file owner demand → Gives file demand byte
  given_by_owner gives = record {
    rights = (owner, owned, sym gives.rights);
    held = λ locked. (owner, owned, gives.held locked);
  }

  same_owner : (other : Option ℕ) → IsOwner file byte other → other ≡ owner
  same_owner other is = least_once (λ i. Matches file i byte) other owner is owned

  pub given_of_owner : Gives file demand byte → OwnerGives file owner demand
  given_of_owner gives =
      let (other, is, rights) = gives.rights in record {
        rights = sym (rights ∙ ap (rights_by file) (same_owner other is));
        held = λ locked.
            let (another, here, held) = gives.held locked in
            sym (ap (holds file) (same_owner another here)) ∙ held;
      }

-- a row has the bytes between its first and its last
pub in_row : (row : PlanRow) (byte : ℕ) → row.first ≤ byte → byte ≤ row.last → is_in byte row ≡ true
in_row row byte from to = and_from _ _ (le-leb row.first byte from) (le-leb byte row.last to)

pub row_has : (row : PlanRow) (byte : ℕ) → is_in byte row ≡ true → (row.first ≤ byte) × (byte ≤ row.last)
row_has row byte is =
    let (from, to) = and_parts _ _ is in (leb-true row.first byte from, leb-true byte row.last to)
