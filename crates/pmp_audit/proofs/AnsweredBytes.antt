-- How the bytes of an owner are answered.
use Rattle.std.proofs.Common.{◌≡◌, ◌<◌, ℕ, Bool, true, false, not, Option, Some, None, refl, sym, subst, ◌∙◌, arith}
use Rattle.std.proofs.Common.{rules, true≢false}
use Rattle.std.proofs.Math.Bool.{beq}
use Rattle.std.specs.Cmp.{booleans_Decides}
use Rattle.pmp_core.specs.Configuration.{Configuration}
use Rattle.pmp_core.specs.declared.access.Access.{Access}
use Rattle.pmp_core.specs.declared.access.Kind.{Kind}
use Rattle.pmp_core.specs.declared.access.Mode.{Mode}
use Rattle.pmp_core.specs.declared.access.Mode.TheVariants.{S, U}
use Rattle.pmp_core.specs.declared.access.TheConstants.{ADDRESS_LIMIT}
use Rattle.pmp_core.specs.declared.decision.Cause.{Cause}
use Rattle.pmp_core.specs.declared.decision.Cause.TheVariants.{NoMatch, Rule, Split}
use Rattle.pmp_core.specs.Access.{IsAccess}
use Rattle.pmp_core.specs.Decision.{IsDecider, IsDecisionBy, IsOwner}
use Rattle.pmp_core.specs.RegisterFile.{RegisterFile, entry_at}
use Rattle.pmp_core.specs.Rights.{allows, rule_rights}
use Rattle.pmp_map.specs.Answers.{owned_rights}
use Rattle.pmp_map.specs.OpenBytes.{IsAnswered, IsClosed, IsOpen}
use Rattle.pmp_map.proofs.OpenBytes.{answer_by_owner, open_byte}

module _ (file : RegisterFile) (byte : ℕ) (owner : Option ℕ) (mode : Mode) (kind : Kind) (inside : byte < ADDRESS_LIMIT)
    (owned : IsOwner file byte owner) where
  pub answered : (allowed : Bool) → allows (owned_rights file owner mode) kind ≡ allowed
      → IsAnswered file allowed mode kind byte
  answered allowed is = subst (λ (b : Bool). IsAnswered file b mode kind byte) is
      (open_byte file byte owner mode kind inside owned)

differ : (one other : Bool) → beq one other ≡ false → one ≡ not other
differ true false e = refl
differ false true e = refl
differ one other e = absurd cc

pub same_given : (one other given : Bool) → one ≡ given → beq one other ≡ true → given ≡ other
same_given one other given is e = sym is ∙ (booleans_Decides one other).0 e

pub differ_given : (one other given : Bool) → one ≡ given → beq one other ≡ false → given ≡ not other
differ_given one other given is e = sym is ∙ differ one other e

-- ---- a byte is open or closed, and not both

module _ (file : RegisterFile) (kind : Kind) (byte : ℕ) where
  -- an access of one byte is decided by the owner of that byte
  owner_by : (access : Access) (mode : Mode) (owner : Option ℕ) → IsAccess access mode kind byte 1
      → IsDecider file access owner → IsOwner file byte owner
  owner_by access mode None is none =
      λ i here. none i (byte, (omega (arith, is.start_is), omega (arith, is.start_is, is.length_is)), here)
  owner_by access mode (Some i) is ((other, within, here), least) =
      let at : other ≡ byte = omega (arith, within.0, within.1, is.start_is, is.length_is) in (
        rw at at here,
        λ j less matches.
            least j less (byte, (omega (arith, is.start_is), omega (arith, is.start_is, is.length_is)), matches),
      )

  owner_decided : (access : Access) (mode : Mode) (allowed : Bool) (cause : Cause) → IsAccess access mode kind byte 1
      → IsDecisionBy file access allowed cause → (owner : Option ℕ) × IsOwner file byte owner
  owner_decided access mode allowed NoMatch is decided = (None, owner_by access mode None is decided.0)
  owner_decided access mode allowed (Split i) is decided = (Some i, owner_by access mode (Some i) is decided.0)
  owner_decided access mode allowed (Rule i) is decided = (Some i, owner_by access mode (Some i) is decided.0)

  owner_of : (allowed : Bool) (mode : Mode) → IsAnswered file allowed mode kind byte
      → (owner : Option ℕ) × IsOwner file byte owner
  owner_of allowed mode (access, decision, is, decided, same) =
      owner_decided access mode decision.allowed decision.cause is decided

  -- of modes that every owner lets do the same
  pub never_both : (mode other : Mode)
      → ((owner : Option ℕ) → allows (owned_rights file owner other) kind ≡ allows (owned_rights file owner mode) kind)
      → IsOpen file other kind byte → IsClosed file mode kind byte → ⊥
  never_both mode other alike is_open is_closed =
      let (owner, owned) = owner_of false mode is_closed in
      true≢false (answer_by_owner file byte owner true other kind owned is_open ∙ alike owner
      ∙ sym (answer_by_owner file byte owner false mode kind owned is_closed))

rule_alike : (mml : Bool) (c : Configuration) → rule_rights mml c S ≡ rule_rights mml c U
rule_alike mml c = search rules

-- S-mode and U-mode may do the same
pub others_alike : (file : RegisterFile) (owner : Option ℕ) → owned_rights file owner S ≡ owned_rights file owner U
others_alike file None = refl
others_alike file (Some i) = rule_alike file.mseccfg.mml (entry_at file.entries i).configuration
