-- A part of an access that is allowed is decided as the whole is.
use borrow.Author.Tests.{tests}
use Rattle.std.proofs.Common.{rules, ◌≡◌, ℕ, Bool, true, sym, ap, ◌∙◌, arith}
use Rattle.std.proofs.lemmas.Bool.{false≢true}
use Rattle.pmp_core.specs.declared.access.Access.{Access}
use Rattle.pmp_core.specs.declared.access.Kind.{Kind}
use Rattle.pmp_core.specs.declared.access.Mode.{Mode}
use Rattle.pmp_core.specs.declared.decision.Cause.{Cause}
use Rattle.pmp_core.specs.declared.decision.Cause.TheVariants.{Rule, Split, NoMatch}
use Rattle.pmp_core.specs.Decision.{IsByteOf, IsDecisionBy, Touches}
use Rattle.pmp_core.specs.RegisterFile.{RegisterFile}
use Rattle.pmp_core.specs.Rights.{allows, default_rights, rights}
use Rattle.pmp_core.specs.PartsLaw.{IsPart, PartsLaw}

module _ (file : RegisterFile) (access part : Access) (is : IsPart part access) where
  inside : (byte : ℕ) → IsByteOf part byte → IsByteOf access byte
  inside byte (from, to) = let first = is.from in let last = is.to in (omega arith, omega arith)

  touched : (i : ℕ) → Touches file part i → Touches file access i
  touched i (byte, own, matches) = (byte, inside byte own, matches)

  first_byte : IsByteOf part part.start
  first_byte = let some = part.not_empty in (omega arith, omega arith)

  part_decided : (allowed : Bool) (cause : Cause) → IsDecisionBy file access allowed cause → allowed ≡ true
      → IsDecisionBy file part allowed cause
  part_decided allowed NoMatch (none, by_default) granted = (
    (λ i found. none i (touched i found)),
    by_default ∙ ap (λ (m : Mode). allows (default_rights file m) access.kind) (sym is.mode)
        ∙ ap (λ (k : Kind). allows (default_rights file part.mode) k) (sym is.kind),
  )
  part_decided allowed (Split i) (decider, lacks, refused) granted = absurd (false≢true (sym refused ∙ granted))
  part_decided allowed (Rule i) (decider, all, by_rule) granted = (
    (
      (part.start, first_byte, all part.start (inside part.start first_byte)),
      (λ j less found. decider.1 j less (touched j found)),
    ),
    (λ byte own. all byte (inside byte own)),
    by_rule ∙ ap (λ (m : Mode). allows (rights file i m) access.kind) (sym is.mode)
        ∙ ap (λ (k : Kind). allows (rights file i part.mode) k) (sym is.kind),
  )

pub parts_law : PartsLaw
parts_law file access part decision is decided granted = search (rules, tests, part_decided)
