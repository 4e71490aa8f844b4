-- What the owners of a byte say of it is what accesses to it find.
use Rattle.std.proofs.Common.{rules, ◌≡◌, ◌∙◌, sym, ap, arith, subst, ℕ, ◌<◌, ◌≤◌, Bool, true, false, inl, inr}
use Rattle.std.proofs.Common.{IfSome, List, Option, None, Some, fold, length}
use Rattle.std.proofs.lemmas.Bool.{cases_lt, not-true}
use Rattle.std.proofs.lemmas.List.{take_all}
use Rattle.pmp_core.specs.declared.access.Kind.{Kind}
use Rattle.pmp_core.specs.declared.access.Kind.TheVariants.{Fetch, Load, Store}
use Rattle.pmp_core.specs.declared.access.Mode.{Mode}
use Rattle.pmp_core.specs.declared.access.Mode.TheVariants.{M, S, U}
use Rattle.pmp_core.specs.declared.access.TheConstants.{ADDRESS_LIMIT}
use Rattle.pmp_core.specs.declared.event.Event.{Event}
use Rattle.pmp_core.specs.declared.perms.Perms.{Perms}
use Rattle.pmp_core.specs.RegisterFile.{RegisterFile}
use Rattle.pmp_core.specs.RegisterWrite.{step}
use Rattle.pmp_core.specs.Rights.{Rights, allows, perms_of}
use Rattle.pmp_map.specs.declared.mode_rights.ModeRights.{ModeRights}
use Rattle.pmp_map.specs.Answers.{kept_rights, owned_rights}
use Rattle.pmp_map.specs.RightsRuns.{HasRights}
use Rattle.pmp_map.specs.OpenBytes.{IsAnswered}
use Rattle.pmp_map.proofs.KeptRights.{rights_kept}
use Rattle.pmp_map.proofs.OpenBytes.{answer_by_owner, open_byte}
use Rattle.pmp_text.specs.Changes.{has_right}
use Rattle.pmp_plan.specs.declared.aim.Watch.{Watch}
use Rattle.pmp_plan.specs.declared.passing.Three.{Three}
use Rattle.pmp_plan.specs.Routes.{IsSafe, StaysAs, runs}
use Rattle.pmp_plan.specs.Steps.{HaveRights, KindStays, PermsStay, RightsStay, of_mode}

right_is_bit : (rights : Rights) (kind : Kind) → has_right (perms_of rights) kind ≡ allows rights kind
right_is_bit rights kind = search rules

module _ (file : RegisterFile) (byte : ℕ) (inside : byte < ADDRESS_LIMIT) (rights : ModeRights)
    (has : HasRights file byte rights) (mode : Mode) (kind : Kind) where
  abbrev answer : Bool
  answer = has_right (kept_rights rights mode) kind

  answer_is : answer ≡ allows (owned_rights file has.0 mode) kind
  answer_is =
      ap (λ (its : ModeRights). has_right (kept_rights its mode) kind) has.2
      ∙ ap (λ (perms : Perms). has_right perms kind) (rights_kept file has.0 mode)
      ∙ right_is_bit (owned_rights file has.0 mode) kind

  pub answers : (allowed : Bool) → IsAnswered file allowed mode kind byte → answer ≡ allowed
  answers allowed is = answer_is ∙ sym (answer_by_owner file byte has.0 allowed mode kind has.1 is)

  pub answered : (allowed : Bool) → answer ≡ allowed → IsAnswered file allowed mode kind byte
  answered allowed is =
      subst (λ (it : Bool). IsAnswered file it mode kind byte) (sym answer_is ∙ is)
      (open_byte file byte has.0 mode kind inside has.1)

-- this byte stays as it is
abbrev pub StaysAt : Watch → (before during after : RegisterFile) → (byte : ℕ) → Type 0
StaysAt watch before during after byte = (mode : Mode) (kind : Kind) (allowed : Bool) → runs watch mode ≡ true
    → (allowed ≡ true → watch.keeps_open ≡ true)
    → IsAnswered before allowed mode kind byte → IsAnswered after allowed mode kind byte
    → IsAnswered during allowed mode kind byte

module _ (watch : Watch) (before during after : RegisterFile) (byte : ℕ) (inside : byte < ADDRESS_LIMIT)
    (rights : Three ModeRights) (have : HaveRights before during after byte rights) where
  pub stays_here : RightsStay watch rights → StaysAt watch before during after byte
  stays_here stays mode kind allowed may kept earlier later =
      answered during byte inside rights.during have.meanwhile mode kind allowed
      (stays mode may kind allowed kept
      (answers before byte inside rights.before have.earlier mode kind allowed earlier)
      (answers after byte inside rights.after have.later mode kind allowed later))

  pub rights_stay_here : StaysAt watch before during after byte → RightsStay watch rights
  rights_stay_here stays mode may kind allowed kept earlier later =
      answers during byte inside rights.during have.meanwhile mode kind allowed
      (stays mode kind allowed may kept
      (answered before byte inside rights.before have.earlier mode kind allowed earlier)
      (answered after byte inside rights.after have.later mode kind allowed later))

-- if it is so for each kind, and for each mode
pub kinds_stay : (watch : Watch) (perms : Three Perms) → KindStays watch perms Load → KindStays watch perms Store
    → KindStays watch perms Fetch → PermsStay watch perms
kinds_stay watch perms load store fetch Load = load
kinds_stay watch perms load store fetch Store = store
kinds_stay watch perms load store fetch Fetch = fetch

pub modes_stay : (watch : Watch) (rights : Three ModeRights) → PermsStay watch (of_mode rights M)
    → (watch.is_machine_alone ≡ false → PermsStay watch (of_mode rights U)) → RightsStay watch rights
modes_stay watch rights machine others M may = machine
modes_stay watch rights machine others S may = others (not-true watch.is_machine_alone may)
modes_stay watch rights machine others U may = others (not-true watch.is_machine_alone may)

-- before the first write and after the last
pub first_stays : (watch : Watch) (start after : RegisterFile) → StaysAs watch start start after
first_stays watch start after byte mode kind allowed inside may kept earlier later = earlier

pub last_stays : (watch : Watch) (start after : RegisterFile) → StaysAs watch start after after
last_stays watch start after byte mode kind allowed inside may kept earlier later = later

-- so one write is safe, and none
safe_at_once : (watch : Watch) (start : RegisterFile) (writes : List Event) → length writes ≤ 1
    → IsSafe watch start writes
safe_at_once watch start writes few done = elim (cases_lt done 1) [
  | inl before ↦
      let none : done ≡ 0 = omega (arith, before) in rw none (first_stays watch start (fold step start writes))
  | inr all ↦
      rw (take_all done writes (omega (arith, few, all))) (last_stays watch start (fold step start writes))
]

pub safe_as_asked : (watch : Option Watch) (start : RegisterFile) (writes : List Event) → length writes ≤ 1
    → IfSome watch (λ watch. IsSafe watch start writes)
safe_as_asked None start writes few = tt
safe_as_asked (Some watch) start writes few = safe_at_once watch start writes few
