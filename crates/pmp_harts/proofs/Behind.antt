-- What a hart's TLB has, as its checker goes on.
use Rattle.std.proofs.Common.{◌≡◌, List, Option, fold, ap, sym, subst, ◌∙◌}
use Rattle.std.proofs.lemmas.Option.{IfSome_then}
use Rattle.pmp_core.specs.RegisterWrite.{step}
use Rattle.pmp_share.specs.declared.knowledge.Known.{Known}
use Rattle.pmp_share.specs.Batches.{StartsWith, event_count}
use Rattle.pmp_share.specs.Known.{file_of}
use Rattle.pmp_share.specs.Laws.{SameEventsLaw}
use Rattle.pmp_share.proofs.LookFacts.{starts_alike, starts_on}
use Rattle.pmp_harts.specs.declared.hart.Page.{Page}
use Rattle.pmp_harts.specs.Tlb.{IsBehind, AreBehind}

-- what a checker knows, before and after looks
abbrev pub GoesOn : Known → Known → Type 0
GoesOn old new = (new.unit ≡ old.unit) × StartsWith new.list old.list

pub goes_on_twice : (old next new : Known) → GoesOn old next → GoesOn next new → GoesOn old new
goes_on_twice old next new first second =
    (second.0 ∙ first.0, starts_on new.list next.list old.list second.1 first.1)

module _ (old new : Known) (on : GoesOn old new) where
  begins_page : (page : Page) → IsBehind old page → StartsWith new.list page.seen.value.list
  begins_page page behind = starts_on new.list old.list page.seen.value.list on.1 behind.1

  stays_behind : (page : Page) → IsBehind old page → IsBehind new page
  stays_behind page behind = (behind.0 ∙ sym on.0, begins_page page behind)

  pub stay_behind : (pages : List (Option Page)) → AreBehind old pages → AreBehind new pages
  stay_behind pages all k d lt = IfSome_then _ (all k d lt) stays_behind

  -- where as many events are known, these are the page's
  pub same_file : SameEventsLaw → (page : Page) → IsBehind old page
      → event_count new.list ≡ event_count page.seen.value.list → file_of new ≡ file_of page.seen.value
  same_file law page behind same =
      let events = law new.list page.seen.value.list (begins_page page behind) same in
      λ i. fold step ((on.0 ∙ sym behind.0) i).base (events i)

-- a page that is filled where the checker looked
pub filled : (new seen : Known) → seen ≡ new → (seen.unit ≡ new.unit) × StartsWith new.list seen.list
filled new seen is = (
  ap (λ (it : Known). it.unit) is,
  subst (λ (it : Known). StartsWith new.list it.list) (sym is) (starts_alike new.list),
)
