-- Each step keeps the running rule.
use Rattle.std.proofs.Common.{◌≡◌, ◌≢◌, ℕ, List, [], ◌∷◌, ◌++◌, Option, Some, None, set, refl, ap, sym, subst, ◌∙◌}
use Rattle.std.proofs.Common.{⊎_elim}
use mathlib.Core.Option.{some}
use lib.ListN.{get_elem?}
use Rattle.atomic_table.proofs.Lists.{at_set, at_snoc, set_again, set_else}
use Rattle.left_right.specs.Register.{Admits, Turns, TurnsAt, Forks, Merges}
use Rattle.pmp_share.specs.declared.logged_batch.LoggedBatch.{LoggedBatch}
use Rattle.pmp_share.specs.declared.knowledge.Known.{Known}
use Rattle.pmp_share.specs.declared.version_state.VersionState.{VersionState}
use Rattle.pmp_share.specs.declared.version.Version.{Version}
use Rattle.pmp_share.specs.Batches.{Batches, StartsWith}
use Rattle.pmp_share.specs.Rule.{known_of, unit_of, Fits, Kept, Enters, Shown}
use Rattle.pmp_share.specs.WriterStates.{state_of, after}
use Rattle.pmp_share.proofs.LookFacts.{starts_alike, starts_on}

-- what is all of a version fits it
all_fits : (version : Version) → Fits version (Some (known_of version))
all_fits version = (refl, starts_alike version.journal)

-- a view changes at one seat
set_fits : (version : Version) (seat : ℕ) (views : List (Option Known)) (new : Option Known) → Fits version new
    → ((j : ℕ) (view : Option Known) → j ≢ seat → get_elem? views j ≡ some view → Fits version view)
    → (j : ℕ) (view : Option Known) → get_elem? (set views seat new) j ≡ some view → Fits version view
set_fits version seat views new here others j view at = ⊎_elim
    (λ (same : (j ≡ seat) × (new ≡ view)). subst (Fits version) same.1 here)
    (λ (other : (j ≢ seat) × (get_elem? views j ≡ some view)). others j view other.0 other.1)
    (at_set views seat j new view at)

-- a view comes in behind the others
snoc_fits : (version : Version) (views : List (Option Known)) (new : Option Known) → Fits version new
    → ((j : ℕ) (view : Option Known) → get_elem? views j ≡ some view → Fits version view)
    → (j : ℕ) (view : Option Known) → get_elem? (views ++ new ∷ []) j ≡ some view → Fits version view
snoc_fits version views new here others j view at = ⊎_elim (λ (old : get_elem? views j ≡ some view). others j view old)
    (λ (same : new ≡ view). subst (Fits version) same here) (at_snoc views new view j at)

pub admits : Admits Kept None
admits version views kept = record { noted = kept.noted; fits = snoc_fits version views None tt kept.fits }

pub looks : (seat : ℕ) (view : Option Known) → Turns Kept seat view (λ version. version) Enters
looks seat view version views kept at = (
  Some (known_of version),
  record {
    noted = kept.noted;
    fits = set_fits version seat views (Some (known_of version)) (all_fits version)
        (λ j v other there. kept.fits j v there);
  },
  (kept.fits seat view at, kept.noted, refl),
)

-- what fits a version fits each that begins with it
fits_later : (now next : Version) → unit_of next ≡ unit_of now → StartsWith next.journal now.journal
    → (view : Option Known) → Fits now view → Fits next view
fits_later now next unit begins None fits = tt
fits_later now next unit begins (Some view) fits =
    (fits.0 ∙ sym unit, starts_on next.journal now.journal view.list begins fits.1)

pub shows : (seat : ℕ) (view : Option Known) (now next : Version) → unit_of next ≡ unit_of now
    → next.history.log ≡ next.journal → StartsWith next.journal now.journal → TurnsAt Kept seat view now next Shown
shows seat view now next unit noted begins views kept at = (
  Some (known_of next),
  record {
    noted = noted;
    fits = set_fits next seat views (Some (known_of next)) (all_fits next)
        (λ j v other there. fits_later now next unit begins v (kept.fits j v there));
  },
  refl,
)

-- the next version is one with this told of it
pub shows_told : (seat : ℕ) (view : Option Known) (now : Version) (told : VersionState) → told.unit ≡ unit_of now
    → told.log ≡ told.batches → StartsWith told.batches now.journal
    → (next : Version) → state_of next ≡ told → TurnsAt Kept seat view now next Shown
shows_told seat view now told unit noted begins next is = shows seat view now next (ap (λ t. t.unit) is ∙ unit)
    (ap (λ t. t.log) is ∙ noted ∙ sym (ap (λ t. t.batches) is))
    (subst (λ (b : Batches). StartsWith b now.journal) (sym (ap (λ t. t.batches) is)) begins)

-- nothing was handed over
pub shows_none : (seat : ℕ) (view : Option Known) (now : Version) (entries : List LoggedBatch) → entries ≡ []
    → now.history.log ≡ now.journal → (next : Version) → state_of next ≡ after now entries
    → TurnsAt Kept seat view now next Shown
shows_none seat view now entries none noted next is = shows_told seat view now (state_of now) refl noted
    (starts_alike now.journal) next (is ∙ ap (after now) none)

pub tells : (seat : ℕ) (view : Option Known) → Forks Kept seat view view view
tells seat view version views kept at = record {
  noted = kept.noted;
  fits = snoc_fits version (set views seat view) view (kept.fits seat view at)
      (λ j v there. kept.fits j v (subst (λ l. get_elem? l j ≡ some v) (set_again views seat view at) there));
}

pub hears : (seat other : ℕ) (told : Option Known) → Merges Kept seat None other told told None
hears seat other told version views kept at distinct there =
    let fits : Fits version told =
    kept.fits other told (subst (λ m. m ≡ some told) (set_else views seat other told distinct) there) in record {
      noted = kept.noted;
      fits = set_fits version other (set views seat told) None tt
          (λ j v _ here. set_fits version seat views told fits (λ i u _ was. kept.fits i u was) j v here);
    }
