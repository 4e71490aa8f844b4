-- What the publisher's side keeps.
use Rattle.std.proofs.Common.{◌≡◌, Bool, false, List, [], ◌∷◌, ◌++◌, Option, Some, Result, Ok, Err, MatchResult, ap}
use Rattle.std.proofs.Common.{refl, sym, subst, ◌∙◌}
use Rattle.std.proofs.lemmas.List.Sums.{fold-append}
use Rattle.pmp_share.specs.declared.logged_batch.LoggedBatch.{LoggedBatch}
use Rattle.pmp_share.specs.declared.version_state.VersionState.{VersionState}
use Rattle.pmp_share.specs.declared.version.Version.{Version}
use Rattle.pmp_share.specs.declared.knowledge.Known.{Known}
use Rattle.pmp_share.specs.Known.{known}
use Rattle.pmp_share.specs.Rule.{known_of}
use Rattle.pmp_share.specs.WriterStates.{state_of, after, IsWriterState}
use Rattle.pmp_share.specs.Tokens.{unit_with}
use Rattle.pmp_share.specs.Versions.{applied}
use Rattle.pmp_share.proofs.LookFacts.{starts_alike, starts_on}

-- what is said of an answer, where it is Ok
pub match_ok : {A E : Type 0} (result : Result A E) (P : A → Type 0) (Q : E → Type 0) (value : A) → result ≡ Ok value
    → MatchResult result P Q → P value
match_ok result P Q value is said = subst (λ (r : Result _ _). MatchResult r P Q) is said

-- after a publication, with nothing handed over
pub turned : (recorder : Known) (ahead : Bool) (view : Option Known) (shown : Version) (next : VersionState)
    (entries : List LoggedBatch) → state_of shown ≡ next → entries ≡ [] → view ≡ Some (known_of shown)
    → next.unit ≡ recorder.unit → next.log ≡ next.batches → (ahead ≡ false → recorder.list ≡ next.batches)
    → IsWriterState recorder ahead view shown (after shown entries)
turned recorder ahead view shown next entries is none seen unit noted history =
    subst (λ (told : VersionState). IsWriterState recorder ahead view shown told) (ap (after shown) (sym none)) record {
      seated = seen ∙ ap (λ u. Some (known u shown.journal)) (ap (λ t. t.unit) is ∙ unit);
      unit = ap (λ t. t.unit) is ∙ unit;
      noted = ap (λ t. t.log) is ∙ noted ∙ sym (ap (λ t. t.batches) is);
      next_unit = ap (λ t. t.unit) is ∙ unit;
      next_noted = ap (λ t. t.log) is ∙ noted ∙ sym (ap (λ t. t.batches) is);
      begins = starts_alike shown.journal;
      history = λ no. history no ∙ sym (ap (λ t. t.batches) is);
    }

-- after a publication, or where it was refused
pub turned_or_not : {A E : Type 0} (result : Result A E) (recorder : Known) (ahead : Bool)
    (view after_view : Option Known) (shown next : Version) (entries rest : List LoggedBatch)
    → IsWriterState recorder ahead view shown (after shown entries)
    → MatchResult result (λ _. (state_of next ≡ after shown entries) × (rest ≡ []))
    (λ _. (next ≡ shown) × (rest ≡ entries))
    → MatchResult result (λ _. after_view ≡ Some (known_of next)) (λ _. after_view ≡ view)
    → IsWriterState recorder ahead after_view next (after next rest)
turned_or_not (Ok _) recorder ahead view after_view shown next entries rest was values seen =
    turned recorder ahead after_view next (after shown entries) rest values.0 values.1 seen was.next_unit was.next_noted
    was.history
turned_or_not (Err _) recorder ahead view after_view shown next entries rest was values seen =
    rw (seen, values.0, values.1) was

-- one batch more is handed over, with the recorder's history, which ends in it
pub handed_more : (recorder : Known) (ahead : Bool) (view : Option Known) (shown : Version)
    (entries rest : List LoggedBatch) (logged : LoggedBatch)
    → IsWriterState recorder ahead view shown (after shown entries) → rest ≡ entries ++ logged ∷ []
    → logged.history.log ≡ recorder.list → unit_with logged.history.book recorder.unit.base ≡ recorder.unit
    → recorder.list ≡ (after shown entries).batches ++ logged.events.items ∷ []
    → IsWriterState recorder false view shown (after shown rest)
handed_more recorder ahead view shown entries rest logged was more noted unit list =
    let next = after shown entries in
    let told : after shown rest ≡ applied next logged =
    ap (after shown) more ∙ fold-append applied (state_of shown) entries (logged ∷ []) in
    subst (IsWriterState recorder false view shown) (sym told) record {
      seated = was.seated;
      unit = was.unit;
      noted = was.noted;
      next_unit = ap (λ u. unit_with logged.history.book u.base) was.next_unit ∙ unit;
      next_noted = noted ∙ list;
      begins = starts_on (next.batches ++ logged.events.items ∷ []) next.batches shown.journal
          (logged.events.items ∷ [], refl) was.begins;
      history = λ _. list;
    }
