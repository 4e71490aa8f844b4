-- What single writes open, event by event and publication by publication.
use Rattle.std.proofs.Common.{sym, refl, subst, ℕ, ◌+◌, List, [], ◌∷◌, ◌++◌, add-one, append-nil, append_assoc}
use Rattle.pmp_core.specs.RegisterFile.{RegisterFile}
use Rattle.pmp_text.specs.Cells.{RowValue}
use Rattle.pmp_text.specs.Contents.{ScriptContents}
use Rattle.pmp_lint.specs.declared.finding.Finding.{Finding}
use Rattle.pmp_lint.specs.Events.{Happening, file_after}
use Rattle.pmp_lint.specs.OpenBetween.{AreFoundBetween, AreOfEvents, AreOfPublication, AreOpenBetween}
use Rattle.pmp_lint.specs.Telling.{HasTold, HasToldSome, Telling}
use Rattle.pmp_lint.proofs.Telling.{then_none, told_more}

module _ {A : Type 0} (Adds : List RowValue → A → A → Type 0)
    (none : (rows : A) → Adds [] rows rows)
    (both : (one other : List RowValue) (first second third : A) → Adds one first second → Adds other second third
    → Adds (one ++ other) first third)
    (before after : RegisterFile) (all : List Happening) (start : Telling A) where
  -- those of the events so far are told, and with those of the rest they are those of all
  pub record AreToldSoFar (rest : List Happening) (now : Telling A) : Type 0 where
    pub findings : List Finding
    pub told : HasTold Adds findings start now
    pub whole : (more : List Finding) → AreOfEvents before after rest more
        → AreOfEvents before after all (findings ++ more)

  pub one_event_more : (it : Happening) (rest : List Happening) (now then : Telling A) → AreToldSoFar (it ∷ rest) now
      → HasToldSome Adds (AreFoundBetween before (file_after it) after it.line) now then → AreToldSoFar rest then
  one_event_more it rest now then are some = record {
    findings = are.findings ++ some.findings;
    told = told_more Adds none both are.findings some.findings start now then are.told some.has_told;
    whole = λ more more_are. subst (AreOfEvents before after all) (sym (append_assoc are.findings some.findings more))
        (are.whole (some.findings ++ more) (record {
          first = some.findings;
          rest = more;
          first_are = some.findings_are;
          rest_are = more_are;
          joined = refl;
        }));
  }

  pub all_events : (now : Telling A) → AreToldSoFar [] now → HasToldSome Adds (AreOfEvents before after all) start now
  all_events now are = record {
    findings = are.findings;
    findings_are = subst (AreOfEvents before after all) (append-nil are.findings) (are.whole [] refl);
    has_told = are.told;
  }

pub no_event : {A : Type 0} (Adds : List RowValue → A → A → Type 0)
    (none : (rows : A) → Adds [] rows rows)
    (both : (one other : List RowValue) (first second third : A) → Adds one first second → Adds other second third
    → Adds (one ++ other) first third)
    (before after : RegisterFile) (all : List Happening) (start : Telling A)
    → AreToldSoFar Adds none both before after all start all start
no_event Adds none both before after all start = record {
  findings = [];
  told = then_none Adds none both start;
  whole = λ more are. are;
}

-- one publication more
pub one_publication_more : {A : Type 0} (Adds : List RowValue → A → A → Type 0)
    (none : (rows : A) → Adds [] rows rows)
    (both : (one other : List RowValue) (first second third : A) → Adds one first second → Adds other second third
    → Adds (one ++ other) first third)
    (script : ScriptContents) (n : ℕ) (start now then : Telling A)
    → HasToldSome Adds (AreOpenBetween script n) start now → HasToldSome Adds (AreOfPublication script n) now then
    → HasToldSome Adds (AreOpenBetween script (n + 1)) start then
one_publication_more Adds none both script n start now then are some = rw add-one (record {
  findings = are.findings ++ some.findings;
  findings_are = record {
    first = are.findings;
    rest = some.findings;
    first_are = are.findings_are;
    rest_are = some.findings_are;
    joined = refl;
  };
  has_told = told_more Adds none both are.findings some.findings start now then are.has_told some.has_told;
})
