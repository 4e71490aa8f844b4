-- Cases as JUnit's XML.
use Rattle.std.specs.Prelude.{ℕ, List, [], ◌∷◌, ◌++◌, codes, decimal, length, Bool, true, false, ◌&&◌, ◌||◌, ◌==◌, not}
use Rattle.std.specs.Prelude.{None, nat_lt, if◌then◌else◌}
use Rattle.std.specs.List.{count_by, flat_map}
use Rattle.std.specs.Str.Lossy.{utf8_lossy}
use Rattle.pmp_text.specs.Cells.{RowValue}
use Rattle.pmp_forms.specs.declared.cases.Check.{Check}
use Rattle.pmp_forms.specs.declared.cases.Check.TheVariants.{Lint, Policy}
use Rattle.pmp_forms.specs.declared.cases.Outcome.{Outcome}
use Rattle.pmp_forms.specs.declared.cases.Outcome.TheVariants.{Failed, Passed, Skipped}
use Rattle.pmp_forms.specs.Cases.{CaseSaid, SuiteSaid, cases_of, joined}

-- a control byte other than TAB, LF and CR has no place in XML
abbrev pub is_forbidden : ℕ → Bool
is_forbidden byte = nat_lt byte 32 && not ((byte == 9) || (byte == 10) || (byte == 13))

abbrev pub xml_byte : ℕ → List ℕ
xml_byte byte =
    if byte == 38 then codes "&amp;"
    else (if byte == 60 then codes "&lt;"
    else (if byte == 62 then codes "&gt;"
    else (if byte == 34 then codes "&quot;"
    else (if is_forbidden byte then codes "?" else byte ∷ []))))

-- a text as an attribute's value has it
abbrev pub xml : List ℕ → List ℕ
xml text = flat_map xml_byte (utf8_lossy text)

abbrev pub failure_text : (message : List ℕ) → List ℕ
failure_text message = joined (codes "><failure message=\"" ∷ xml message ∷ codes "\"/></testcase>\n" ∷ [])

abbrev pub ending : CaseSaid → List ℕ
ending case = elim case.outcome [
  | Passed ↦ codes "/>\n"
  | Failed ↦ failure_text case.message
  | Skipped ↦ codes "><skipped message=\"unmet\"/></testcase>\n"
]

abbrev pub opening : CaseSaid → List ℕ
opening case = joined (codes "<testcase classname=\"" ∷ xml case.path ∷ codes "\" name=\"" ∷ xml case.title
    ∷ codes "\"" ∷ [])

abbrev pub case_text : CaseSaid → List ℕ
case_text case = opening case ++ ending case

abbrev pub no_findings : (script : List ℕ) → CaseSaid
no_findings script = record {
  outcome = Passed;
  finding = None;
  number = None;
  path = script;
  title = codes "no findings";
  message = [];
}

-- a script without findings has a case that says so
abbrev pub shown : SuiteSaid → List CaseSaid → List CaseSaid
shown suite [] = elim suite.check [ Policy ↦ [] | Lint ↦ no_findings suite.script ∷ [] ]
shown suite (case ∷ cases) = case ∷ cases

abbrev pub is_same : Outcome → Outcome → Bool
is_same Passed Passed = true
is_same Failed Failed = true
is_same Skipped Skipped = true
is_same _ _ = false

abbrev pub count_of : Outcome → List CaseSaid → ℕ
count_of outcome cases = count_by (λ case. is_same outcome case.outcome) cases

abbrev pub suite_name : Check → List ℕ
suite_name Policy = codes "pmp policy"
suite_name Lint = codes "pmp lint"

abbrev pub counts_text : (name : List ℕ) → (tests failures skipped : ℕ) → List ℕ
counts_text name tests failures skipped = joined (codes "<testsuite name=\"" ∷ name ∷ codes "\" tests=\""
    ∷ decimal tests ∷ codes "\" failures=\"" ∷ decimal failures ∷ codes "\" skipped=\"" ∷ decimal skipped
    ∷ codes "\">\n" ∷ [])

abbrev pub tag_text : Check → List CaseSaid → List ℕ
tag_text check cases =
    counts_text (suite_name check) (length cases) (count_of Failed cases) (count_of Skipped cases)

abbrev pub suite_text : Check → List CaseSaid → List ℕ
suite_text check cases = joined (codes "<?xml version=\"1.0\" encoding=\"UTF-8\"?>\n<testsuites>\n"
    ∷ tag_text check cases ∷ flat_map case_text cases ∷ codes "</testsuite>\n</testsuites>\n" ∷ [])

abbrev pub junit_text : SuiteSaid → List RowValue → List ℕ
junit_text suite rows = suite_text suite.check (shown suite (cases_of suite rows))
