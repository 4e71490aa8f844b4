-- Cases as SARIF 2.1.0.
use Rattle.std.specs.Prelude.{ℕ, ◌+◌, ◌-◌, ◌^◌, List, [], ◌∷◌, ◌++◌, map, fold, max, min, codes, decimal, Option, Some, None}
use Rattle.std.specs.Prelude.{unwrap_or}
use Rattle.std.specs.List.{flat_map, range_with_len}
use Rattle.std.specs.Str.Lossy.{utf8_lossy}
use Rattle.percent_encoding.specs.Percent.{percent_encode}
use Rattle.serde_json.specs.Data.{string}
use Rattle.serde_json.specs.Written.{compact_text}
use Rattle.pmp_lint.specs.declared.lint.Lint.TheVariants.{RlbLeftOn, MmwpOff, OpenBeforeLocked, NeverDecides}
use Rattle.pmp_lint.specs.declared.lint.Lint.TheVariants.{WriteAndExecute, OpenBetween, LateWrite}
use Rattle.pmp_lint.specs.declared.lint.Lint.{Lint}
use Rattle.pmp_lint.specs.Lints.{lint_name, remedy_text, says_text}
use Rattle.pmp_forms.specs.declared.cases.Check.{Check}
use Rattle.pmp_forms.specs.declared.cases.Check.TheVariants as check
use Rattle.pmp_forms.specs.declared.cases.Outcome.{Outcome}
use Rattle.pmp_forms.specs.declared.cases.Outcome.TheVariants.{Failed, Passed, Skipped}
use Rattle.pmp_forms.specs.declared.sarif.TheConstants.{ESCAPED}
use Rattle.pmp_text.specs.Cells.{RowValue}
use Rattle.pmp_forms.specs.Cases.{CaseSaid, SuiteSaid, cases_of, joined}

unfoldable pub json_string : List ℕ → List ℕ
json_string text = compact_text (string (utf8_lossy text))

abbrev pub after_comma : List ℕ → List ℕ
after_comma text = codes ",\n" ++ text

-- elements of an array, each on a line of its own
abbrev pub elements : (texts : List (List ℕ)) → List ℕ
elements [] = []
elements (text ∷ texts) = text ++ (flat_map after_comma texts ++ codes "\n")

abbrev pub rule_text : (id description : List ℕ) → List ℕ
rule_text id description = joined (codes "{\"id\":" ∷ json_string id ∷ codes ",\"shortDescription\":{\"text\":"
    ∷ json_string description ∷ codes "}}" ∷ [])

abbrev pub lint_rule : Lint → List ℕ
lint_rule lint = rule_text (lint_name lint) (remedy_text lint)

abbrev pub lints : List Lint
lints = RlbLeftOn ∷ MmwpOff ∷ OpenBeforeLocked ∷ NeverDecides ∷ WriteAndExecute ∷ OpenBetween ∷ LateWrite ∷ []

-- the rule of a policy's row
abbrev pub row_name : (number : ℕ) → List ℕ
row_name number = codes "policy/" ++ decimal number

abbrev pub row_rule : (number : ℕ) → List ℕ
row_rule number = rule_text (row_name number) (joined (codes "Row " ∷ decimal number ∷ codes " of the policy holds." ∷ []))

-- the greatest number of a row
abbrev pub most_row : (cases : List CaseSaid) → ℕ
most_row cases = fold (λ most case. max most (unwrap_or case.number 0)) 0 cases

abbrev pub row_rules : (rows : ℕ) → List (List ℕ)
row_rules rows = map (λ index. row_rule (index + 1)) (range_with_len 0 rows)

-- a rule for each row of a policy, or for each finding that there is
abbrev pub rules_of : Check → (cases : List CaseSaid) → List (List ℕ)
rules_of check.Policy cases = row_rules (most_row cases)
rules_of check.Lint cases = map lint_rule lints

abbrev pub rule_name : CaseSaid → List ℕ
rule_name case = elim case.finding [ None ↦ row_name (unwrap_or case.number 0) | Some lint ↦ lint_name lint ]

abbrev pub level : Outcome → List ℕ
level Failed = codes "error"
level _ = codes "warning"

-- what was found, before its remedy
abbrev pub found_text : Option Lint → List ℕ
found_text None = []
found_text (Some lint) = says_text lint ++ codes " "

abbrev pub message : CaseSaid → List ℕ
message case = joined (case.title ∷ codes ": " ∷ found_text case.finding ∷ case.message ∷ [])

abbrev pub region : (line : Option ℕ) → List ℕ
region None = []
region (Some line) = joined (codes ",\"region\":{\"startLine\":" ∷ decimal line ∷ codes "}" ∷ [])

abbrev pub location : (path : List ℕ) → (line : Option ℕ) → List ℕ
location path line = joined (codes "{\"physicalLocation\":{\"artifactLocation\":{\"uri\":"
    ∷ json_string (percent_encode ESCAPED path) ∷ codes "}" ∷ region line ∷ codes "}}" ∷ [])

-- a finding is in its script
abbrev pub finding_location : CaseSaid → List ℕ
finding_location case = joined (codes ",\"locations\":[" ∷ location case.path case.number ∷ codes "]" ∷ [])

-- the line of a policy's row, where each row is one line below the header
abbrev pub line_of : Option ℕ → Option ℕ
line_of None = None
line_of (Some number) = Some (min (number + 1) (2 ^ 64 - 1))

-- a policy's row is in the policy, and about its script
abbrev pub row_location : (policy : List ℕ) → CaseSaid → List ℕ
row_location policy case = joined (codes ",\"locations\":[" ∷ location policy (line_of case.number)
    ∷ codes "],\"relatedLocations\":[" ∷ location case.path None ∷ codes "]" ∷ [])

abbrev pub locations : (policy : List ℕ) → CaseSaid → List ℕ
locations policy case = elim case.finding [ Some lint ↦ finding_location case | None ↦ row_location policy case ]

abbrev pub result_text : (policy : List ℕ) → CaseSaid → List ℕ
result_text policy case = joined (codes "{\"ruleId\":" ∷ json_string (rule_name case) ∷ codes ",\"level\":\""
    ∷ level case.outcome ∷ codes "\",\"message\":{\"text\":" ∷ json_string (message case) ∷ codes "}"
    ∷ locations policy case ∷ codes "}" ∷ [])

-- a row that holds has no result
abbrev pub results_of : (policy : List ℕ) → CaseSaid → List (List ℕ)
results_of policy case = elim case.outcome [
  | Passed ↦ []
  | Failed ↦ result_text policy case ∷ []
  | Skipped ↦ result_text policy case ∷ []
]

abbrev pub head : List ℕ
head = joined (codes "{\n\"$schema\":\"https://json.schemastore.org/sarif-2.1.0.json\",\n\"version\":\"2.1.0\",\n"
    ∷ codes "\"runs\":[{\n\"tool\":{\"driver\":{\"name\":\"pmp\",\"rules\":[\n" ∷ [])

abbrev pub log_text : (rules results : List (List ℕ)) → List ℕ
log_text rules results = joined (head ∷ elements rules ∷ codes "]}},\n\"results\":[\n" ∷ elements results
    ∷ codes "]\n}]\n}\n" ∷ [])

abbrev pub sarif_text : SuiteSaid → List RowValue → List ℕ
sarif_text suite rows = let cases = cases_of suite rows in
    log_text (rules_of suite.check cases) (flat_map (results_of suite.policy) cases)
