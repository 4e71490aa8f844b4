-- What a policy means: its rows, or its fault.
use Rattle.std.specs.Prelude.{ℕ, ◌+◌, List, [], ◌∷◌, length, filter_map, Bool, false, true, ◌&&◌, ◌||◌, ◌==◌, Option}
use Rattle.std.specs.Prelude.{Some, None, Result, Ok, Err, option_map, nat_lt, nat_le, codes, bytes_eq}
use Rattle.std.specs.Prelude.{if◌then◌else◌}
use Rattle.std.specs.List.{count_by, list_any}
use Rattle.std.specs.Option.{option_or}
use Rattle.std.specs.Result.{result_ok}
use Rattle.pmp_core.specs.declared.access.Mode.{Mode}
use Rattle.pmp_core.specs.declared.access.Mode.TheVariants.{M, S, U}
use Rattle.pmp_core.specs.declared.access.Kind.{Kind}
use Rattle.pmp_core.specs.declared.access.Kind.TheVariants.{Fetch, Load, Store}
use Rattle.pmp_core.specs.declared.access.TheConstants.{ADDRESS_LIMIT}
use Rattle.pmp_text.specs.declared.policy.Demand.{Demand}
use Rattle.pmp_text.specs.declared.policy.Demand.TheVariants.{Never, Always, Held}
use Rattle.pmp_text.specs.declared.policy.Kinds.{Kinds}
use Rattle.pmp_text.specs.declared.policy.Kinds.TheVariants.{One, Any}
use Rattle.pmp_text.specs.declared.policy.Modes.{Modes}
use Rattle.pmp_text.specs.declared.policy.PolicyRow.{PolicyRow}
use Rattle.pmp_text.specs.declared.policy.row_fields.PolicyFields.{PolicyFields}
use Rattle.pmp_text.specs.declared.policy.row_fields.TheConstants.{COMMENT, NAME}
use Rattle.pmp_text.specs.declared.flaw.Flaw.{Flaw}
use Rattle.pmp_text.specs.declared.refusal.Refusal.TheVariants.{BadRow, BadAfter, PastEnd}
use Rattle.pmp_text.specs.declared.fault.Fault.{Fault}
use Rattle.pmp_text.specs.declared.moments.Asked.{Asked}
use Rattle.pmp_text.specs.AccessWords.{kind_named}
use Rattle.pmp_text.specs.Moments.{KnownMoments, asked_between, moment_said, to_said}
use Rattle.pmp_text.specs.Numbers.{is_bare, word_number}
use Rattle.pmp_text.specs.Tables.{behind_header, fault_or_rows, records_of, within_limit}
use Rattle.pmp_text.specs.Flaws.{and_then, at_row, in_part, of_part, part, as_whole}
use Rattle.pmp_text.specs.declared.fault.Source.TheVariants as source

-- ---- words

abbrev pub demand_named : List ℕ → Option Demand
demand_named word =
    if bytes_eq word (codes "never") then Some Never
    else (if bytes_eq word (codes "always") then Some Always
    else (if bytes_eq word (codes "held") then Some Held else None))

-- `any`, or one kind
abbrev pub kinds_named : List ℕ → Option Kinds
kinds_named word = if bytes_eq word (codes "any") then Some Any else option_map (λ kind. One kind) (kind_named word)

-- how often a letter occurs in a word
abbrev pub times : (letter : ℕ) → List ℕ → ℕ
times letter word = count_by (λ byte. byte == letter) word

-- at least one letter, each of them M, S or U, and none twice
abbrev pub are_modes : List ℕ → Bool
are_modes word = nat_lt 0 (length word) && (times 77 word + times 83 word + times 85 word == length word
    && (nat_le (times 77 word) 1 && (nat_le (times 83 word) 1 && nat_le (times 85 word) 1)))

-- the modes whose letters are in the word
abbrev pub modes_named : List ℕ → Option Modes
modes_named word =
    if are_modes word then Some (record {
      machine = times 77 word == 1;
      supervisor = times 83 word == 1;
      user = times 85 word == 1;
    }) else None

abbrev pub has_mode : Modes → Mode → Bool
has_mode modes M = modes.machine
has_mode modes S = modes.supervisor
has_mode modes U = modes.user

abbrev pub same_kind : Kind → Kind → Bool
same_kind Fetch Fetch = true
same_kind Load Load = true
same_kind Store Store = true
same_kind _ _ = false

-- `any` is all three
abbrev pub has_kind : Kinds → Kind → Bool
has_kind (One one) kind = same_kind one kind
has_kind Any kind = true

-- a number that is at least `least`
abbrev pub at_least : (least : ℕ) → Option ℕ → Option ℕ
at_least least None = None
at_least least (Some number) = if nat_le least number then Some number else None

-- ---- one row

-- a record's seven fields
pub record SevenFields : Type 0 where
  pub from : List ℕ
  pub to : List ℕ
  pub modes : List ℕ
  pub kind : List ℕ
  pub first : List ℕ
  pub last : List ℕ
  pub demand : List ℕ

unfoldable pub seven_fields : List (List ℕ) → Option SevenFields
seven_fields (from ∷ to ∷ modes ∷ kind ∷ first ∷ last ∷ demand ∷ []) = Some (record {
  from = from;
  to = to;
  modes = modes;
  kind = kind;
  first = first;
  last = last;
  demand = demand;
})
seven_fields _ = None

-- a record's nine fields: those seven between a name and a comment
pub record NineFields : Type 0 where
  pub name : List ℕ
  pub words : SevenFields
  pub comment : List ℕ

unfoldable pub nine_fields : List (List ℕ) → Option NineFields
nine_fields (name ∷ from ∷ to ∷ modes ∷ kind ∷ first ∷ last ∷ demand ∷ comment ∷ []) =
    option_map (λ words. record { name = name; words = words; comment = comment })
    (seven_fields (from ∷ to ∷ modes ∷ kind ∷ first ∷ last ∷ demand ∷ []))
nine_fields _ = None

-- the first record names the fields
abbrev pub names_seven : SevenFields → Bool
names_seven words = bytes_eq words.from (codes "from")
    && (bytes_eq words.to (codes "to") && (bytes_eq words.modes (codes "modes")
    && (bytes_eq words.kind (codes "kind") && (bytes_eq words.first (codes "first")
    && (bytes_eq words.last (codes "last") && bytes_eq words.demand (codes "demand"))))))

abbrev pub is_plain_header : List (List ℕ) → Bool
is_plain_header fields = elim (seven_fields fields) [ Some words ↦ names_seven words | None ↦ false ]

-- with a name before them, and a comment after them
abbrev pub is_labeled_header : List (List ℕ) → Bool
is_labeled_header fields = elim (nine_fields fields) [
  | Some all ↦
      bytes_eq all.name (codes "name") && (names_seven all.words && bytes_eq all.comment (codes "comment"))
  | None ↦ false
]

abbrev pub is_policy_header : List (List ℕ) → Bool
is_policy_header fields = is_labeled_header fields || is_plain_header fields

-- the rows of these records have names and comments
abbrev pub is_labeled : List (List (List ℕ)) → Bool
is_labeled [] = false
is_labeled (header ∷ rows) = is_labeled_header header

abbrev pub policy_fields : PolicyRow → PolicyFields
policy_fields row = record {
  from = row.from;
  to = row.to;
  modes = row.modes;
  kinds = row.kinds;
  first = row.first;
  last = row.last;
  demand = row.demand;
  coming = row.coming;
  is_bare = row.is_bare;
}

-- the moments of seven words: from which one to which
unfoldable pub moments_said : KnownMoments → SevenFields → Result Asked Flaw
moments_said moments words =
    in_part 0 (moment_said moments words.from) (λ from. in_part 1 (to_said moments from words.to) (λ to.
    Ok (asked_between moments.publications from to)))

-- their accesses: modes and kinds
unfoldable pub accesses_said : SevenFields → Result (Modes × Kinds) Flaw
accesses_said words =
    of_part 2 (modes_named words.modes) (λ modes. of_part 3 (kinds_named words.kind) (λ kinds. Ok (modes, kinds)))

-- their bytes: the first and the last
unfoldable pub bytes_said : SevenFields → Result (ℕ × ℕ) Flaw
bytes_said words =
    of_part 4 (word_number words.first) (λ first. of_part 5 (at_least first (word_number words.last)) (λ last.
    Ok (first, last)))

-- all of these, and the demand
unfoldable pub policy_of_fields : KnownMoments → SevenFields → Result PolicyFields Flaw
policy_of_fields moments words =
    and_then (moments_said moments words) (λ asked. and_then (accesses_said words) (λ (modes, kinds).
    and_then (bytes_said words) (λ (first, last). of_part 6 (demand_named words.demand) (λ demand. Ok (record {
      from = asked.from;
      to = asked.to;
      modes = modes;
      kinds = kinds;
      first = first;
      last = last;
      demand = demand;
      coming = asked.coming;
      is_bare = is_bare words.first || is_bare words.last;
    })))))

-- a name or a comment is any text without control bytes
abbrev pub is_control : (byte : ℕ) → Bool
is_control byte = nat_lt byte 32 || byte == 127

abbrev pub label_said : List ℕ → Option (List ℕ)
label_said text = if list_any is_control text then None else Some text

-- the same between a name and a comment
unfoldable pub policy_of_nine : KnownMoments → NineFields → Result PolicyFields Flaw
policy_of_nine moments all =
    of_part NAME (label_said all.name) (λ name. and_then (policy_of_fields moments all.words) (λ row.
    of_part COMMENT (label_said all.comment) (λ comment. Ok row)))

-- a record read as a row, perhaps with a name and a comment, or which part of it is wrong
abbrev pub policy_in : (labeled : Bool) → KnownMoments → List (List ℕ) → Result PolicyFields Flaw
policy_in false moments fields =
    elim (seven_fields fields) [ Some words ↦ policy_of_fields moments words | None ↦ Err (as_whole BadRow) ]
policy_in true moments fields =
    elim (nine_fields fields) [ Some all ↦ policy_of_nine moments all | None ↦ Err (as_whole BadRow) ]

abbrev pub policy_of_record : (labeled : Bool) → KnownMoments → List (List ℕ) → Option PolicyFields
policy_of_record labeled moments fields = result_ok (policy_in labeled moments fields)

-- the fault of a row's values: more publications than there are, then a last byte beyond all addresses
abbrev pub policy_fields_fault : (publications : ℕ) → PolicyFields → Option Flaw
policy_fields_fault publications row =
    if nat_lt publications row.from then Some (part 0 BadAfter)
    else (if nat_lt publications row.to then Some (part 1 BadAfter)
    else (if nat_le ADDRESS_LIMIT row.last then Some (part 5 PastEnd) else None))

-- the same for fields that may end before they begin, which is then the first fault
abbrev pub proper_fields_fault : (publications : ℕ) → PolicyFields → Option Flaw
proper_fields_fault publications row =
    if nat_lt row.to row.from then Some (part 1 BadRow)
    else (if nat_lt row.last row.first then Some (part 5 BadRow) else policy_fields_fault publications row)

-- the fault of a row; that it can't be read comes first
abbrev pub policy_row_fault : (publications : ℕ) → Result PolicyFields Flaw → Option Flaw
policy_row_fault publications (Err flaw) = Some flaw
policy_row_fault publications (Ok row) = policy_fields_fault publications row

-- ---- all rows

-- the fault of the first row that has one; the first row has this number
abbrev pub first_policy_fault : (labeled : Bool) → KnownMoments → (number : ℕ) → List (List (List ℕ))
    → Option Fault
first_policy_fault labeled moments number [] = None
first_policy_fault labeled moments number (row ∷ more) =
    option_or (option_map (at_row source.Policy number) (policy_row_fault moments.publications (policy_in labeled moments row)))
    (first_policy_fault labeled moments (number + 1) more)

-- the rows are numbered from 1
abbrev pub policy_rows_meaning : (labeled : Bool) → KnownMoments → List (List (List ℕ))
    → Result (List PolicyFields) Fault
policy_rows_meaning labeled moments rows =
    fault_or_rows (first_policy_fault labeled moments 1 rows) (filter_map (policy_of_record labeled moments) rows)

-- what a text means as a policy for a script with these moments
unfoldable pub policy_meaning : KnownMoments → List ℕ → Result (List PolicyFields) Fault
policy_meaning moments text = within_limit source.Policy
    (behind_header source.Policy is_policy_header (policy_rows_meaning (is_labeled (records_of text)) moments)) text
