-- What the words of the command line say that clap found.
use Rattle.std.specs.Prelude.{ℕ, List, [], ◌∷◌, Bool, true, false, ◌&&◌, ◌==◌, nat_le, nat_lt, Option, Some, None}
use Rattle.std.specs.Prelude.{is_some}
use Rattle.std.specs.Prelude.{Result, Ok, Err, codes, if◌then◌else◌, option_and_then, option_map, position}
use Rattle.std.specs.Option.{ok_or, option_map_or}
use Rattle.std.specs.Str.{bytes_eq}
use Rattle.clap.specs.Words.{Row, Text, first_of}
use Rattle.pmp_text.specs.declared.lines.changes.Only.{Only}
use Rattle.pmp_text.specs.declared.lines.changes.Only.TheVariants.{More, Less}
use Rattle.pmp_text.specs.Numbers.{is_bare, word_number}
use Rattle.pmp_tool.specs.declared.argument.Argument.{Argument}
use Rattle.pmp_tool.specs.declared.expected.Expected.{Expected}
use Rattle.pmp_tool.specs.declared.expected.Expected.TheVariants.{Allow, Fault}
use Rattle.pmp_text.specs.declared.refusal.Refusal.{Refusal}
use Rattle.pmp_text.specs.declared.refusal.Refusal.TheVariants.{BadWord}
use Rattle.pmp_tool.specs.declared.fault_line.FaultLine.{FaultLine}
use Rattle.pmp_tool.specs.declared.word.Grain.{Grain}
use Rattle.pmp_tool.specs.declared.word.Smepmp.{Smepmp}
use Rattle.pmp_tool.specs.declared.word.Xlen.{Xlen}
use Rattle.pmp_tool.specs.Arguments.{id_of}
use Rattle.pmp_text.specs.FaultPlaces.{somewhere}

-- the answer that a word names
abbrev pub expected_named : Text → Option Expected
expected_named word =
    if bytes_eq word (codes "allow") then Some Allow
    else (if bytes_eq word (codes "fault") then Some Fault else None)

-- the changes that a word names
abbrev pub only_named : Text → Option Only
only_named word =
    if bytes_eq word (codes "more") then Some More
    else (if bytes_eq word (codes "less") then Some Less else None)

-- the XLEN that a word names
abbrev pub xlen_named : Text → Option Xlen
xlen_named word =
    if bytes_eq word (codes "32") then Some (record { is_rv32 = true })
    else (if bytes_eq word (codes "64") then Some (record { is_rv32 = false }) else None)

-- that there is Smepmp, or none
abbrev pub smepmp_named : Text → Option Smepmp
smepmp_named word =
    if bytes_eq word (codes "yes") then Some (record { is_there = true })
    else (if bytes_eq word (codes "no") then Some (record { is_there = false }) else None)

-- the number that a word says, where it has eight bits
abbrev pub below_256 : ℕ → Option ℕ
below_256 number = if nat_lt number 256 then Some number else None

abbrev pub byte_named : Text → Option ℕ
byte_named word = option_and_then below_256 (word_number word)

-- G of a grain of so many bytes: it has 2^(G+2), from 4 to 4096 (3.7.1.1)
abbrev pub place_of : (bytes : ℕ) → Option ℕ
place_of bytes =
    position (λ grain. grain == bytes)
    (4 ∷ 8 ∷ 16 ∷ 32 ∷ 64 ∷ 128 ∷ 256 ∷ 512 ∷ 1024 ∷ 2048 ∷ 4096 ∷ [])

-- the grain that a word says in bytes
abbrev pub grain_named : Text → Option Grain
grain_named word =
    option_and_then (λ bytes. option_map (λ place. record { place = place }) (place_of bytes)) (word_number word)

-- a refusal of no single word
abbrev pub of_no_word : Refusal → FaultLine
of_no_word refusal = record { fault = somewhere refusal; argument = None }

-- a word of the command line is refused
abbrev pub of_word : Argument → Refusal → FaultLine
of_word argument refusal = record { fault = somewhere refusal; argument = Some argument }

-- an argument's word isn't of its form
abbrev pub bad_word : Argument → FaultLine
bad_word argument = of_word argument BadWord

abbrev pub result_map : {X Y : Type 0} → (X → Y) → Result X FaultLine → Result Y FaultLine
result_map view (Ok x) = Ok (view x)
result_map view (Err fault) = Err fault

-- one thing after another: what is refused first is refused
abbrev pub and_then : {X Y : Type 0} → Result X FaultLine → (X → Result Y FaultLine) → Result Y FaultLine
and_then (Ok value) next = next value
and_then (Err fault) next = Err fault

abbrev pub word_in : Argument → List Row → Option Text
word_in argument rows = first_of (id_of argument) rows

-- an option is used
abbrev pub is_used : Argument → List Row → Bool
is_used argument rows = is_some (word_in argument rows)

-- clap finds the word `true` for an option without a word that is used
abbrev pub is_set : Argument → List Row → Bool
is_set argument rows = option_map_or (λ word. bytes_eq word (codes "true")) (word_in argument rows) false

-- a word is the path of standard input
abbrev pub is_stdin : Argument → List Row → Bool
is_stdin argument rows = option_map_or (λ word. bytes_eq word (codes "stdin")) (word_in argument rows) false

-- a word has 14 digits and no `0x`
abbrev pub is_bare_word : Argument → List Row → Bool
is_bare_word argument rows = option_map_or is_bare (word_in argument rows) false

-- what a word says that is there
abbrev pub said : {X : Type 0} → (named : Text → Option X) → Argument → Option Text → Result (Option X) FaultLine
said named argument None = Ok None
said named argument (Some word) = and_then (ok_or (named word) (bad_word argument)) (λ value. Ok (Some value))

-- what an option says, where it is used
abbrev pub asked_in : {X : Type 0} → (named : Text → Option X) → Argument → List Row → Result (Option X) FaultLine
asked_in named argument rows = said named argument (word_in argument rows)

-- what a word says that its command requires
abbrev pub needed_in : {X : Type 0} → (named : Text → Option X) → Argument → List Row → Result X FaultLine
needed_in named argument rows =
    and_then (asked_in named argument rows) (λ value. ok_or value (bad_word argument))

-- a number from 1 to `most`
abbrev pub count_given : (most : ℕ) → Argument → Option ℕ → Result (Option ℕ) FaultLine
count_given most argument None = Ok None
count_given most argument (Some count) =
    if nat_le 1 count && nat_le count most then Ok (Some count) else Err (bad_word argument)

-- what an option says that wants a number from 1 to `most`, where it is used
abbrev pub count_in : (most : ℕ) → Argument → List Row → Result (Option ℕ) FaultLine
count_in most argument rows = and_then (asked_in word_number argument rows) (count_given most argument)
