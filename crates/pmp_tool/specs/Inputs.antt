-- What is known of the program's inputs, and what reading them gives.
use Rattle.std.specs.Prelude.{◌≡◌, ◌⊎◌, ℕ, ◌<◌, List, length, Option, None, Some, IfSome}
use Rattle.pmp_text.specs.declared.refusal.Refusal.{Refusal}
use Rattle.pmp_text.specs.declared.refusal.Refusal.TheVariants.{TooLong, Input, Memory}

-- the bytes at each path, if known
abbrev pub Inputs : Type 0
Inputs = List ℕ → Option (List ℕ)

-- the file names of the folder at each path, or none if there is no folder, if known
abbrev pub Folders : Type 0
Folders = List ℕ → Option (Option (List (List ℕ)))

-- what stands at each path, as far as known: the bytes of a script, the bytes of a trace, a policy or a log, and a
-- folder's file names
pub record Paths : Type 0 where
  pub scripts : Inputs
  pub traces : Inputs
  pub folders : Folders

-- nothing is known
abbrev pub unknown : Paths
unknown = record { scripts = λ path. None; traces = λ path. None; folders = λ path. None }

-- a path is a folder with these files, or no folder, as far as known
abbrev pub IsFolder : (known : Option (Option (List (List ℕ)))) → (found : Option (List (List ℕ))) → Type 0
IsFolder known found = IfSome known (λ listed. found ≡ listed)

-- the bytes are an input's, as far as known
abbrev pub AreBytesOf : Option (List ℕ) → List ℕ → Type 0
AreBytesOf known bytes = IfSome known (λ those. bytes ≡ those)

-- a reader has these bytes left: an input's, as far as known
abbrev pub GivesBytesOf : (known remaining : Option (List ℕ)) → Type 0
GivesBytesOf known remaining = IfSome known (λ those. remaining ≡ Some those)

-- an input can't be opened, however long it is
abbrev pub CantBeOpened : Refusal → Type 0
CantBeOpened refusal = (refusal ≡ Input) ⊎ (refusal ≡ Memory)

-- an input can't be read; one that is too long has more bytes than the limit, as far as known
abbrev pub CantBeRead : (limit : ℕ) (known : Option (List ℕ)) → Refusal → Type 0
CantBeRead limit known refusal =
    ((refusal ≡ TooLong) × IfSome known (λ bytes. limit < length bytes)) ⊎ CantBeOpened refusal
