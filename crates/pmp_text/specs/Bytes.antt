-- What a call took from a reader.
use Rattle.std.specs.Prelude.{◌≡◌, ℕ, ◌≤◌, List, ◌++◌, length, Option}
use Rattle.std.specs.Io.KnownBytes.{Consumes, Appends}

-- the first `count` known bytes are consumed
abbrev pub Takes : (old new : Option (List ℕ)) → (count : ℕ) → Type 0
Takes old new count = (bytes : List ℕ) × Consumes old new bytes × (length bytes ≡ count)

-- at most `limit` of the first known bytes are consumed
abbrev pub TakesAtMost : (old new : Option (List ℕ)) → (limit : ℕ) → Type 0
TakesAtMost old new limit = (bytes : List ℕ) × Consumes old new bytes × (length bytes ≤ limit)

-- a prefix of `bytes`, perhaps empty or whole, is appended to known bytes
abbrev pub AppendsBeginning : (old new : Option (List ℕ)) → (bytes : List ℕ) → Type 0
AppendsBeginning old new bytes = (front rest : List ℕ) × (bytes ≡ front ++ rest) × Appends old new front
