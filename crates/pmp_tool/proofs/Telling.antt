-- The line that tells of a refusal.
use Rattle.std.proofs.Common.{◌≡◌, ◌∙◌, ap, List, [], ◌++◌, ℕ, true, Result, Ok, Err}
use Rattle.std.proofs.lemmas.Fmt.{contents_after_writes}
use Rattle.std.specs.Fmt.{WritesInCalls}
use Rattle.std.specs.Prelude.{OnOk, is_ok}
use Rattle.arrayvec.specs.declared.array_string.ArrayString.{ArrayString}

pub at_ok : {T E P : Type 0} (result : Result T E) → is_ok result ≡ true → OnOk result P → P
at_ok (Ok value) ok holds = holds
at_ok (Err error) ok holds = absurd cc

-- an empty string holds the text that is written to it
pub string_written : (CAP : ℕ) (old new : ArrayString CAP) (text : List ℕ) → old.bytes ≡ []
    → WritesInCalls (λ s bytes t. t.bytes ≡ s.bytes ++ bytes) old text new → new.bytes ≡ text
string_written CAP old new text empty wrote =
    contents_after_writes (λ s bytes t. t.bytes ≡ s.bytes ++ bytes) (λ s. s.bytes)
    (λ w bs v took. took) old text new wrote ∙ ap (λ bytes. bytes ++ text) empty
