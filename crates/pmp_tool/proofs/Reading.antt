-- What is read of an input is the input's.
use Rattle.std.proofs.Common.{ℕ, List, Option, Some, None, subst}
use Rattle.pmp_tool.specs.Inputs.{AreBytesOf, GivesBytesOf}

-- what a reader of an input has left are the input's bytes
pub bytes_given : (known remaining : Option (List ℕ)) (bytes : List ℕ) → GivesBytesOf known remaining
    → AreBytesOf remaining bytes → AreBytesOf known bytes
bytes_given None remaining bytes gives are = tt
bytes_given (Some those) remaining bytes gives are = subst (λ left. AreBytesOf left bytes) gives are
