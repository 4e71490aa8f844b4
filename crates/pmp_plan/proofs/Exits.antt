-- What the exit of a `?` returns.
use Rattle.std.proofs.Common.{◌≡◌, Result, Ok, Err}
use Rattle.std.specs.Result.{IfErr, IsErrAnd}
use Rattle.std.proofs.KnownBytes.{Keeps-refl}
use Rattle.std.proofs.lemmas.Result.{IfOk-from_err}

-- what holds of the error that it is given holds of the one that is returned
pub err_returned : {T E : Type 0} {e : E} (P : E → Type 0) (result : Result T E) → IsErrAnd result (λ y. y ≡ e) → P e
    → IfErr result P
err_returned P (Ok x) is p = tt
err_returned P (Err y) is p = rw is p

pub ruleset exits = (IfOk-from_err, err_returned, Keeps-refl)
