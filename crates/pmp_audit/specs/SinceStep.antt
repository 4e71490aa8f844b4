-- How one more publication changes since when an entry is frozen, or held.
use Rattle.std.specs.Prelude.{ℕ, Bool, true, false, Option, Some, None, unwrap_or}

-- by whether the entry is so now, whether the batch has no reset, and how many batches there are now
abbrev pub since_after : Option ℕ → (is_so writes : Bool) → (done : ℕ) → Option ℕ
since_after before false writes done = None
since_after before true false done = Some done
since_after before true true done = Some (unwrap_or before done)
