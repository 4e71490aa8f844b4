-- How a hart's name is read for its order.
use Rattle.std.specs.Prelude.{ℕ, List, ◌++◌}
use Rattle.pmp_names.specs.declared.order_key.OrderKey.{OrderKey}
use Rattle.pmp_names.specs.HartNames.{key_from}

-- the key of a name of which this was read and `rest` remains
abbrev pub keyed : OrderKey → (rest : List ℕ) → List ℕ
keyed key rest = key.bytes.items ++ key_from key.is_open key.digits.items rest
