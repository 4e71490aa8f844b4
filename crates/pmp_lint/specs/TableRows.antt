-- The rows of Smepmp's table in words, by L, R, W and X: `lockdown_rights` of pmp_core gives the same as rights.
use Rattle.std.specs.Prelude.{ℕ, Bool, true, false, List, codes}

abbrev pub table_row : (l r w x : Bool) → List ℕ
table_row false false false false = codes "no access for any mode"
table_row false false false true = codes "S and U execute, M has no access"
table_row false false true false = codes "shared data: M reads and writes, S and U read"
table_row false false true true = codes "shared data: all modes read and write"
table_row false true false false = codes "S and U read, M has no access"
table_row false true false true = codes "S and U read and execute, M has no access"
table_row false true true false = codes "S and U read and write, M has no access"
table_row false true true true = codes "S and U read, write and execute, M has no access"
table_row true false false false = codes "locked: no access for any mode"
table_row true false false true = codes "locked: M executes, S and U have no access"
table_row true false true false = codes "locked shared code: all modes execute"
table_row true false true true = codes "locked shared code: M reads and executes, S and U execute"
table_row true true false false = codes "locked: M reads, S and U have no access"
table_row true true false true = codes "locked: M reads and executes, S and U have no access"
table_row true true true false = codes "locked: M reads and writes, S and U have no access"
table_row true true true true = codes "locked shared data: all modes read"
