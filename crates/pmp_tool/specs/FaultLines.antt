-- The line that reports a fault.
use Rattle.std.specs.Prelude.{ℕ, List, ◌++◌, codes}
use Rattle.pmp_text.specs.FaultTexts.{fault_text}
use Rattle.pmp_text.specs.declared.fault.Fault.{Fault}

-- with its LF
abbrev pub line_text : Fault → List ℕ
line_text fault = codes "pmp: " ++ (fault_text fault ++ codes "\n")

-- for one of several harts
abbrev pub hart_line_text : (name : List ℕ) → Fault → List ℕ
hart_line_text name fault = codes "pmp: " ++ (name ++ (codes ": " ++ (fault_text fault ++ codes "\n")))
