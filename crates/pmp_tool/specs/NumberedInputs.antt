-- The bytes of inputs with numbers in the places of names.
use Rattle.std.specs.Prelude.{ℕ, List, length, nat_lt, Option, Some, None, option_map, if◌then◌else◌}
use Rattle.pmp_text.specs.MetNames.{Named}
use Rattle.pmp_text.specs.declared.trace.reader.TheConstants.{MAX_TRACE}
use Rattle.pmp_names.specs.NumberedTexts.{numbered_text}
use Rattle.pmp_tool.specs.Inputs.{Inputs, Paths}

-- a text that is longer than a trace may be stays as it is
abbrev pub numbered_within : List Named → (text : List ℕ) → List ℕ
numbered_within names text = if nat_lt MAX_TRACE (length text) then text else numbered_text names text

-- traces and policies with numbers in the places of names, if names are given
abbrev pub traces_for : Option (List Named) → (traces : Inputs) → Inputs
traces_for None traces = traces
traces_for (Some names) traces = λ path. option_map (numbered_within names) (traces path)

abbrev pub paths_for : Option (List Named) → Paths → Paths
paths_for names paths = record paths { traces = traces_for names paths.traces }
