-- How the program reports a failure, and its status.
use Rattle.std.specs.Prelude.{ℕ, List, Option, Some, None, IfSome}
use Rattle.arrayvec.specs.declared.array_string.ArrayString.{ArrayString}
use Rattle.clap.specs.Words.{kind_of}
use Rattle.clap.specs.declared.error.Error.{Error}
use Rattle.clap.specs.declared.error.kind.ErrorKind.{ErrorKind}
use Rattle.clap.specs.declared.error.kind.ErrorKind.TheVariants.{OutOfMemory}
use Rattle.pmp_text.specs.Bytes.{AppendsBeginning}
use Rattle.pmp_text.specs.FaultPlaces.{somewhere}
use Rattle.pmp_text.specs.Flaws.{as_whole, at_row}
use Rattle.pmp_text.specs.Refusals.{status_of}
use Rattle.pmp_text.specs.declared.fault.Fault.{Fault}
use Rattle.pmp_text.specs.declared.fault.Source.{Source}
use Rattle.pmp_text.specs.declared.refusal.Refusal.{Refusal}
use Rattle.pmp_text.specs.declared.refusal.Refusal.TheVariants.{Memory, Output}
use Rattle.pmp_names.specs.declared.hart_name.TheConstants.{HART_NAME}
use Rattle.pmp_tool.specs.FaultLines.{hart_line_text, line_text}
use Rattle.pmp_tool.specs.declared.failure.Failure.{Failure}
use Rattle.pmp_tool.specs.declared.fault_line.FaultLine.{FaultLine}
use Rattle.pmp_tool.specs.declared.failure.Failure.TheVariants.{OfHart, Refused, Words}

abbrev pub failure_status : Failure → ℕ
failure_status (Words error) = 2
failure_status (Refused line) = status_of line.fault.refusal
failure_status (OfHart name line) = status_of line.fault.refusal

-- a fault of no word
abbrev pub failed : Fault → Failure
failed fault = Refused (record { fault = fault; argument = None })

abbrev pub refused : Refusal → Failure
refused refusal = failed (somewhere refusal)

-- an input is at fault as a whole
abbrev pub unread : Refusal → Source → Failure
unread refusal source = failed (at_row source 0 (as_whole refusal))

-- a failure while rows are kept in memory: output that fails is lack of memory
abbrev pub failure_in : Refusal → FaultLine → Failure
failure_in Output line = refused Memory
failure_in _ line = Refused line

abbrev pub in_memory : Failure → Failure
in_memory (Refused line) = failure_in line.fault.refusal line
in_memory failure = failure

-- a failure on one of several harts
abbrev pub of_hart : ArrayString HART_NAME → Failure → Failure
of_hart name (Refused line) = OfHart name line
of_hart name failure = failure

-- words that clap refuses; it may also run out of memory
abbrev pub unparsed_as : ErrorKind → Error → Failure
unparsed_as OutOfMemory error = refused Memory
unparsed_as _ error = Words error

abbrev pub unparsed : Error → Failure
unparsed error = unparsed_as (kind_of error) error

-- a fault's text is one line; clap has its own texts
abbrev pub failure_text : Failure → Option (List ℕ)
failure_text (Words error) = None
failure_text (Refused line) = Some (line_text line.fault)
failure_text (OfHart name line) = Some (hart_line_text name.bytes line.fault)

-- a failure's text, or a prefix of it, is appended to known bytes
abbrev pub Tells : Failure → (before after : Option (List ℕ)) → Type 0
Tells failure before after = IfSome (failure_text failure) (AppendsBeginning before after)
