-- What users see of a refusal.
use Rattle.std.specs.Prelude.{ℕ, List, ◌++◌, codes, decimal}
use Rattle.pmp_core.specs.declared.access.AccessFault.{AccessFault}
use Rattle.pmp_core.specs.declared.access.AccessFault.TheVariants as access
use Rattle.pmp_text.specs.declared.refusal.Refusal.{Refusal}
use Rattle.pmp_text.specs.declared.refusal.Refusal.TheVariants.{BadLength, PastEnd, BadVersion, BadLine, BadName}
use Rattle.pmp_text.specs.declared.refusal.Refusal.TheVariants.{OddCfg, BadNumber, BatchFull, Unpublished, TooLong}
use Rattle.pmp_text.specs.declared.refusal.Refusal.TheVariants.{BadHeader, BadRow, BadAfter, Order, BadWord, Memory}
use Rattle.pmp_text.specs.declared.refusal.Refusal.TheVariants.{NoPlace, Full, Moved, Input, Output}
use Rattle.pmp_text.specs.declared.refusal.Refusal.TheVariants.{LateHead, Twice, BadEntries, BadBits, NotHeld, BadGrain}
use Rattle.pmp_text.specs.declared.refusal.Refusal.TheVariants.{BadMark, OpenMark, NoMoment, BadEntry, BadEvent, NoHart}
use Rattle.pmp_text.specs.declared.refusal.Refusal.TheVariants.{BadFormat, BadFolder, TooMany}
use Rattle.pmp_text.specs.declared.refusal.Refusal.TheVariants.{Overlap, BadPair, TooFine, FewEntries, Stopped, NoOrder, NoRows}

abbrev pub number_of : Refusal → ℕ
number_of BadLength = 3
number_of PastEnd = 4
number_of BadVersion = 10
number_of BadLine = 11
number_of BadName = 12
number_of OddCfg = 13
number_of BadNumber = 14
number_of BatchFull = 15
number_of Unpublished = 16
number_of TooLong = 17
number_of BadHeader = 20
number_of BadRow = 21
number_of BadAfter = 22
number_of Order = 23
number_of BadWord = 24
number_of NoPlace = 30
number_of Full = 31
number_of Moved = 32
number_of Memory = 40
number_of Input = 41
number_of Output = 42
number_of LateHead = 50
number_of Twice = 51
number_of BadEntries = 52
number_of BadBits = 53
number_of NotHeld = 54
number_of BadGrain = 55
number_of BadMark = 56
number_of OpenMark = 57
number_of NoMoment = 58
number_of BadEntry = 59
number_of BadEvent = 60
number_of NoHart = 61
number_of BadFormat = 62
number_of TooMany = 63
number_of BadFolder = 64
number_of Overlap = 65
number_of BadPair = 66
number_of TooFine = 67
number_of FewEntries = 68
number_of Stopped = 69
number_of NoOrder = 70
number_of NoRows = 71

abbrev pub name_of : Refusal → List ℕ
name_of BadLength = codes "BadLength"
name_of PastEnd = codes "PastEnd"
name_of BadVersion = codes "BadVersion"
name_of BadLine = codes "BadLine"
name_of BadName = codes "BadName"
name_of OddCfg = codes "OddCfg"
name_of BadNumber = codes "BadNumber"
name_of BatchFull = codes "BatchFull"
name_of Unpublished = codes "Unpublished"
name_of TooLong = codes "TooLong"
name_of BadHeader = codes "BadHeader"
name_of BadRow = codes "BadRow"
name_of BadAfter = codes "BadAfter"
name_of Order = codes "Order"
name_of BadWord = codes "BadWord"
name_of NoPlace = codes "NoPlace"
name_of Full = codes "Full"
name_of Moved = codes "Moved"
name_of Memory = codes "Memory"
name_of Input = codes "Input"
name_of Output = codes "Output"
name_of LateHead = codes "LateHead"
name_of Twice = codes "Twice"
name_of BadEntries = codes "BadEntries"
name_of BadBits = codes "BadBits"
name_of NotHeld = codes "NotHeld"
name_of BadGrain = codes "BadGrain"
name_of BadMark = codes "BadMark"
name_of OpenMark = codes "OpenMark"
name_of NoMoment = codes "NoMoment"
name_of BadEntry = codes "BadEntry"
name_of BadEvent = codes "BadEvent"
name_of NoHart = codes "NoHart"
name_of BadFormat = codes "BadFormat"
name_of TooMany = codes "TooMany"
name_of BadFolder = codes "BadFolder"
name_of Overlap = codes "Overlap"
name_of BadPair = codes "BadPair"
name_of TooFine = codes "TooFine"
name_of FewEntries = codes "FewEntries"
name_of Stopped = codes "Stopped"
name_of NoOrder = codes "NoOrder"
name_of NoRows = codes "NoRows"

-- the program's exit status: 3 if memory, input, output or a shared unit failed, else 2
abbrev pub status_of : Refusal → ℕ
status_of NoPlace = 3
status_of Moved = 3
status_of Memory = 3
status_of Input = 3
status_of Output = 3
status_of _ = 2

-- number and name
abbrev pub refusal_text : Refusal → List ℕ
refusal_text refusal = decimal (number_of refusal) ++ (codes " " ++ name_of refusal)

-- an access's refusal has the same name
abbrev pub refusal_of_access : AccessFault → Refusal
refusal_of_access access.BadLength = BadLength
refusal_of_access access.PastEnd = PastEnd
