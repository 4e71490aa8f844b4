-- The formats of logs.
use Rattle.std.specs.Prelude.{List, ℕ, Option, Some, None, Result, codes, bytes_eq, if◌then◌else◌}
use Rattle.pmp_text.specs.declared.refusal.Refusal.{Refusal}
use Rattle.pmp_import.specs.declared.format.Format.{Format}
use Rattle.pmp_import.specs.declared.format.Format.TheVariants.{Qemu, Gdb, OpenOcd, Spike, Dump}
use Rattle.pmp_import.specs.declared.said.Said.{Said}
use Rattle.pmp_import.specs.declared.debuggers.Debugger.TheVariants as debugger
use Rattle.pmp_import.specs.Debuggers.{debugger_said}
use Rattle.pmp_import.specs.Qemu.{qemu_said}
use Rattle.pmp_import.specs.Spike.{spike_said}

abbrev pub format_named : List ℕ → Option Format
format_named word =
    if bytes_eq word (codes "qemu") then Some Qemu
    else (if bytes_eq word (codes "gdb") then Some Gdb
    else (if bytes_eq word (codes "openocd") then Some OpenOcd
    else (if bytes_eq word (codes "spike") then Some Spike
    else (if bytes_eq word (codes "dump") then Some Dump else None))))

abbrev pub source_text : Format → List ℕ
source_text Qemu = codes "QEMU's trace"
source_text Gdb = codes "gdb's registers"
source_text OpenOcd = codes "OpenOCD's registers"
source_text Spike = codes "Spike's commits"
source_text Dump = codes "a dump"

-- what a line of such a log means, or why it is refused
abbrev pub line_said : Format → List ℕ → Result Said Refusal
line_said Qemu line = qemu_said line
line_said Gdb line = debugger_said debugger.Gdb line
line_said OpenOcd line = debugger_said debugger.OpenOcd line
line_said Spike line = spike_said line
line_said Dump line = debugger_said debugger.Dump line
