-- Which subjects exist.
use Rattle.std.specs.Prelude.{◌<◌, ⊤}
use Rattle.pmp_core.specs.declared.size.TheConstants.{MAX_ENTRIES}
use Rattle.pmp_lint.specs.declared.subject.Subject.{Subject}
use Rattle.pmp_lint.specs.declared.subject.Subject.TheVariants.{Bypass, Lockdown, Entry, Configuration, Address}

-- no hart has an entry with a higher number
abbrev pub IsSubject : Subject → Type 0
IsSubject Bypass = ⊤
IsSubject Lockdown = ⊤
IsSubject (Entry i) = i < MAX_ENTRIES
IsSubject (Configuration i) = i < MAX_ENTRIES
IsSubject (Address i) = i < MAX_ENTRIES
