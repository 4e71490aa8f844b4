-- The lints: number, name, what they say, and remedy.
use Rattle.std.specs.Prelude.{ℕ, List, [], ◌∷◌, ◌++◌, Option, bytes_eq, codes, find}
use Rattle.pmp_lint.specs.declared.lint.Lint.{Lint}
use Rattle.pmp_lint.specs.declared.lint.Lint.TheVariants.{RlbLeftOn, MmwpOff, OpenBeforeLocked, NeverDecides}
use Rattle.pmp_lint.specs.declared.lint.Lint.TheVariants.{WriteAndExecute, OpenBetween, LateWrite}

abbrev pub lint_number : Lint → ℕ
lint_number RlbLeftOn = 1
lint_number MmwpOff = 2
lint_number OpenBeforeLocked = 3
lint_number NeverDecides = 4
lint_number WriteAndExecute = 5
lint_number OpenBetween = 6
lint_number LateWrite = 7

abbrev pub lint_name : Lint → List ℕ
lint_name RlbLeftOn = codes "rlb-left-on"
lint_name MmwpOff = codes "mmwp-off"
lint_name OpenBeforeLocked = codes "open-before-locked"
lint_name NeverDecides = codes "never-decides"
lint_name WriteAndExecute = codes "write-and-execute"
lint_name OpenBetween = codes "open-between"
lint_name LateWrite = codes "late-write"

abbrev pub lints : List Lint
lints =
    RlbLeftOn ∷ MmwpOff ∷ OpenBeforeLocked ∷ NeverDecides ∷ WriteAndExecute ∷ OpenBetween ∷ LateWrite ∷ []

-- by its name
unfoldable pub lint_named : (word : List ℕ) → Option Lint
lint_named word = find (λ lint. bytes_eq (lint_name lint) word) lints

-- what is so where it is found
abbrev pub says_text : Lint → List ℕ
says_text RlbLeftOn = codes "An entry is locked and RLB is set, so that no lock has an effect."
says_text MmwpOff = codes "MML is set and MMWP isn't, so that M-mode may read and write what no entry matches."
says_text OpenBeforeLocked = codes "An entry that isn't locked stands before one that is, and may still take its bytes."
says_text NeverDecides = codes "An entry is on and decides no byte."
says_text WriteAndExecute = codes "A mode may both write and execute the bytes."
says_text OpenBetween = codes "After one write S-mode and U-mode may use bytes as they may neither before its publication "
    ++ codes "nor after it."
says_text LateWrite = codes "A write has no effect, since the entry is locked."

-- how to fix it
abbrev pub remedy_text : Lint → List ℕ
remedy_text RlbLeftOn = codes "Clear RLB in mseccfg once the entries are locked."
remedy_text MmwpOff = codes "Set MMWP in mseccfg together with MML."
remedy_text OpenBeforeLocked = codes "Lock this entry too, or put it behind those that are locked."
remedy_text NeverDecides = codes "Turn the entry off, or put it before the entries that take its bytes."
remedy_text WriteAndExecute = codes "Take W or X away, or part the bytes into code and data."
remedy_text OpenBetween = codes "Write the entry that closes the bytes before the one that opens others."
remedy_text LateWrite = codes "Write the register before the entry is locked, or leave the write out."
