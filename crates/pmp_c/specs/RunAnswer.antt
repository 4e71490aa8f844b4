-- The run of a byte: all adjacent bytes with its owner, and what a mode may do there.
use Rattle.std.specs.Prelude.{◌≡◌, ℕ, ◌+◌, ◌*◌, Option}
use Rattle.pmp_core.specs.declared.access.Mode.{Mode}
use Rattle.pmp_core.specs.RegisterFile.{RegisterFile}
use Rattle.pmp_core.specs.Rights.{perms_of}
use Rattle.pmp_map.specs.Answer.{cause_number}
use Rattle.pmp_map.specs.Answers.{owned_rights, whole_cause}
use Rattle.pmp_map.specs.Runs.{IsRunAround}

-- the number of the owner's cause, plus 1,024 times the rights: R is 1, W is 2, X is 4
abbrev pub run_number : RegisterFile → Option ℕ → Mode → ℕ
run_number file owner mode = cause_number (whole_cause owner) + 1024 * (perms_of (owned_rights file owner mode)).0

-- the number gives what the mode may do from the first to the last byte, the longest run around this one with its owner
pub record IsRunAnswer (file : RegisterFile) (mode : Mode) (byte first last number : ℕ) : Type 0 where
  pub owner : Option ℕ
  pub around : IsRunAround file byte (record { first = first; last = last; owner = owner })
  pub number_is : number ≡ run_number file owner mode
