-- The fields of a plan's row.
use Rattle.std.specs.Prelude.{ℕ, ◌/◌, ◌%◌, ◌==◌, List, Bool, true, false, Option, Some, None, Result, Ok, Err, codes}
use Rattle.std.specs.Prelude.{bytes_eq, nat_le, nat_lt, option_and_then, option_map, if◌then◌else◌}
use Rattle.std.specs.Result.{result_ok}
use Rattle.pmp_core.specs.declared.access.TheConstants.{ADDRESS_LIMIT}
use Rattle.pmp_core.specs.declared.perms.Perms.{Perms}
use Rattle.pmp_core.specs.Rights.{perms_of}
use Rattle.pmp_names.specs.AddressNames.{split_comma}
use Rattle.pmp_text.specs.declared.flaw.Flaw.{Flaw}
use Rattle.pmp_text.specs.declared.refusal.Refusal.TheVariants.{BadRow, PastEnd}
use Rattle.pmp_text.specs.Flaws.{of_part, part}
use Rattle.pmp_text.specs.Numbers.{word_number}
use Rattle.pmp_text.specs.Shorthands.{rights_said}
use Rattle.pmp_plan.specs.declared.plan_row.Demand.{Demand}
use Rattle.pmp_plan.specs.declared.plan_row.Words.{Words}

-- the fields between a line's commas; the name may have more commas
pub record Fields : Type 0 where
  pub first : List ℕ
  pub last : List ℕ
  pub machine : List ℕ
  pub others : List ℕ
  pub locked : List ℕ
  pub name : List ℕ

unfoldable pub fields_of : List ℕ → Option Fields
fields_of line =
    option_and_then (λ (first, rest). option_and_then (λ (last, rest). option_and_then (λ (machine, rest).
    option_and_then (λ (others, rest). option_map (λ (locked, name). record {
      first = first;
      last = last;
      machine = machine;
      others = others;
      locked = locked;
      name = name;
    }) (split_comma rest)) (split_comma rest)) (split_comma rest)) (split_comma rest)) (split_comma line)

abbrev pub seen : Words → Fields
seen words = record {
  first = words.first.now;
  last = words.last.now;
  machine = words.machine.now;
  others = words.others.now;
  locked = words.locked.now;
  name = words.name.now;
}

-- the first byte and the last, which is below 2^56
unfoldable pub bytes_said : Fields → Result (ℕ × ℕ) Flaw
bytes_said fields =
    of_part 0 (word_number fields.first) (λ first. of_part 1 (word_number fields.last) (λ last.
    if nat_lt last first then Err (part 1 BadRow)
    else (if nat_le ADDRESS_LIMIT last then Err (part 1 PastEnd) else Ok (first, last))))

-- R in bit 0, W in 1 and X in 2, as rows write rights
abbrev pub perms_said : List ℕ → Option Perms
perms_said word = option_map (λ bits. perms_of (record {
  read = bits % 2 == 1;
  write = bits / 2 % 2 == 1;
  execute = bits / 4 % 2 == 1;
})) (result_ok (rights_said word))

abbrev pub lock_said : List ℕ → Option Bool
lock_said word = if bytes_eq word (codes "yes") then Some true
    else (if bytes_eq word (codes "no") then Some false else None)

unfoldable pub demand_said : Fields → Result Demand Flaw
demand_said fields =
    of_part 2 (perms_said fields.machine) (λ machine. of_part 3 (perms_said fields.others) (λ others.
    of_part 4 (lock_said fields.locked) (λ is_locked. Ok (record {
      rights = record { machine = machine; others = others };
      is_locked = is_locked;
    }))))
