-- What a policy's row given by numbers demands, and when its numbers name nothing.
use Rattle.std.specs.Prelude.{ℕ, ◌/◌, ◌%◌, ◌==◌, ◌||◌, nat_lt, Option, Some, None, if◌then◌else◌, false}
use Rattle.pmp_core.specs.declared.access.Kind.TheVariants.{Fetch, Load, Store}
use Rattle.pmp_text.specs.declared.moments.Coming.TheVariants.{Met}
use Rattle.pmp_text.specs.declared.policy.Demand.TheVariants as demand
use Rattle.pmp_text.specs.declared.policy.Kinds.{Kinds}
use Rattle.pmp_text.specs.declared.policy.Kinds.TheVariants.{One, Any}
use Rattle.pmp_text.specs.declared.policy.Modes.{Modes}
use Rattle.pmp_audit.specs.declared.policy_check.steps.Pace.{Pace}
use Rattle.pmp_audit.specs.declared.policy_check.steps.Pace.TheVariants.{Publications, Events}
use Rattle.pmp_web.specs.declared.request.Question.{Question}
use Rattle.pmp_web.specs.declared.rooms.Demand.{Demand}
use Rattle.pmp_text.specs.declared.policy.Demand as policy

-- a bit for each mode, with the mode's number (Volume II, 1.2); at least one, and no other
abbrev pub modes_of : ℕ → Option Modes
modes_of number =
    if number == 0 || (nat_lt 15 number || number / 4 % 2 == 1) then None else Some (record {
      machine = number / 8 % 2 == 1;
      supervisor = number / 2 % 2 == 1;
      user = number % 2 == 1;
    })

-- the numbers of an access's kinds, and 3 for any kind
abbrev pub kinds_of : ℕ → Option Kinds
kinds_of number =
    if number == 0 then Some (One Fetch) else (if number == 1 then Some (One Load)
    else (if number == 2 then Some (One Store) else (if number == 3 then Some Any else None)))

abbrev pub demand_of : ℕ → Option policy.Demand
demand_of number =
    if number == 0 then Some demand.Never else (if number == 1 then Some demand.Always
    else (if number == 2 then Some demand.Held else None))

abbrev pub pace_of : ℕ → Option Pace
pace_of number = if number == 0 then Some Publications else (if number == 1 then Some Events else None)

-- what the numbers name, if all name something; none is bare
abbrev pub question_by : Demand → Option Modes → Option Kinds → Option policy.Demand → Option Pace → Option Question
question_by room (Some modes) (Some kinds) (Some demand) (Some pace) = Some (record {
  pace = pace;
  number = room.number;
  fields = record {
    from = room.from;
    to = room.to;
    modes = modes;
    kinds = kinds;
    first = room.first;
    last = room.last;
    demand = demand;
    coming = Met;
    is_bare = false;
  };
})
question_by room _ _ _ _ = None

abbrev pub question_of : Demand → Option Question
question_of room = question_by room (modes_of room.modes) (kinds_of room.kind) (demand_of room.demand) (pace_of room.pace)
