-- The texts that rooms hold: as many of their first bytes as their length says, or as they have.
use Rattle.std.specs.Prelude.{ℕ, List, take}
use Rattle.pmp_web.specs.declared.rooms.Answer.{Answer}
use Rattle.pmp_web.specs.declared.rooms.Script.{Script}

abbrev pub script_in : Script → List ℕ
script_in room = take room.length room.bytes

abbrev pub text_in : Answer → List ℕ
text_in room = take room.length room.bytes
