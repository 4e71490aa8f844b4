use Rattle.std.proofs.Common.{◌-◌, ◌*◌, ◌/◌, ◌%◌, ◌^◌, map}
use Rattle.std.specs.Fmt.{HasWritten, IsPlainFormatter}
use Rattle.std.specs.List.{range_with_len}
use Rattle.pmp_text.specs.Hexadecimal.{hex_digit}
use Rattle.pmp_text.proofs.lines.hexadecimal.HexDisplay.fmt.Given as goal

abbrev pub invariant-loop-place : goal.invariant-loop-place
invariant-loop-place g l =
    IsPlainFormatter l.initial.f
    → HasWritten g.W.Write.write_str_gives l.initial.f
    (map (λ place. hex_digit (l.self.value / 2 ^ (4 * (g.row.DIGITS - 1 - place)) % 16)) (range_with_len 0 l.place)) l.f
