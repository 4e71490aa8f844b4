use Rattle.std.proofs.Common.{◌≡◌, ◌<◌, ◌^◌, take}
use Rattle.std.specs.List.{list_all}
use Rattle.std.specs.Char.{is_digit}
use Rattle.std.specs.Str.Parse.{digits_value}
use Rattle.std.proofs.Common.{true}
use Rattle.pmp_text.proofs.numbers.read_numeral.Given as goal

abbrev pub invariant-loop-byte : goal.invariant-loop-byte
invariant-loop-byte l = record {
  value : l.value ≡ digits_value l.radix (take l.byte-index l.digits);
  digits : list_all (λ byte. is_digit byte l.radix) (take l.byte-index l.digits) ≡ true;
  small : l.value < 2 ^ 64;
}
