use Rattle.std.proofs.Common.{◌≡◌, ℕ, ◌+◌, ◌-◌, ◌*◌, ◌/◌, ◌%◌, ◌^◌, ◌<◌, List, [], ◌∷◌, ◌++◌, map, sym, ap, ◌∙◌, arith}
use Rattle.std.proofs.Common.{rules}
use Rattle.std.specs.List.{range_with_len}
use Rattle.std.proofs.Output.{has_written_append, has_written_of_eq}
use Rattle.std.proofs.lemmas.List.FromFn.{map-range_with_len_more}
use Rattle.std.proofs.lemmas.Str.{encode_ascii}
use Rattle.std.specs.Char.{encode_utf8}
use Rattle.pmp_text.specs.Hexadecimal.{hex_digit, hex_text}
use Rattle.pmp_text.proofs.Digits.{hex_digit_is_ascii}
use Rattle.pmp_text.proofs.lines.hexadecimal.HexDisplay.fmt.Goals as goal

pub loop-place-preserved : goal.loop-place-preserved
unfolding encode_utf8
loop-place-preserved g c =
    λ plain.
    let digit_at : ℕ → ℕ = λ place. hex_digit (c.args.self.now.value / 2 ^ (4 * (g.row.DIGITS - 1 - place)) % 16) in
    let place = c.loop-place.place in
    let digits : List ℕ = map digit_at (range_with_len 0 place) in
    let digit : c.hex_digit-digit.result ≡ digit_at place = search rules in
    let small : c.hex_digit-digit.result < 128 = rw digit
    (hex_digit_is_ascii (c.args.self.now.value / 2 ^ (4 * (g.row.DIGITS - 1 - place)))) in
    let more : digits ++ encode_utf8 c.hex_digit-digit.result ≡ map digit_at (range_with_len 0 (place + 1)) =
    ap (λ (l : List ℕ). digits ++ l) (encode_ascii c.hex_digit-digit.result small ∙ ap (λ (d : ℕ). d ∷ []) digit)
    ∙ sym (map-range_with_len_more digit_at 0 place place (omega arith)) in
    has_written_of_eq _ _ _ _ _ more (has_written_append _ _ _ _ _ _ (c.loop-place.invariant plain) (search rules))

pub returns-clause-writes : goal.returns-clause-writes
unfolding hex_text
returns-clause-writes g c = λ plain done. let all : c.loop-place.place ≡ g.row.DIGITS = omega arith in
    rw all at (c.loop-place.invariant plain)
