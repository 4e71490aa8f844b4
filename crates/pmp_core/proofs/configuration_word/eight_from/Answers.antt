use Rattle.std.proofs.Common.{◌≡◌, slice_index, take, drop, ◌+◌, ◌-◌, ap, sym, ◌∙◌, inl, inr, arith}
use Rattle.std.proofs.lemmas.Bool.{cases_lt}
use Rattle.std.proofs.lemmas.List.{get_or_past}
use Rattle.pmp_core.proofs.WordBytes.{byte_above, loaded_byte, shifted_byte}
use Rattle.pmp_core.proofs.configuration_word.eight_from.Goals as goal

pub returns : goal.returns
returns c j near =
    let xs = c.args.bytes.now in
    let from = c.min-from.result in
    let s = c.args.first - from in
    let eight : from + 8 - from ≡ 8 = omega arith in
    let at = loaded_byte xs from c.copy_from_slice.new.self c.from_le_bytes.result (λ i. (c.type_inv.bytes i).fits)
    (omega (arith, c.requires, c.min-from.ensures))
    (c.copy_from_slice.ensures.after ∙ ap (λ k. take k (drop from xs)) eight) c.from_le_bytes.ensures in
    elim (cases_lt (j + s) 8) [
      | inl inside ↦ shifted_byte c.from_le_bytes.result s j near inside ∙ at (j + s) inside
          ∙ ap (slice_index xs) (omega (arith, c.min-from.ensures, c.requires))
      | inr past ↦ byte_above c.from_le_bytes.result s j near c.from_le_bytes.type_inv past
          ∙ sym (get_or_past xs (c.args.first + j) 0 (omega (arith, c.min-from.ensures, c.requires)))
    ]
