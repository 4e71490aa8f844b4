-- Where held bytes are cut.
use Rattle.std.proofs.Common.{◌≡◌, ◌<◌, ◌≤◌, ℕ, ◌+◌, ◌-◌, false, true, List, [], ◌∷◌, ◌++◌, length, take, drop}
use Rattle.std.proofs.Common.{Option, refl, sym, ap, ◌∙◌, append-nil, arith}
use Rattle.std.specs.List.{list_any}
use Rattle.std.specs.Prelude.{slice_index}
use Rattle.std.proofs.lemmas.List.{drop_more, length-drop, length-take-le, take-append-drop, take_more}
use Rattle.pmp_text.specs.Cutting.{AreLines, IsFilled, IsFront, IsLongLine, IsUncut}
use Rattle.pmp_text.specs.Lines.{is_line_feed}
use Rattle.pmp_text.specs.Tables.{is_line_end}

module _ (limit : ℕ) (held : List ℕ) (old new : Option (List ℕ)) (filled : List ℕ) where
  pub uncut : IsFilled limit held old new filled false → list_any is_line_end (drop 1 filled) ≡ false
      → IsUncut limit held old new
  uncut f none = record {
    taken = f.taken;
    consumed = f.consumed;
    line = (
      take 1 filled,
      drop 1 filled,
      [],
      sym f.joined ∙ sym (take-append-drop 1 filled)
          ∙ ap (λ (l : List ℕ). take 1 filled ++ l) (sym (append-nil (drop 1 filled))),
      none,
      let most : length filled ≡ limit = f.full refl in
          let left = length-drop 1 filled in omega arith,
    );
  }

  pub front : IsFilled limit held old new filled false → (end : ℕ) → 0 < end → end < length filled
      → is_line_end (slice_index filled end) ≡ true → (left piece : List ℕ) → left ≡ drop end filled
      → piece ≡ take (end + 1) filled → IsFront limit held old new left piece
  front f end some inside ends left piece left_is piece_is =
      let most : length filled ≡ limit = f.full refl in
      let behind = drop_more filled end 0 inside in record {
        taken = f.taken;
        consumed = f.consumed;
        before = take end filled;
        some = let count = length-take-le end filled (omega arith) in omega arith;
        line_end = slice_index filled end;
        behind = drop (end + 1) filled;
        ends = ends;
        split = sym f.joined ∙ sym (take-append-drop end filled)
            ∙ ap (λ (l : List ℕ). take end filled ++ l) behind;
        piece_is = piece_is ∙ take_more filled end 0 inside;
        left_is = left_is ∙ behind;
        within = let count = length-drop end filled in rw left_is (omega arith);
        short = let count = length-take-le (end + 1) filled (omega arith) in rw piece_is (omega arith);
      }

  pub long_line : IsFilled limit held old new filled false → list_any is_line_feed filled ≡ false
      → IsLongLine limit held old new
  long_line f none = record {
    taken = f.taken;
    consumed = f.consumed;
    long = let most : length filled ≡ limit = f.full refl in rw (← f.joined) (omega arith);
    unended = rw (← f.joined) none;
  }

  pub whole_lines : IsFilled limit held old new filled false → (end : ℕ) → 0 < end → end ≤ length filled
      → slice_index filled (end - 1) ≡ 10 → (left piece : List ℕ) → left ≡ drop end filled
      → piece ≡ take end filled → AreLines limit held old new left piece
  whole_lines f end some inside feed left piece left_is piece_is =
      let most : length filled ≡ limit = f.full refl in
      let within : end - 1 < length filled = omega arith in
      let same : end ≡ end - 1 + 1 = omega arith in record {
        taken = f.taken;
        consumed = f.consumed;
        before = take (end - 1) filled;
        ends = piece_is ∙ ap (λ (n : ℕ). take n filled) same ∙ take_more filled (end - 1) 0 within
            ∙ ap (λ (byte : ℕ). take (end - 1) filled ++ byte ∷ []) feed;
        split = sym f.joined ∙ sym (take-append-drop end filled)
            ∙ ap (λ (l : List ℕ). l ++ drop end filled) (sym piece_is)
            ∙ ap (λ (l : List ℕ). piece ++ l) (sym left_is);
        within = let count = length-drop end filled in rw left_is (omega arith);
        short = let count = length-take-le end filled inside in rw piece_is (omega arith);
      }
