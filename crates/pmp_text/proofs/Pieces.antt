-- What the pieces of a cut list are.
use Rattle.std.proofs.Common.{◌≡◌, ℕ, zero, suc, ◌+◌, ◌-◌, ◌<◌, ◌≤◌, List, [], ◌∷◌, ◌++◌, length, take, drop, get_or}
use Rattle.std.proofs.Common.{refl, sym, ap, ◌∙◌, add-one, arith}
use Rattle.std.specs.Prelude.{slice_index_or}
use Rattle.std.specs.List.{flat_map, slice_range}
use Rattle.std.proofs.lemmas.List.{append_assoc, append-nil, drop_all, drop-append-le, length-append, length-drop}
use Rattle.std.proofs.lemmas.List.{take-append-le, take_rest}
use Rattle.std.proofs.lemmas.List.Folds.{drop_split}
use Rattle.pmp_core.specs.declared.event.TheConstants.{BATCH_EVENTS}
use Rattle.pmp_text.specs.Steps.Cuts.{AreEnds, cut_from, last_end}

-- ---- the ends

pub rises : (before : ℕ) (ends : List ℕ) → AreEnds before ends → before ≤ last_end before ends
rises before [] are = omega arith
rises before (end ∷ ends) are = let later = rises end ends are.2 in omega (arith, later, are.0)

pub below_last : (k before : ℕ) (ends : List ℕ) → AreEnds before ends
    → last_end before (take k ends) ≤ last_end before ends
below_last zero before ends are = rises before ends are
below_last (suc k) before [] are = omega arith
below_last (suc k) before (end ∷ ends) are = below_last k end ends are.2

pub steps : (k before : ℕ) (ends : List ℕ) → k < length ends → AreEnds before ends
    → (last_end before (take k ends) ≤ last_end before (take (suc k) ends))
    × (last_end before (take (suc k) ends) ≤ last_end before (take k ends) + BATCH_EVENTS)
steps k before [] below are = absurd (omega arith)
steps zero before (end ∷ ends) below are = (are.0, are.1)
steps (suc k) before (end ∷ ends) below are = steps k end ends (omega arith) are.2

-- where the piece with this index begins and ends
pub bounds : (k start end : ℕ) (ends : List ℕ) → k < length ends → AreEnds 0 ends → start ≡ last_end 0 (take k ends)
    → end ≡ last_end 0 (take (k + 1) ends)
    → (start ≤ end) × (end ≤ start + BATCH_EVENTS) × (end ≤ last_end 0 ends)
bounds k start end ends inside are from to =
    let next = rw add-one at to in
    let step = steps k 0 ends inside are in
    let last = below_last (suc k) 0 ends are in
    (omega (arith, from, next, step), omega (arith, from, next, step), omega (arith, next, last))

pub end_at : (k d before : ℕ) (ends : List ℕ) → k < length ends → last_end before (take (suc k) ends) ≡ get_or ends k d
end_at k d before [] below = absurd (omega arith)
end_at zero d before (end ∷ ends) below = refl
end_at (suc k) d before (end ∷ ends) below = end_at k d end ends (omega arith)

pub first_ends : (k before : ℕ) (ends : List ℕ) → AreEnds before ends → AreEnds before (take k ends)
first_ends zero before ends are = tt
first_ends (suc k) before [] are = tt
first_ends (suc k) before (end ∷ ends) are = (are.0, are.1, first_ends k end ends are.2)

module _ (next : ℕ) where
  pub last_of_more : (before : ℕ) (ends : List ℕ) → last_end before (ends ++ next ∷ []) ≡ next
  last_of_more before [] = refl
  last_of_more before (end ∷ ends) = last_of_more end ends

  pub one_end_more : (before : ℕ) (ends : List ℕ) → AreEnds before ends → last_end before ends ≤ next
      → next ≤ last_end before ends + BATCH_EVENTS → AreEnds before (ends ++ next ∷ [])
  one_end_more before [] are forward few = (forward, few, tt)
  one_end_more before (end ∷ ends) are forward few =
      (are.0, are.1, one_end_more end ends are.2 forward few)

-- ---- the pieces

module _ {X : Type 0} (items : List X) where
  pub length-cut_from : (before : ℕ) (ends : List ℕ) → length (cut_from before ends items) ≡ length ends
  length-cut_from before [] = refl
  length-cut_from before (end ∷ ends) = ap suc (length-cut_from end ends)

  pub take-cut_from : (k before : ℕ) (ends : List ℕ)
      → take k (cut_from before ends items) ≡ cut_from before (take k ends) items
  take-cut_from zero before ends = refl
  take-cut_from (suc k) before [] = refl
  take-cut_from (suc k) before (end ∷ ends) =
      ap (λ (more : List (List X)). slice_range items before end ∷ more) (take-cut_from k end ends)

  -- the pieces, and what stands behind the last one
  pub joined-cut_from : (before : ℕ) (ends : List ℕ) → AreEnds before ends
      → flat_map (λ piece. piece) (cut_from before ends items) ++ drop (last_end before ends) items ≡ drop before items
  joined-cut_from before [] are = refl
  joined-cut_from before (end ∷ ends) are =
      append_assoc (slice_range items before end) (flat_map (λ piece. piece) (cut_from end ends items))
      (drop (last_end end ends) items)
      ∙ ap (λ (more : List X). slice_range items before end ++ more) (joined-cut_from end ends are.2)
      ∙ sym (drop_split items before end are.0)

  pub piece_at : (k before : ℕ) (ends : List ℕ) → k < length ends
      → slice_index_or (cut_from before ends items) k []
      ≡ slice_range items (last_end before (take k ends)) (last_end before (take (suc k) ends))
  piece_at k before [] below = absurd (omega arith)
  piece_at zero before (end ∷ ends) below = refl
  piece_at (suc k) before (end ∷ ends) below = piece_at k end ends (omega arith)

  pub one_piece_more : (next before : ℕ) (ends : List ℕ)
      → cut_from before (ends ++ next ∷ []) items
      ≡ cut_from before ends items ++ slice_range items (last_end before ends) next ∷ []
  one_piece_more next before [] = refl
  one_piece_more next before (end ∷ ends) =
      ap (λ (more : List (List X)). slice_range items before end ∷ more) (one_piece_more next end ends)

  module _ (more : List X) where
    same_piece : (before end : ℕ) → before ≤ end → end ≤ length items
        → slice_range (items ++ more) before end ≡ slice_range items before end
    same_piece before end forward inside =
        ap (λ (rest : List X). take (end - before) rest) (drop-append-le before items more (omega arith))
        ∙ take-append-le (end - before) (drop before items) more (omega (arith, length-drop before items))

    pub same_pieces : (before : ℕ) (ends : List ℕ) → AreEnds before ends → last_end before ends ≤ length items
        → cut_from before ends (items ++ more) ≡ cut_from before ends items
    same_pieces before [] are inside = refl
    same_pieces before (end ∷ ends) are inside =
        let own = same_piece before end are.0 (omega (arith, rises end ends are.2)) in
        let later = same_pieces end ends are.2 inside in
        λ i. own i ∷ later i

  -- the pieces of the whole list
  pub all_pieces : (ends : List ℕ) → AreEnds 0 ends → length items ≡ last_end 0 ends
      → flat_map (λ piece. piece) (cut_from 0 ends items) ≡ items
  all_pieces ends are whole =
      sym (append-nil (flat_map (λ piece. piece) (cut_from 0 ends items)))
      ∙ ap (λ (rest : List X). flat_map (λ piece. piece) (cut_from 0 ends items) ++ rest)
      (sym (drop_all (last_end 0 ends) items (omega (arith, whole))))
      ∙ joined-cut_from 0 ends are

  -- the first pieces have as many elements as stand before the end of the last of them
  pub length_of_first : (k : ℕ) (ends : List ℕ) → AreEnds 0 ends → length items ≡ last_end 0 ends
      → last_end 0 (take k ends) ≡ length (flat_map (λ piece. piece) (take k (cut_from 0 ends items)))
  length_of_first k ends are whole =
      let first = cut_from 0 (take k ends) items in
      let all = ap (λ (xs : List X). length xs) (joined-cut_from 0 (take k ends) (first_ends k 0 ends are)) in
      let parts = length-append (flat_map (λ piece. piece) first) (drop (last_end 0 (take k ends)) items) in
      let inside = below_last k 0 ends are in
      let count : last_end 0 (take k ends) ≡ length (flat_map (λ piece. piece) first) =
      omega (arith, all, parts, inside, whole, length-drop (last_end 0 (take k ends)) items) in
      count ∙ ap (λ (pieces : List (List X)). length (flat_map (λ piece. piece) pieces)) (sym (take-cut_from k 0 ends))

  -- what stands behind the pieces is one piece more
  pub rest_is_piece : (ends : List ℕ) (published next : ℕ) → published ≡ last_end 0 ends → next ≡ length items
      → cut_from 0 (ends ++ next ∷ []) items ≡ cut_from 0 ends items ++ drop published items ∷ []
  rest_is_piece ends published next last whole =
      one_piece_more next 0 ends
      ∙ ap (λ (piece : List X). cut_from 0 ends items ++ piece ∷ [])
      ((λ i. slice_range items (sym last i) (whole i)) ∙ take_rest items published)
