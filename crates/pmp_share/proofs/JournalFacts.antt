-- What ends and events stand for.
use Rattle.std.proofs.Common.{◌≡◌, ℕ, zero, suc, ◌+◌, ◌-◌, ◌<◌, ◌≤◌, List, [], ◌∷◌, ◌++◌, length, take, drop}
use Rattle.std.proofs.Common.{get_or, refl, ap, sym}
use Rattle.std.proofs.Common.{zero-add, ◌∙◌, arith, length-append, append-nil}
use Rattle.std.proofs.Math.Seq.{drop-append-add}
use Rattle.std.proofs.lemmas.List.{take_at, drop_at, take-append-drop}
use Rattle.std.proofs.lemmas.Grind.{flat_map-append}
use Rattle.pmp_core.specs.declared.event.Event.{Event}
use Rattle.pmp_core.specs.Histories.{joined}
use Rattle.pmp_share.specs.Batches.{Batches, event_count}
use Rattle.pmp_share.specs.Journals.{ends_from, cut_from, batches_of, IsCut}

pub joined-append : (xs ys : Batches) → joined (xs ++ ys) ≡ joined xs ++ joined ys
joined-append xs ys = flat_map-append (λ batch. batch) xs ys

pub event_count-append : (xs ys : Batches) → event_count (xs ++ ys) ≡ event_count xs + event_count ys
event_count-append xs ys = ap length (joined-append xs ys) ∙ length-append (joined xs) (joined ys)

pub length-ends_from : (before : ℕ) (batches : Batches) → length (ends_from before batches) ≡ length batches
unfolding ends_from
length-ends_from before [] = refl
length-ends_from before (b ∷ bs) = ap suc (length-ends_from (before + length b) bs)

-- a list cut at its own ends is that list
pub cut_from-ends_from : (n : ℕ) (bs : Batches) → cut_from n (ends_from n bs) (joined bs) ≡ bs
unfolding ends_from cut_from
cut_from-ends_from n [] = refl
cut_from-ends_from n (b ∷ bs) =
    let len : n + length b - n ≡ length b = omega arith in
    let front : take (n + length b - n) (b ++ joined bs) ≡ b = rw len (take_at b (joined bs) (length b) refl) in
    let back : drop (n + length b - n) (b ++ joined bs) ≡ joined bs = rw len (drop_at b (joined bs) (length b) refl) in
    let others = ap (cut_from (n + length b) (ends_from (n + length b) bs)) back
    ∙ cut_from-ends_from (n + length b) bs in
    λ i. front i ∷ others i

ends_from-append : (n : ℕ) (xs ys : Batches)
    → ends_from n (xs ++ ys) ≡ ends_from n xs ++ ends_from (n + event_count xs) ys
unfolding ends_from
ends_from-append n [] ys = ap (λ (k : ℕ). ends_from k ys) (omega arith)
ends_from-append n (x ∷ xs) ys =
    let later : n + length x + event_count xs ≡ n + event_count (x ∷ xs) =
    omega (arith, length-append x (joined xs)) in
    ap (λ (es : List ℕ). (n + length x) ∷ es)
    (ends_from-append (n + length x) xs ys ∙ ap (λ (k : ℕ). ends_from (n + length x) xs ++ ends_from k ys) later)

ends_from-take : (n k : ℕ) (bs : Batches) → ends_from n (take k bs) ≡ take k (ends_from n bs)
unfolding ends_from
ends_from-take n zero bs = refl
ends_from-take n (suc k) [] = refl
ends_from-take n (suc k) (b ∷ bs) = ap (λ (es : List ℕ). (n + length b) ∷ es) (ends_from-take (n + length b) k bs)

get_or-ends_from : (n j : ℕ) (bs : Batches) → j < length bs
    → get_or (ends_from n bs) j 0 ≡ n + event_count (take (suc j) bs)
unfolding ends_from
get_or-ends_from n j [] lt = absurd (omega arith)
get_or-ends_from n zero (b ∷ bs) lt = ap (λ (m : ℕ). n + m) (sym (ap length (append-nil b)))
get_or-ends_from n (suc j) (b ∷ bs) lt =
    get_or-ends_from (n + length b) j bs (omega arith)
    ∙ omega (arith, length-append b (joined (take (suc j) bs)))

joined-take : (k : ℕ) (bs : Batches) → joined (take k bs) ≡ take (event_count (take k bs)) (joined bs)
joined-take k bs =
    let parts : joined (take k bs) ++ joined (drop k bs) ≡ joined bs =
    sym (joined-append (take k bs) (drop k bs)) ∙ ap joined (take-append-drop k bs) in
    sym (ap (take (event_count (take k bs))) (sym parts)
    ∙ take_at (joined (take k bs)) (joined (drop k bs)) (event_count (take k bs)) refl)

-- the batch at a place, between where the batches before it end and where it ends
batch_between : (k : ℕ) (bs : Batches) → k < length bs
    → take (suc k) bs ≡ take k bs
    ++ take (event_count (take (suc k) bs) - event_count (take k bs)) (drop (event_count (take k bs)) (joined bs)) ∷ []
batch_between k [] lt = absurd (omega arith)
batch_between zero (b ∷ bs) lt =
    let len : event_count (b ∷ []) ≡ length b = ap length (append-nil b) in
    let all : event_count (b ∷ []) - 0 ≡ length b = omega (arith, len) in
    let front : take (event_count (b ∷ []) - 0) (b ++ joined bs) ≡ b = rw all (take_at b (joined bs) (length b) refl) in
    λ i. sym front i ∷ []
batch_between (suc k) (b ∷ bs) lt =
    let before : event_count (take (suc k) (b ∷ bs)) ≡ length b + event_count (take k bs) =
    length-append b (joined (take k bs)) in
    let up_to : event_count (take (suc (suc k)) (b ∷ bs)) ≡ length b + event_count (take (suc k) bs) =
    length-append b (joined (take (suc k) bs)) in
    let size : event_count (take (suc (suc k)) (b ∷ bs)) - event_count (take (suc k) (b ∷ bs))
    ≡ event_count (take (suc k) bs) - event_count (take k bs) = omega (arith, before, up_to) in
    let rest : drop (event_count (take (suc k) (b ∷ bs))) (b ++ joined bs)
    ≡ drop (event_count (take k bs)) (joined bs) =
    rw before (drop-append-add b (joined bs) (event_count (take k bs))) in
    ap (λ (x : Batches). b ∷ x) (batch_between k bs (omega arith))
    ∙ (λ i. b ∷ (take k bs ++ take (sym size i) (sym rest i) ∷ []))

-- ---- a journal that stands for these batches

pub record Stands (ends : List ℕ) (events : List Event) (batches : Batches) : Type 0 where
  pub joined_up : events ≡ joined batches
  pub ended : ends ≡ ends_from 0 batches

module _ (ends : List ℕ) (events : List Event) where
  pub length_ends : IsCut ends events → length (batches_of ends events) ≡ length ends
  length_ends is = sym (length-ends_from 0 (batches_of ends events)) ∙ ap length is.cut

  module _ (batches : Batches) (is : Stands ends events batches) where
    pub stands_for : batches_of ends events ≡ batches
    stands_for = (λ i. batches_of (is.ended i) (is.joined_up i)) ∙ cut_from-ends_from 0 batches

    pub stands_cut : IsCut ends events
    stands_cut = record {
      whole = ap joined stands_for ∙ sym is.joined_up;
      cut = ap (ends_from 0) stands_for ∙ sym is.ended;
    }

pub none_stands : Stands [] [] []
unfolding ends_from
none_stands = record { joined_up = refl; ended = refl }

module _ (ends : List ℕ) (events : List Event) (is : IsCut ends events) where
  counted : event_count (batches_of ends events) ≡ length events
  counted = ap length is.whole

  pub push_stands : (batch : List Event) (end : ℕ) → end ≡ length (events ++ batch)
      → Stands (ends ++ end ∷ []) (events ++ batch) (batches_of ends events ++ batch ∷ [])
  unfolding ends_from
  push_stands batch end at = record {
    joined_up =
        sym (joined-append (batches_of ends events) (batch ∷ [])
        ∙ (λ i. is.whole i ++ append-nil batch i));
    ended =
        let last : end ≡ 0 + event_count (batches_of ends events) + length batch =
        at ∙ omega (arith, length-append events batch, counted) in
        sym (ends_from-append 0 (batches_of ends events) (batch ∷ []) ∙ (λ i. is.cut i ++ sym last i ∷ []));
  }

  pub take_stands : (k : ℕ) (end : ℕ) → end ≡ event_count (take k (batches_of ends events))
      → Stands (take k ends) (take end events) (take k (batches_of ends events))
  take_stands k end at = record {
    joined_up = (λ i. take (at i) (sym is.whole i)) ∙ sym (joined-take k (batches_of ends events));
    ended = ap (take k) (sym is.cut) ∙ sym (ends_from-take 0 k (batches_of ends events));
  }

  pub end_at : (k : ℕ) → k < length ends → get_or ends k 0 ≡ event_count (take (suc k) (batches_of ends events))
  end_at k lt =
      ap (λ (es : List ℕ). get_or es k 0) (sym is.cut)
      ∙ get_or-ends_from 0 k (batches_of ends events) (omega (arith, length_ends ends events is))
      ∙ zero-add (event_count (take (suc k) (batches_of ends events)))

  -- where the first batches end, so many of them
  pub end_is : (batches end : ℕ) → batches ≤ length ends → (batches ≡ 0 → end ≡ 0)
      → ((k : ℕ) → batches ≡ k + 1 → end ≡ get_or ends k 0) → end ≡ event_count (take batches (batches_of ends events))
  end_is zero end le none last = none refl
  end_is (suc k) end le none last = last k (omega arith) ∙ end_at k (omega arith)

  pub batch_is : (k start end : ℕ) → k < length ends → start ≡ event_count (take k (batches_of ends events))
      → end ≡ event_count (take (suc k) (batches_of ends events))
      → take (suc k) (batches_of ends events)
      ≡ take k (batches_of ends events) ++ take (end - start) (drop start events) ∷ []
  batch_is k start end lt from to =
      batch_between k (batches_of ends events) (omega (arith, length_ends ends events is))
      ∙ (λ i. take k (batches_of ends events) ++ take (sym to i - sym from i) (drop (sym from i) (is.whole i)) ∷ [])

  pub batch_bounds : (k start end : ℕ) → k < length ends → start ≡ event_count (take k (batches_of ends events))
      → end ≡ event_count (take (suc k) (batches_of ends events)) → (start ≤ end) × (end ≤ length events)
  batch_bounds k start end lt from to =
      let bs : Batches = batches_of ends events in
      let one : List Event =
      take (event_count (take (suc k) bs) - event_count (take k bs)) (drop (event_count (take k bs)) (joined bs)) in
      let more = ap event_count (batch_between k bs (omega (arith, length_ends ends events is))) in (
        omega (arith, from, to, more, event_count-append (take k bs) (one ∷ [])),
        omega (
          arith,
          to,
          counted,
          ap event_count (take-append-drop (suc k) bs),
          event_count-append (take (suc k) bs) (drop (suc k) bs),
        ),
      )
