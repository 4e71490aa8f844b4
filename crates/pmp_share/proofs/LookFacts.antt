-- What one list of batches tells of another.
use Rattle.std.proofs.Common.{◌≡◌, ℕ, ◌≤◌, Bool, true, false, ◌&&◌, ◌||◌, nat_lt, nat_le, ◌==◌, [], ◌++◌, length}
use Rattle.std.proofs.Common.{refl, ap, sym, ◌∙◌, arith, append-nil, append_assoc, MatchBool}
use Rattle.std.proofs.lemmas.Bool.Decides.{nat_tests}
use Rattle.std.proofs.lemmas.List.{nil_from_length}
use mathlib.Core.List.{IsPrefix}
use Rattle.pmp_core.specs.Histories.{joined}
use Rattle.pmp_share.specs.Batches.{Batches, StartsWith, event_count}
use Rattle.pmp_share.specs.Looks.{is_as_late}
use Rattle.pmp_share.specs.Laws.{SameEventsLaw}
use Rattle.pmp_share.proofs.Fronts.{front_shorter}
use Rattle.pmp_share.proofs.JournalFacts.{joined-append, event_count-append}

pub starts_alike : (batches : Batches) → StartsWith batches batches
starts_alike batches = ([], sym (append-nil batches))

-- what begins a beginning begins the whole
pub starts_on : (batches front first : Batches) → StartsWith batches front → StartsWith front first
    → StartsWith batches first
starts_on batches front first (rest, e) (more, f) =
    (more ++ rest, e ∙ ap (λ (b : Batches). b ++ rest) f ∙ append_assoc first more rest)

pub begins_fewer : (batches front : Batches) → StartsWith batches front → event_count front ≤ event_count batches
begins_fewer batches front (rest, e) = omega (arith, ap event_count e, event_count-append front rest)

pub same_events_law : SameEventsLaw
same_events_law batches front (rest, e) same =
    let none : joined rest ≡ [] =
    nil_from_length (joined rest) (omega (arith, ap event_count e, event_count-append front rest)) in
    ap joined e ∙ joined-append front rest ∙ ap (λ es. joined front ++ es) none ∙ append-nil (joined front)

le_true : (m n : ℕ) → nat_le m n ≡ true → m ≤ n
le_true m n e = grind (arith, nat_tests)

le_false : (m n : ℕ) → nat_le m n ≡ false → n ≤ m
le_false m n e = grind (arith, nat_tests)

late_le : (a b m n : ℕ) → (nat_lt a b || (a == b && nat_le m n)) ≡ true → b ≤ a → m ≤ n
late_le a b m n e le = grind (arith, nat_tests)

early_le : (a b m n : ℕ) → (nat_lt a b || (a == b && nat_le m n)) ≡ false → a ≤ b → n ≤ m
early_le a b m n e le = grind (arith, nat_tests)

-- of two beginnings of one list the later one begins with the other
module _ (one other whole : Batches) (p : IsPrefix one whole) (q : IsPrefix other whole) where
  one_begins : length one ≤ length other → StartsWith other one
  one_begins le = let front = front_shorter one other whole p q le in (front.0, sym front.1)

  other_begins : length other ≤ length one → StartsWith one other
  other_begins le = let front = front_shorter other one whole q p le in (front.0, sym front.1)

  late_begins : (fewer : Bool) → nat_le (length one) (length other) ≡ fewer → is_as_late one other ≡ true
      → StartsWith other one
  late_begins true e is = one_begins (le_true _ _ e)
  late_begins false e is =
      one_begins (late_le _ _ _ _ is (begins_fewer one other (other_begins (le_false _ _ e))))

  early_begins : (fewer : Bool) → nat_le (length other) (length one) ≡ fewer → is_as_late one other ≡ false
      → StartsWith one other
  early_begins true e is = other_begins (le_true _ _ e)
  early_begins false e is =
      other_begins (early_le _ _ _ _ is (begins_fewer other one (one_begins (le_false _ _ e))))

  pub later_begins : (late : Bool) → is_as_late one other ≡ late
      → MatchBool late (StartsWith other one) (StartsWith one other)
  later_begins true is = late_begins (nat_le (length one) (length other)) refl is
  later_begins false is = early_begins (nat_le (length other) (length one)) refl is
