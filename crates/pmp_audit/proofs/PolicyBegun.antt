-- How the breaches of a policy's row grow from state to state.
use Rattle.std.proofs.Common.{◌≡◌, ◌∙◌, ◌<◌, ℕ, suc, ◌+◌, List, [], ◌∷◌, ◌++◌, Option, None, Some, append_assoc, drop}
use Rattle.std.proofs.Common.{filter_map, get_or, length, map, refl}
use Rattle.std.specs.List.{flat_map}
use Rattle.std.proofs.lemmas.List.{drop_more}
use Rattle.pmp_core.specs.RegisterFile.{RegisterFile}
use Rattle.pmp_map.specs.declared.run.Run.{Run}
use Rattle.pmp_text.specs.declared.lines.verdict.Breach.{Breach}
use Rattle.pmp_text.specs.declared.policy.PolicyRow.{PolicyRow}
use Rattle.pmp_text.specs.declared.policy.Demand.{Demand}
use Rattle.pmp_text.specs.declared.policy.Demand.TheVariants.{Never, Always, Held}
use Rattle.pmp_audit.specs.declared.policy_check.question.Question.TheVariants.{IsBroken, IsNotHeld}
use Rattle.pmp_audit.specs.PolicyBreaches.{AreBegun, AreHits, AreLoose, begun}

module _ (states : ℕ → RegisterFile) (row : PolicyRow) (from : ℕ) where
  pub begun_first : (all : List Breach) (hits : List Run) → AreHits IsBroken (states from) row hits
      → all ≡ begun from [] hits → AreBegun states row from 0 all
  unfolding AreBegun
  begun_first all hits are is = (hits, are, is)

  pub begun_next : (more : ℕ) (front all : List Breach) (before now : List Run) → AreBegun states row from more front
      → AreHits IsBroken (states (from + more)) row before → AreHits IsBroken (states (from + suc more)) row now
      → all ≡ front ++ begun (from + suc more) before now → AreBegun states row from (suc more) all
  unfolding AreBegun
  begun_next more front all before now first old new is = (front, before, now, first, old, new, is)

-- the next of a list is kept, or isn't
module _ {X Y : Type 0} (h : X → Option Y) (xs : List X) (i : ℕ) (d : X) (front all : List Y) (inside : i < length xs)
    (so_far : front ++ filter_map h (drop i xs) ≡ all) where
  pub one_kept : (y : Y) → h (get_or xs i d) ≡ Some y → (front ++ y ∷ []) ++ filter_map h (drop (i + 1) xs) ≡ all
  one_kept y is = append_assoc front (y ∷ []) (filter_map h (drop (i + 1) xs)) ∙ rw (drop_more xs i d inside, is) at so_far

  pub none_kept : h (get_or xs i d) ≡ None → front ++ filter_map h (drop (i + 1) xs) ≡ all
  none_kept is = rw (drop_more xs i d inside, is) at so_far

-- the rows of the next breach, and of those behind it
pub rows_more : {X Y : Type 0} (g : X → Y) (line : Y → List ℕ) (xs : List X) (i : ℕ) (d : X) (front all : List ℕ)
    → i < length xs → front ++ flat_map line (map g (drop i xs)) ≡ all
    → (front ++ line (g (get_or xs i d))) ++ flat_map line (map g (drop (i + 1) xs)) ≡ all
rows_more g line xs i d front all inside so_far =
    append_assoc front (line (g (get_or xs i d))) (flat_map line (map g (drop (i + 1) xs)))
    ∙ (rw (drop_more xs i d inside) at so_far)

-- of `held`, if no byte is open, locks are looked at
pub loose_here : (demand : Demand) (found : List Breach) (last : RegisterFile) (row : PolicyRow) (to : ℕ)
    (loose : List Run) → demand ≡ Held → found ≡ [] → AreHits IsNotHeld last row loose
    → AreLoose demand found last row to (begun to [] loose)
loose_here demand found last row to loose held none are = rw (held, none) (loose, are, refl)

-- else they aren't
pub none_loose : (demand : Demand) (found : List Breach) (last : RegisterFile) (row : PolicyRow) (to : ℕ)
    → (demand ≡ Held → found ≡ [] → ⊥) → AreLoose demand found last row to []
none_loose Never found last row to other = refl
none_loose Always found last row to other = refl
none_loose Held [] last row to other = absurd (other refl refl)
none_loose Held (breach ∷ found) last row to other = refl
