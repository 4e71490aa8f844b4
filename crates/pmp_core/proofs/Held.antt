-- Entries that are all frozen.
use borrow.Author.Tests.{tests}
use Rattle.std.proofs.Common.{rules, ◌≡◌, ℕ, ◌+◌, ◌<◌, ◌≤◌, true, List, length, fold, get_or}
use Rattle.std.proofs.Common.{arith}
use Rattle.std.specs.List.{list_all, range_with_len}
use Rattle.std.proofs.lemmas.List.FromFn.{get_or-range_with_len, length-range_with_len}
use Rattle.std.proofs.lemmas.List.Sums.{AllPass-from_list_all, list_all-from_AllPass}
use Rattle.pmp_core.specs.declared.event.Event.{Event}
use Rattle.pmp_core.specs.RegisterFile.{RegisterFile, is_frozen, is_held}
use Rattle.pmp_core.specs.RegisterWrite.{step}
use Rattle.pmp_core.specs.Histories.{is_write}
use Rattle.pmp_core.proofs.Locks.{lock_law}

number_at : (i k d : ℕ) → k ≤ i → get_or (range_with_len 0 (i + 1)) k d ≡ k
number_at i k d within = omega (arith, get_or-range_with_len 0 (i + 1) k d (omega arith))

pub held_at : (file : RegisterFile) (i j : ℕ) → j ≤ i → is_held file i ≡ true → is_frozen file j ≡ true
held_at file i j within held =
    let entries = range_with_len 0 (i + 1) in
    let inside : j < length entries = omega (arith, length-range_with_len 0 (i + 1)) in
    rw (number_at i j 0 within) at (AllPass-from_list_all (is_frozen file) entries held j 0 inside)

pub held_by_all : (file : RegisterFile) (i : ℕ) → ((j : ℕ) → j ≤ i → is_frozen file j ≡ true) → is_held file i ≡ true
held_by_all file i all = search (rules, tests, list_all-from_AllPass, length-range_with_len, number_at)

pub held_still : (file : RegisterFile) (i : ℕ) (events : List Event) → is_held file i ≡ true
    → list_all is_write events ≡ true → is_held (fold step file events) i ≡ true
held_still file i events held writes = search (rules, tests, held_by_all, lock_law, held_at)
