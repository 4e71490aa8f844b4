-- Rows of a difference, range by range.
use Rattle.std.proofs.Common.{◌≡◌, ℕ, ◌+◌, ◌≤◌, Bool, true, false, cond, List, [], ◌∷◌, ◌++◌, Option, refl, sym, ap, ◌∙◌}
use Rattle.std.proofs.Common.{append-nil, arith}
use Rattle.std.proofs.lemmas.List.Concat.{flat_map-append}
use Rattle.std.proofs.lemmas.List.Sums.{sum_by-append}
use Rattle.pmp_core.specs.declared.access.TheConstants.{ADDRESS_LIMIT}
use Rattle.pmp_core.specs.RegisterFile.{RegisterFile}
use Rattle.pmp_map.specs.declared.compared.Aspect.{Aspect}
use Rattle.pmp_map.specs.declared.compared.Aspect.TheVariants.{Rights}
use Rattle.pmp_map.specs.declared.compared_run.ComparedRun.{ComparedRun}
use Rattle.pmp_map.specs.ComparedRuns.{AreComparedRunsFrom, IsComparedRun}
use Rattle.pmp_map.proofs.ComparedRuns.{one_run_more}
use Rattle.pmp_text.specs.declared.lines.changes.Only.{Only}
use Rattle.pmp_text.specs.Cells.{RowValue}
use Rattle.pmp_text.specs.Changes.{asked_rows, change_count, change_rows, has_row}
use Rattle.pmp_audit.specs.Answers.{AreAdded}
use Rattle.pmp_audit.specs.declared.script_diff.AskedChanges.{AskedChanges}
use Rattle.pmp_audit.specs.ScriptDiff.{ChangesSay, FilesSay, LocksSay}

-- the rows of the ranges below this byte were added and counted
pub record AreWrittenTo {A : Type 0} (Adds : List RowValue → A → A → Type 0) (aspect : Aspect) (old new : RegisterFile)
    (only : Option Only) (before : A) (first count : ℕ) (after : A) : Type 0 where
  pub inside : first ≤ ADDRESS_LIMIT
  pub few : count ≤ first
  pub runs : List ComparedRun
  pub runs_are : AreComparedRunsFrom aspect old new 0 first runs
  pub added : Adds (change_rows only runs) before after
  pub counted : count ≡ change_count only runs

count_more : (only : Option Only) (runs : List ComparedRun) (run : ComparedRun)
    → change_count only (runs ++ run ∷ []) ≡ change_count only runs + cond (has_row only run) 1 0
count_more only runs run =
    sum_by-append (λ (r : ComparedRun). cond (has_row only r) 1 0) runs (run ∷ []) ∙ omega arith

rows_more : (only : Option Only) (runs : List ComparedRun) (run : ComparedRun)
    → change_rows only (runs ++ run ∷ []) ≡ change_rows only runs ++ asked_rows only run
rows_more only runs run =
    flat_map-append (asked_rows only) runs (run ∷ [])
    ∙ ap (λ l. change_rows only runs ++ l) (append-nil (asked_rows only run))

module _ {A : Type 0} (Adds : List RowValue → A → A → Type 0) (none : (rows : A) → Adds [] rows rows)
    (both : (one other : List RowValue) (first second third : A) → Adds one first second → Adds other second third
    → Adds (one ++ other) first third) where
  module _ (aspect : Aspect) (old new : RegisterFile) (only : Option Only) (before : A) where
    pub none_written : AreWrittenTo Adds aspect old new only before 0 0 before
    none_written = record {
      inside = omega arith;
      few = omega arith;
      runs = [];
      runs_are = refl;
      added = none before;
      counted = refl;
    }

    pub one_more_written : (first count : ℕ) (after longer : A) (run : ComparedRun)
        → AreWrittenTo Adds aspect old new only before first count after → run.first ≡ first
        → IsComparedRun aspect old new run → Adds (asked_rows only run) after longer
        → AreWrittenTo Adds aspect old new only before (run.last + 1) (count + cond (has_row only run) 1 0) longer
    one_more_written first count after longer run so_far begins is added = record {
      inside = omega (arith, is.below);
      few = elim (has_row only run) as (λ b. count + cond b 1 0 ≤ run.last + 1) [
        | true ↦ omega (arith, so_far.few, begins, is.proper)
        | false ↦ omega (arith, so_far.few, begins, is.proper)
      ];
      runs = so_far.runs ++ run ∷ [];
      runs_are = one_run_more aspect old new 0 first so_far.runs run so_far.runs_are begins is;
      added = rw (rows_more only so_far.runs run) (both _ _ _ _ _ so_far.added added);
      counted = ap (λ n. n + cond (has_row only run) 1 0) so_far.counted ∙ sym (count_more only so_far.runs run);
    }

    pub all_written : (first count : ℕ) (after : A) → AreWrittenTo Adds aspect old new only before first count after
        → first ≡ ADDRESS_LIMIT → AreAdded Adds (ChangesSay aspect old new only) before after count
    all_written first count after so_far whole = record {
      rows = change_rows only so_far.runs;
      says = record {
        runs = so_far.runs;
        runs_are = rw whole at so_far.runs_are;
        rows_are = refl;
        counted = so_far.counted;
      };
      added = so_far.added;
    }

  -- no rows of locks are asked for
  pub none_asked : (old new : RegisterFile) (only : Option Only) (has_locks : Bool) (before : A) → has_locks ≡ false
      → AreAdded Adds (LocksSay old new only has_locks) before before 0
  none_asked old new only has_locks before is =
      rw is (record { rows = []; says = (refl, refl); added = none before })

  -- the rows of rights were added, and then those of locks
  pub both_written : (old new : RegisterFile) (asked : AskedChanges) (before between after : A) (rights locks : ℕ)
      → AreAdded Adds (ChangesSay Rights old new asked.only) before between rights
      → AreAdded Adds (LocksSay old new asked.only asked.has_locks) between after locks
      → AreAdded Adds (FilesSay old new asked) before after (rights + locks)
  both_written old new asked before between after rights locks first next = record {
    rows = first.rows ++ next.rows;
    says = record {
      rights_count = rights;
      rights_rows = first.rows;
      rights = first.says;
      locks_count = locks;
      locks_rows = next.rows;
      locks = next.says;
      rows_are = refl;
      counted = refl;
    };
    added = both _ _ _ _ _ first.added next.added;
  }
