-- Two scripts have one list of differences.
use Rattle.std.proofs.Common.{◌≡◌, ◌+◌, ◌++◌, ℕ, Bool, true, false, List, Option, ap, ap₂, subst, sym, ◌∙◌}
use Rattle.pmp_core.specs.RegisterFile.{RegisterFile}
use Rattle.pmp_map.specs.declared.compared.Aspect.{Aspect}
use Rattle.pmp_map.specs.declared.compared.Aspect.TheVariants.{Rights, Locks}
use Rattle.pmp_map.specs.declared.compared_run.ComparedRun.{ComparedRun}
use Rattle.pmp_map.specs.ComparedRuns.{AreComparedRuns}
use Rattle.pmp_text.specs.Changes.{change_count, change_rows}
use Rattle.pmp_text.specs.declared.lines.changes.Only.{Only}
use Rattle.pmp_text.specs.declared.moments.When.{When}
use Rattle.pmp_text.specs.Cells.{RowValue}
use Rattle.pmp_text.specs.Contents.{ScriptContents}
use Rattle.pmp_text.specs.Reports.{file_of_script}
use Rattle.pmp_audit.specs.declared.script_diff.AskedChanges.{AskedChanges}
use Rattle.pmp_audit.specs.AskedFile.{IsAsked}
use Rattle.pmp_audit.specs.ScriptDiff.{ChangesSay, FilesSay, GivesFile, LocksSay}
use Rattle.pmp_audit.specs.Laws.{OneDifferenceLaw}
use Rattle.pmp_audit.proofs.LastingMoments.{one_count}

-- a script gives one file
one_file : (script : List ℕ) (after : Option When) (one other : RegisterFile) → GivesFile script after one
    → GivesFile script after other → one ≡ other
one_file script after one other is too =
    let contents : is.contents ≡ too.contents = cc (is.script_means, too.script_means) in
    let asked = subst (λ (s : ScriptContents). IsAsked after s is.done) contents is.asked in
    let done = one_count too.contents after is.done too.done asked too.asked in
    is.file_is ∙ (λ i. file_of_script (contents i) (done i)) ∙ sym too.file_is

-- the same number of rows, and the same rows
abbrev AreSame : (one other : ℕ) (text another : List RowValue) → Type 0
AreSame one other text another = (one ≡ other) × (text ≡ another)

module _ (one_list : (aspect : Aspect) (old new : RegisterFile) (one other : List ComparedRun)
    → AreComparedRuns aspect old new one → AreComparedRuns aspect old new other → one ≡ other) where
  one_aspect : (aspect : Aspect) (old new : RegisterFile) (only : Option Only) (one other : ℕ) (text another : List RowValue)
      → ChangesSay aspect old new only one text → ChangesSay aspect old new only other another
      → AreSame one other text another
  one_aspect aspect old new only one other text another said too =
      let runs = one_list aspect old new said.runs too.runs said.runs_are too.runs_are in (
        said.counted ∙ ap (change_count only) runs ∙ sym too.counted,
        said.rows_are ∙ ap (change_rows only) runs ∙ sym too.rows_are,
      )

  one_of_locks : (old new : RegisterFile) (only : Option Only) (has_locks : Bool) (one other : ℕ)
      (text another : List RowValue) → LocksSay old new only has_locks one text → LocksSay old new only has_locks other another
      → AreSame one other text another
  one_of_locks old new only true one other text another said too = one_aspect Locks old new only one other text another said too
  one_of_locks old new only false one other text another said too = (said.0 ∙ sym too.0, said.1 ∙ sym too.1)

  one_of_files : (old new : RegisterFile) (asked : AskedChanges) (one other : ℕ) (text another : List RowValue)
      → FilesSay old new asked one text → FilesSay old new asked other another → AreSame one other text another
  one_of_files old new asked one other text another said too =
      let rights = one_aspect Rights old new asked.only said.rights_count too.rights_count said.rights_rows too.rights_rows
      said.rights too.rights in
      let locks = one_of_locks old new asked.only asked.has_locks said.locks_count too.locks_count said.locks_rows
      too.locks_rows said.locks too.locks in (
        said.counted ∙ ap₂ (λ (m n : ℕ). m + n) rights.0 locks.0 ∙ sym too.counted,
        said.rows_are ∙ ap₂ (λ (l m : List RowValue). l ++ m) rights.1 locks.1 ∙ sym too.rows_are,
      )

  pub one_difference : OneDifferenceLaw
  one_difference old old_after new new_after asked one other text another said too =
      let olds = one_file old old_after said.old_file too.old_file said.old_gives too.old_gives in
      let news = one_file new new_after said.new_file too.new_file said.new_gives too.new_gives in
      one_of_files too.old_file too.new_file asked one other text another (rw (olds, news) at said.changes) too.changes
