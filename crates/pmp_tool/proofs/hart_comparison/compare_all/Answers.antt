use Rattle.std.proofs.Common.{◌∙◌, ap, false, None, refl, sym, true}
use Rattle.std.proofs.lemmas.Result.{IfErr-weaker, IfOk-weaker, err_from_is_err_and}
use Rattle.pmp_tool.specs.declared.hart_comparison.Comparison.{Comparison}
use Rattle.pmp_tool.specs.declared.request.Question.{Question}
use Rattle.pmp_tool.specs.declared.request.Question.TheVariants.{Diff}
use Rattle.pmp_tool.specs.HartComparisons.{no_room_for_path, uncompared}
use Rattle.pmp_tool.specs.Harts.{path_on}
use Rattle.pmp_tool.proofs.HartComparing.{first_of, some_hart}
use Rattle.pmp_tool.proofs.hart_comparison.compare_all.Goals as goal

abbrev compared : Comparison → Question
compared asked = Diff (record {
  new = asked.folder;
  old_after = None;
  new_after = None;
  changes = record { only = None; has_locks = asked.has_locks };
})

pub returns-in_default-clause-err : goal.returns-in_default-clause-err
returns-in_default-clause-err g c =
    let (files, is, are) = c.requires in
    absurd (some_hart files c.args.names.items are (rw c.deref.ensures.value at c.in_default.ensures.item.3))

pub returns-in_err-path-clause-err : goal.returns-in_err-path-clause-err
returns-in_err-path-clause-err g c =
    let p = err_from_is_err_and c.from_residual.result c.from_residual.ensures.1 in
    rw (p.1, p.2) no_room_for_path

pub returns-clause-ok : goal.returns-clause-ok
returns-clause-ok g c =
    let path = c.as_str-2.ensures.value ∙ c.in_ok-path.ensures
    ∙ ap (path_on true c.args.asked.folder.now) c.as_str.ensures.value in
    let (rest, are) = first_of c.args.names.items c.in-Some.first.now (rw c.deref.ensures.value at c.in-Some.ensures.value) in
    IfOk-weaker c.answer_harts.result _ _ (λ both says. record {
      first = c.in-Some.first.now.name.bytes;
      one = compared c.args.asked;
      harts = record { old = false; new = true; names = c.args.names };
      is = record { rest = rest; are = are; found = c.requires; asks = refl; is_old = refl; is_new = refl };
      says = rw (sym path) says;
    }) c.answer_harts.ensures.ok

pub returns-clause-err : goal.returns-clause-err
returns-clause-err g c =
    let path = c.as_str-2.ensures.value ∙ c.in_ok-path.ensures
    ∙ ap (path_on true c.args.asked.folder.now) c.as_str.ensures.value in
    let (rest, are) = first_of c.args.names.items c.in-Some.first.now (rw c.deref.ensures.value at c.in-Some.ensures.value) in
    IfErr-weaker c.answer_harts.result _ _ (λ failure fails. uncompared c.in-Some.first.now.name.bytes (compared c.args.asked)
    (record { old = false; new = true; names = c.args.names }) failure
    (record { rest = rest; are = are; found = c.requires; asks = refl; is_old = refl; is_new = refl })
    (rw (sym path) fails)) c.answer_harts.ensures.err
