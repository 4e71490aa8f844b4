use Rattle.std.proofs.Common.{◌∙◌, [], ap, refl, sym}
use Rattle.std.proofs.lemmas.List.Elements.{All-nil}
use Rattle.std.proofs.lemmas.Result.{err_from_is_err_and}
use Rattle.pmp_text.specs.MetNames.{given_names}
use Rattle.pmp_names.specs.HartLists.{names_of}
use Rattle.pmp_tool.specs.NumberedInputs.{paths_for}
use Rattle.pmp_tool.proofs.Harting.{all_answered, answered_more, failed_on}
use Rattle.pmp_tool.proofs.hart_answers.answer_harts.Goals as goal

pub loop-hart-init : goal.loop-hart-init
loop-hart-init g c = record {
  answered = (
    [],
    record { each = All-nil _; names = sym (ap names_of c.as_slice-rest.ensures.value) },
    c.new-rows.ensures.items,
    refl,
  );
  paths = refl;
}

pub returns-in_err-one-clause-err : goal.returns-in_err-one-clause-err
returns-in_err-one-clause-err g c =
    let p = err_from_is_err_and c.from_residual.result c.from_residual.ensures.1 in
    let inv = c.loop-hart.invariant in
    let (answers, are, rows, outcome) = inv.answered in
    rw (p.1, p.2) (failed_on (paths_for (given_names c.args.asking.names) (g.I.Inputs.paths c.args.inputs.now))
    c.args.asking.path.now c.args.asking.question c.args.harts.now c.in-Some.hart.now (names_of c.in-Some.behind.now) answers
    (rw (ap names_of c.in-Some.ensures.cases.0) at are) _ (rw inv.paths at c.in_err-one.ensures.err))

pub loop-hart-preserved : goal.loop-hart-preserved
loop-hart-preserved g c =
    let inv = c.loop-hart.invariant in
    let (answers, are, rows, outcome) = inv.answered in
    record {
      answered = rw c.worse-outcome.ensures (answered_more
          (paths_for (given_names c.args.asking.names) (g.I.Inputs.paths c.args.inputs.now)) c.args.asking.path.now
          c.args.asking.question c.args.harts.now (given_names c.args.asking.names) c.in-Some.hart.now.name.bytes
          (names_of c.in-Some.behind.now) _ _ c.loop-hart.outcome c.in_ok-one.one answers
          (rw (ap names_of c.in-Some.ensures.cases.0) at are) rows outcome (rw inv.paths at c.in_ok-one.ensures.ok));
      paths = c.in_ok-one.ensures.paths ∙ inv.paths;
    }

pub returns-clause-ok : goal.returns-clause-ok
returns-clause-ok g c =
    let (answers, are, rows, outcome) = c.loop-hart.invariant.answered in
    record {
      answers = answers;
      are = all_answered (paths_for (given_names c.args.asking.names) (g.I.Inputs.paths c.args.inputs.now))
          c.args.asking.path.now c.args.asking.question c.args.harts.now c.loop-hart.rest.now answers
          c.in_default.ensures.cases are;
      rows_are = rows;
      is = outcome;
    }
