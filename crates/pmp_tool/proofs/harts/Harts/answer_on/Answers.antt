use Rattle.std.proofs.Common.{◌≡◌, ◌∙◌, ap, refl, sym}
use Rattle.std.proofs.lemmas.Result.{err_from_is_err_and}
use Rattle.pmp_tool.specs.HartSteps.{fails_alone, lacks_room}
use Rattle.pmp_tool.specs.Harts.{path_on}
use Rattle.pmp_tool.proofs.Harting.{new_path, query_of_hart}
use Rattle.pmp_tool.proofs.harts.Harts.answer_on.Goals as goal

pub returns-in_err-path-clause-err : goal.returns-in_err-path-clause-err
returns-in_err-path-clause-err g c =
    let p = err_from_is_err_and c.from_residual.result c.from_residual.ensures.1 in
    rw (p.1, p.2) lacks_room

pub returns-in_err-new-clause-err : goal.returns-in_err-new-clause-err
returns-in_err-new-clause-err g c =
    let exit = c.from_residual-in_err-new in
    let p = err_from_is_err_and exit.result exit.ensures.1 in
    rw (p.1, p.2) lacks_room

pub returns-in-Ok-clause-ok : goal.returns-in-Ok-clause-ok
returns-in-Ok-clause-ok g c =
    let name = c.as_str-name.ensures.value in
    let path = c.as_str.ensures.value ∙ c.in_ok-path.ensures
    ∙ ap (path_on c.args.self.now.old c.args.asking.path.now) name in
    let (own, says, rows) = rw c.forget.ensures.paths at c.in-Ok.ensures.ok in
    record {
      answer = record { name = c.args.hart.now.name.bytes; outcome = c.in-Ok.outcome; rows = own };
      is = record {
        one = c.with_new.result;
        is_on = query_of_hart c.args.self.now.new c.args.hart.now.name.bytes c.as_str-2.result.now c.args.asking.question
            c.with_new.result
            (c.as_str-2.ensures.value ∙ c.in_ok-new.ensures ∙ new_path c.args.self.now.new c.args.asking.question name)
            c.with_new.ensures.query;
        says = rw (sym path) says;
      };
      name_is = refl;
      outcome_is = refl;
      rows = rw (c.with_new.ensures.names, name) at rows;
    }

pub returns-clause-err : goal.returns-clause-err
returns-clause-err g c =
    let name = c.as_str-name.ensures.value in
    let path = c.as_str.ensures.value ∙ c.in_ok-path.ensures
    ∙ ap (path_on c.args.self.now.old c.args.asking.path.now) name in
    rw c.of_hart.ensures (fails_alone c.with_new.result c.in-Err.failure
    (query_of_hart c.args.self.now.new c.args.hart.now.name.bytes c.as_str-2.result.now c.args.asking.question
    c.with_new.result
    (c.as_str-2.ensures.value ∙ c.in_ok-new.ensures ∙ new_path c.args.self.now.new c.args.asking.question name)
    c.with_new.ensures.query) (rw (sym path) (rw c.forget.ensures.paths at c.in-Err.ensures.err)))
