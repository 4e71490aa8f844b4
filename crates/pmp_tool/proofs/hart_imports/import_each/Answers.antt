use Rattle.std.proofs.Common.{◌∙◌, ap, length, arith, rules}
use Rattle.std.proofs.lemmas.List.Elements.{All-push}
use Rattle.std.proofs.lemmas.Result.{err_from_is_err_and}
use Rattle.pmp_tool.specs.HartImports.{IsOfHart, writers}
use Rattle.pmp_tool.proofs.HartImporting.{has_one_more, passed_over}
use Rattle.pmp_tool.proofs.hart_imports.import_each.Goals as goal
use Rattle.pmp_tool.proofs.hart_imports.import_each.Goals.{then-count-gt0+in_ok-add_hart, else-count-gt0}

pub returns-in_err-add_hart-clause-err : goal.returns-in_err-add_hart-clause-err
returns-in_err-add_hart-clause-err g c =
    let p = err_from_is_err_and c.from_residual.result c.from_residual.ensures.1 in
    let inv = c.loop-count.invariant in
    rw (p.1, p.2) (rw inv.paths at c.in_err-add_hart.ensures.err)

pub loop-count-preserved : goal.loop-count-preserved
loop-count-preserved g c =
    let inv = c.loop-count.invariant in
    let is = c.in-Some.ensures.cases.0 in
    elim c.if-count-gt0.branch [
      | then-count-gt0+in_ok-add_hart w ↦
          let added = rw inv.paths at w.in_ok-add_hart.ensures.ok in
          rw (w.all-is, w.inputs-is, added.items) (record {
            names = has_one_more (writers c.args.survey.now) c.loop-count.all.items added.script c.loop-count.hart
                c.in-Some.count.now c.loop-count.rest.now c.in-Some.behind.now (search rules) is added.hart_is inv.names;
            each = All-push (IsOfHart (g.I.Inputs.paths c.args.inputs.now) c.args.import) c.loop-count.all.items added.script inv.each added.of;
            counts = omega (arith, inv.counts, ap length is);
            paths = w.in_ok-add_hart.ensures.paths ∙ inv.paths;
          })
      | else-count-gt0 w ↦ rw (w.all-is, w.inputs-is) (record {
        names = passed_over (writers c.args.survey.now) c.loop-count.all.items c.loop-count.hart c.in-Some.count.now
            c.loop-count.rest.now c.in-Some.behind.now (search rules) is inv.names;
        each = inv.each;
        counts = omega (arith, inv.counts, ap length is);
        paths = inv.paths;
      })
    ]
