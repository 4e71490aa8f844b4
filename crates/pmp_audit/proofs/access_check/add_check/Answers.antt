use Rattle.std.proofs.Common.{◌∷◌, [], refl}
use Rattle.pmp_text.specs.AnswerRows.{answer_row}
use Rattle.pmp_audit.proofs.access_check.add_check.Goals as goal

pub returns-clause-ok : goal.returns-clause-ok
returns-clause-ok g c = let given = c.in_ok-file.ensures.ok in record {
  rows = answer_row 1 c.args.access.now c.decide-decision.result ∷ [];
  says = record {
    contents = given.contents;
    script_means = given.script_means;
    done = given.done;
    asked = given.asked;
    within = given.within;
    by_bytes = rw (← given.file_is) c.decide-decision.ensures.by_bytes;
    rows_are = refl;
  };
  added = c.in_ok-add_answer.ensures.ok;
}
