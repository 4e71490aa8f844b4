use Rattle.std.proofs.Common.{refl, sym, map, string_bytes, true≢false}
use Rattle.std.proofs.lemmas.Result.{IfErr-weaker}
use Rattle.std.proofs.KnownBytes.{Keeps-refl}
use Rattle.pmp_tool.specs.Runs.{no_text}
use Rattle.pmp_tool.proofs.Running.{answered, asked_for_text, refused_by_clap, text_told, unanswered}
use Rattle.pmp_tool.proofs.run.run.Goals as goal

pub returns-in-Ok-clause-ok : goal.returns-in-Ok-clause-ok
returns-in-Ok-clause-ok g c =
    let taken = c.in-Ok.ensures.ok in
    answered (map string_bytes c.args.words.now) _ _ _ taken.0 _ taken.1 c.answer_words.result
    (g.I.Inputs.paths c.answer_words.new.inputs) c.answer_words.ensures.ok

pub returns-in-Ok-clause-err : goal.returns-in-Ok-clause-err
returns-in-Ok-clause-err g c =
    let taken = c.in-Ok.ensures.ok in
    unanswered (map string_bytes c.args.words.now) _ _ _ taken.0 _ taken.1 c.answer_words.result
    c.answer_words.ensures.err

pub returns-in-Err-clause-err : goal.returns-in-Err-clause-err
returns-in-Err-clause-err g c =
    let kinds = c.if-use_stderr.ensures.0 refl in
    rw c.from.ensures (refused_by_clap _ _ _ _ c.in-Err.error c.in-Err.ensures.err kinds.0 kinds.1 (Keeps-refl _))

pub returns-in-Err-2-clause-ok : goal.returns-in-Err-2-clause-ok
returns-in-Err-2-clause-ok g c =
    let asked =
    asked_for_text (map string_bytes c.args.words.now) c.in-Err.error c.in-Err.ensures.err
    (λ refused. true≢false (sym (c.if-use_stderr.ensures.1 refused))) in
    text_told _ _ _ _ asked c.tell.result c.tell.ensures.ok

pub returns-in-Err-2-clause-err : goal.returns-in-Err-2-clause-err
returns-in-Err-2-clause-err g c =
    let asked =
    asked_for_text (map string_bytes c.args.words.now) c.in-Err.error c.in-Err.ensures.err
    (λ refused. true≢false (sym (c.if-use_stderr.ensures.1 refused))) in
    IfErr-weaker c.tell.result _ _ (λ failure fails. no_text failure asked fails) c.tell.ensures.err
