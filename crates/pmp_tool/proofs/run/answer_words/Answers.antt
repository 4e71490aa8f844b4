use Rattle.std.proofs.Common.{None, Some, map, refl, sym}
use Rattle.std.proofs.KnownBytes.{Keeps-refl}
use Rattle.std.proofs.lemmas.Result.{IfErr-weaker, IfOk-weaker, err_from_is_err_and}
use Rattle.pmp_text.specs.MetNames.{named}
use Rattle.pmp_tool.specs.Runs.{no_format, no_names, refused_word, twice, unasked, undone}
use Rattle.pmp_tool.proofs.Running.{names_fail}
use Rattle.pmp_tool.proofs.run.answer_words.Goals as goal

pub returns-in_err-form-clause-err : goal.returns-in_err-form-clause-err
returns-in_err-form-clause-err g c =
    let p = err_from_is_err_and c.from_residual.result c.from_residual.ensures.1 in
    rw (p.1, p.2) (unasked _ (no_format c.in_err-form.field-0.0 (sym c.in_err-form.ensures)) (Keeps-refl _))

pub returns-in_err-path-clause-err : goal.returns-in_err-path-clause-err
returns-in_err-path-clause-err g c =
    let exit = c.from_residual-in_err-path in
    let p = err_from_is_err_and exit.result exit.ensures.1 in
    rw (p.1, p.2) (unasked _ (twice c.in_err-path.field-0.0 (sym c.in_err-path.ensures)) (Keeps-refl _))

pub returns-in_err-request-clause-err : goal.returns-in_err-request-clause-err
returns-in_err-request-clause-err g c =
    let exit = c.from_residual-in_err-request in
    let p = err_from_is_err_and exit.result exit.ensures.1 in
    rw (p.1, p.2) (unasked _ (refused_word None None c.in_err-request.field-0.0
    (sym (rw c.in_default.is at c.in_ok-path.ensures)) refl (sym c.in_err-request.ensures)) (Keeps-refl _))

pub returns-in_default-clause-ok : goal.returns-in_default-clause-ok
returns-in_default-clause-ok g c =
    IfOk-weaker c.answer_request.result _ _ (λ outcome done. record {
      request = c.in_ok-request.request;
      names = None;
      form = c.in_ok-form.form;
      asks = record {
        format = sym c.in_ok-form.ensures;
        path = None;
        at = sym (rw c.in_default.is at c.in_ok-path.ensures);
        are = refl;
        asks = sym c.in_ok-request.ensures;
      };
      done = done;
    }) (rw (c.work_with.ensures.names, c.work_with.ensures.form) at c.answer_request.ensures.ok)

pub returns-in_default-clause-err : goal.returns-in_default-clause-err
returns-in_default-clause-err g c =
    IfErr-weaker c.answer_request.result _ _ (λ failure undone_is. undone c.in_ok-request.request None
    c.in_ok-form.form failure (record {
      format = sym c.in_ok-form.ensures;
      path = None;
      at = sym (rw c.in_default.is at c.in_ok-path.ensures);
      are = refl;
      asks = sym c.in_ok-request.ensures;
    }) undone_is) (rw (c.work_with.ensures.names, c.work_with.ensures.form) at c.answer_request.ensures.err)

pub returns-in_err-text-clause-err : goal.returns-in_err-text-clause-err
returns-in_err-text-clause-err g c =
    let exit = c.from_residual-in_err-text in
    let p = err_from_is_err_and exit.result exit.ensures.1 in
    rw (p.1, p.2) (unasked _ (no_names c.in-Some.path.now _ (sym (rw c.in-Some.is at c.in_ok-path.ensures))
    c.in_err-text.ensures.unread) (Keeps-refl _))

pub returns-in_err-names-clause-err : goal.returns-in_err-names-clause-err
returns-in_err-names-clause-err g c =
    let exit = c.from_residual-in_err-names in
    let p = err_from_is_err_and exit.result exit.ensures.1 in
    rw (p.1, p.2) (unasked _ (names_fail _ _ c.in-Some.path.now c.in_ok-text.text.items c.in_err-names.field-0.0
    (sym (rw c.in-Some.is at c.in_ok-path.ensures)) c.in_ok-text.ensures.read
    (rw c.deref.ensures.value at c.in_err-names.ensures.err)) (Keeps-refl _))

pub returns-in_err-request-2-clause-err : goal.returns-in_err-request-2-clause-err
returns-in_err-request-2-clause-err g c =
    let exit = c.from_residual-in_err-request-2 in
    let p = err_from_is_err_and exit.result exit.ensures.1 in
    let said = map named c.in_ok-names.names.items in
    rw (p.1, p.2) (unasked _ (refused_word (Some c.in-Some.path.now) (Some said) c.in_err-request-2.field-0.0
    (sym (rw c.in-Some.is at c.in_ok-path.ensures)) (
      c.in_ok-text.text.items,
      c.in_ok-text.ensures.read,
      (said, rw c.deref.ensures.value at c.in_ok-names.ensures.ok, refl),
    )
    (sym (rw c.deref-2.ensures.value at c.in_err-request-2.ensures))) (Keeps-refl _))

pub returns-clause-ok : goal.returns-clause-ok
returns-clause-ok g c =
    let said = map named c.in_ok-names.names.items in
    IfOk-weaker c.answer_request-2.result _ _ (λ outcome done. record {
      request = c.in_ok-request-2.request;
      names = Some said;
      form = c.in_ok-form.form;
      asks = record {
        format = sym c.in_ok-form.ensures;
        path = Some c.in-Some.path.now;
        at = sym (rw c.in-Some.is at c.in_ok-path.ensures);
        are = (
          c.in_ok-text.text.items,
          c.in_ok-text.ensures.read,
          (said, rw c.deref.ensures.value at c.in_ok-names.ensures.ok, refl),
        );
        asks = sym (rw c.deref-2.ensures.value at c.in_ok-request-2.ensures);
      };
      done = done;
    }) (rw (
      c.forget.ensures.paths,
      c.in_ok-text.ensures.paths,
      c.work_with-work.ensures.names,
      c.work_with-work.ensures.form,
      c.names_of.ensures,
      c.deref-3.ensures.value,
    ) at c.answer_request-2.ensures.ok)

pub returns-clause-err : goal.returns-clause-err
returns-clause-err g c =
    let said = map named c.in_ok-names.names.items in
    IfErr-weaker c.answer_request-2.result _ _ (λ failure undone_is. undone c.in_ok-request-2.request (Some said)
    c.in_ok-form.form failure (record {
      format = sym c.in_ok-form.ensures;
      path = Some c.in-Some.path.now;
      at = sym (rw c.in-Some.is at c.in_ok-path.ensures);
      are = (
        c.in_ok-text.text.items,
        c.in_ok-text.ensures.read,
        (said, rw c.deref.ensures.value at c.in_ok-names.ensures.ok, refl),
      );
      asks = sym (rw c.deref-2.ensures.value at c.in_ok-request-2.ensures);
    }) undone_is) (rw (
      c.forget.ensures.paths,
      c.in_ok-text.ensures.paths,
      c.work_with-work.ensures.names,
      c.work_with-work.ensures.form,
      c.names_of.ensures,
      c.deref-3.ensures.value,
    ) at c.answer_request-2.ensures.err)
