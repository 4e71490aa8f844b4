use Rattle.std.proofs.lemmas.Result.{err_from_is_err_and}
use Rattle.std.proofs.Common.{◌≡◌, ◌∙◌, ℕ, List, [], inl, refl, length, take, drop, sym, ap, ◌-◌, ◌≤◌, arith}
use Rattle.std.specs.Prelude.{Any}
use Rattle.std.proofs.lemmas.Bool.{false≢true}
use Rattle.std.proofs.lemmas.List.{length-drop, take_all}
use Rattle.pmp_text.specs.declared.trace.TraceRow.{TraceRow}
use Rattle.pmp_audit.specs.Rounds.{asking}
use Rattle.pmp_audit.proofs.Asking.{some_asks}
use Rattle.pmp_audit.proofs.shared_audit.rounds.decide_asking.Goals as goal

-- where the rows at the front are asked for, some row is
asked : (after count : ℕ) (rows next : List TraceRow) → count ≤ length rows
    → next ≡ asking after (take (length rows - count) (drop count rows)) → (next ≡ [] → ⊥)
    → Any (λ row. row.after ≡ after) rows
asked after count rows next within is some =
    let left = drop count rows in
    let whole : take (length rows - count) left ≡ left =
    take_all (length rows - count) left (omega (arith, length-drop count rows)) in
    some_asks after count rows (λ none. some (is ∙ ap (asking after) whole ∙ none))

pub returns-in_err-idle-clause-err : goal.returns-in_err-idle-clause-err
returns-in_err-idle-clause-err g c =
    let p = err_from_is_err_and c.from_residual.result c.from_residual.ensures.1 in
    rw (p.1, p.2) (
      inl refl,
      asked c.args.after c.len.result c.args.rows.now c.asking-next.result.now (omega arith)
          c.asking-next.ensures (λ none. false≢true (sym c.if-is_empty.false ∙ rw none at c.is_empty.ensures)),
    )

pub returns-in_err-round-clause-err : goal.returns-in_err-round-clause-err
returns-in_err-round-clause-err g c =
    let p = err_from_is_err_and c.from_residual-in_err-round.result c.from_residual-in_err-round.ensures.1 in
    rw (p.1, p.2) (
      c.in_err-round.ensures.err,
      asked c.args.after c.len.result c.args.rows.now c.asking-next.result.now (omega arith)
          c.asking-next.ensures (λ none. false≢true (sym c.if-is_empty.false ∙ rw none at c.is_empty.ensures)),
    )

pub returns-in_err-append-clause-err : goal.returns-in_err-append-clause-err
returns-in_err-append-clause-err g c =
    let p = err_from_is_err_and c.from_residual-in_err-append.result c.from_residual-in_err-append.ensures.1 in
    rw (p.1, p.2) (
      inl refl,
      asked c.args.after c.len.result c.args.rows.now c.asking-next.result.now (omega arith)
          c.asking-next.ensures (λ none. false≢true (sym c.if-is_empty.false ∙ rw none at c.is_empty.ensures)),
    )
