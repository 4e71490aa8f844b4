use Rattle.std.proofs.Common.{◌≡◌, ◌++◌, ◌∷◌, [], List, ℕ, get_or, sym, ap, ◌∙◌, append_assoc}
use Rattle.std.proofs.lemmas.List.{append-nil}
use Rattle.csv.specs.Writing.{default_writer, escaped}
use Rattle.pmp_text.proofs.CsvFields.{escaped_more}
use Rattle.pmp_text.proofs.lines.field.append_escaped.Goals as goal

pub loop-byte-init : goal.loop-byte-init
unfolding escaped
loop-byte-init g c = sym (append-nil (g.S.Sink.text c.args.out.now))

pub loop-byte-preserved : goal.loop-byte-preserved
loop-byte-preserved g c =
    let i = c.loop-byte.byte-index in
    let field = c.args.field.now in
    let before = g.S.Sink.text c.args.out.now in
    let byte : c.escaped_byte.result.now ≡ escaped default_writer (get_or field i 0 ∷ []) = c.escaped_byte.ensures in
    c.in_ok-append.ensures.ok ∙ (λ j. c.loop-byte.invariant j ++ byte j) ∙ append_assoc before _ _
    ∙ ap (λ (l : List ℕ). before ++ l) (escaped_more field i c.loop-byte-test.true)
