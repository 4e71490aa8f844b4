use Rattle.std.proofs.Common.{arith, rules, ◌≡◌, ◌+◌, Err, None, Some, false, drop, take}
use Rattle.pmp_text.specs.declared.input.InputFault.TheVariants.{TooLong}
use Rattle.std.proofs.lemmas.List.{length-drop, take_all}
use Rattle.pmp_text.proofs.CutPieces.{front, uncut}
use Rattle.pmp_text.proofs.cutter.cut_piece.Goals as goal

pub returns-in_err-end : goal.returns-in_err-end
returns-in_err-end g c =
    let stopped : c.from_residual-in_err-end.result ≡ Err TooLong = search rules in
    let nothing : c.last_line_end.result ≡ None = search rules in
    let going : c.in_ok-fill.field-0 ≡ false = c.if-branch.false in
    rw stopped (uncut _ _ _ _ _ (rw going at c.in_ok-fill.ensures.filled)
    (rw (nothing, c.deref.ensures.value) at c.last_line_end.ensures))

pub returns : goal.returns
returns g c =
    let going : c.in_ok-fill.field-0 ≡ false = c.if-branch.false in
    let found : c.last_line_end.result ≡ Some c.in_ok-end.end = search rules in
    let (some, inside, ends) = rw (found, c.deref.ensures.value) at c.last_line_end.ensures in
    let left : c.replace-2.new.dest.items ≡ drop c.in_ok-end.end c.fill.new.held.items =
    rw (c.replace-2.ensures.after, c.in_ok-rest.ensures.items, c.deref-2.ensures.value)
    (take_all _ _ (simp length-drop (omega arith))) in
    let piece : c.replace-2.result.items ≡ take (c.in_ok-end.end + 1) c.fill.new.held.items = search rules in
    front _ _ _ _ _ (rw going at c.in_ok-fill.ensures.filled) c.in_ok-end.end some inside ends _ _ left piece
