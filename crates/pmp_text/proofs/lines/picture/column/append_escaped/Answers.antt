use Rattle.std.proofs.Common.{◌≡◌, ◌∙◌, ◌++◌, List, ℕ, append-nil, ap, get_or, sym, take}
use Rattle.std.specs.List.{flat_map}
use Rattle.std.proofs.lemmas.List.{flat_map_more, take_more}
use Rattle.pmp_text.specs.Picture.{escaped_byte}
use Rattle.pmp_text.proofs.lines.picture.column.append_escaped.Goals as goal

pub loop-byte-init : goal.loop-byte-init
loop-byte-init g c = sym (append-nil (g.S.Sink.text c.args.out.now))

pub loop-byte-preserved : goal.loop-byte-preserved
loop-byte-preserved g c =
    let i = c.loop-byte.byte-index in
    let text = c.args.text.now in
    let before = g.S.Sink.text c.args.out.now in
    let one : c.escaped_byte.result.now ≡ escaped_byte (get_or text i 0) = c.escaped_byte.ensures in
    c.in_ok-append.ensures.ok ∙ (λ j. c.loop-byte.invariant j ++ one j)
    ∙ flat_map_more escaped_byte before (take i text) (get_or text i 0)
    ∙ ap (λ (l : List ℕ). before ++ flat_map escaped_byte l) (sym (take_more text i 0 c.loop-byte-test.true))
