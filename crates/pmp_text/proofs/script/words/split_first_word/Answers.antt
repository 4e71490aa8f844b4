use Rattle.std.proofs.Common.{sym, ◌≡◌, ◌-◌, length, take, drop, arith}
use Rattle.std.proofs.lemmas.List.{take_all, length-drop}
use Rattle.pmp_text.proofs.Cuts.{is_not_blank, position_missed, no_words, first_word}
use Rattle.pmp_text.proofs.script.words.split_first_word.Goals as goal

pub returns-in_err-start : goal.returns-in_err-start
returns-in_err-start c = rw c.from_residual.ensures (no_words c.args.line.now
    (position_missed is_not_blank c.args.line.now (sym c.in_err-start.ensures)))

pub returns : goal.returns
returns c =
    let line = c.args.line.now in
    let start = c.in_ok-start.start in
    let rest : take (length line - start) (drop start line) ≡ drop start line =
    take_all (length line - start) (drop start line) (omega (arith, length-drop start line)) in
    rw (c.split_at_blank.ensures.word, c.split_at_blank.ensures.rest, rest)
    (first_word line start (sym c.in_ok-start.ensures))
