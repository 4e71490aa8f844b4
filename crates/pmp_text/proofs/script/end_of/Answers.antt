use Rattle.std.proofs.Common.{◌≡◌, ℕ, suc, ◌-◌, take, sym, ap, ◌∙◌, arith}
use Rattle.pmp_text.specs.Steps.Cuts.{last_end}
use Rattle.pmp_text.proofs.Pieces.{end_at}
use Rattle.pmp_text.proofs.script.end_of.Goals as goal

pub returns : goal.returns
returns c =
    let ends = c.args.ends.now in
    let all : suc (c.args.publications - 1) ≡ c.args.publications = omega arith in
    sym (end_at (c.args.publications - 1) _ 0 ends (omega arith))
    ∙ ap (λ (n : ℕ). last_end 0 (take n ends)) all
