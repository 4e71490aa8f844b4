use Rattle.std.proofs.Common.{◌∙◌, sym, map, string_bytes}
use Rattle.pmp_tool.specs.Explanations.{asks_to_explain, is_explain}
use Rattle.pmp_tool.specs.Failures.{failure_text}
use Rattle.pmp_tool.proofs.Explaining.{alone, any_mapped, followed}
use Rattle.pmp_tool.proofs.explanation.tell_and_explain.Goals as goal

pub returns-in-Ok : goal.returns-in-Ok
returns-in-Ok g c =
    let words = c.args.words.now in
    let asked =
    any_mapped is_explain string_bytes words ∙ sym c.asks_to_explain.ensures ∙ c.if-asks_to_explain.true in
    followed (asks_to_explain (map string_bytes words)) asked _ _ _ (failure_text c.args.failure.now)
    c.in-Ok.ensures.whole c.explain.ensures

pub returns : goal.returns
returns g c =
    alone (asks_to_explain (map string_bytes c.args.words.now)) _ _ (failure_text c.args.failure.now)
    c.tell.ensures.beginning

pub returns-else-asks_to_explain : goal.returns-else-asks_to_explain
returns-else-asks_to_explain g c =
    alone (asks_to_explain (map string_bytes c.args.words.now)) _ _ (failure_text c.args.failure.now)
    c.tell.ensures.beginning
