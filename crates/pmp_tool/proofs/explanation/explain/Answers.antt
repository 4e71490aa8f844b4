use Rattle.pmp_tool.proofs.Explaining.{begun}
use Rattle.pmp_tool.proofs.explanation.explain.Goals as goal

pub returns-in-Ok : goal.returns-in-Ok
returns-in-Ok g c =
    let text = c.as_bytes.result.now in
    (text, begun c.write_out.result _ _ text c.write_out.ensures.ok c.write_out.ensures.err)
