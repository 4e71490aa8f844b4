use Rattle.std.proofs.Common.{◌≡◌, ap, ◌∙◌}
use Rattle.pmp_core.specs.Span.{span_in, span_of}
use Rattle.pmp_core.proofs.Legal.{legal_addresses}
use Rattle.pmp_core.proofs.Spans.{is_span}
use Rattle.pmp_core.proofs.registers.Registers.span.Goals as goal
use Rattle.pmp_core.proofs.registers.Registers.span.Goals.{After-span_in}

computed : (c : After-span_in) → c.span_in.result ≡ span_of c.args.self.now c.args.index
unfolding span_of
computed c = c.span_in.ensures ∙ ap span_in c.range.ensures

pub returns-clause-by_bytes : goal.returns-clause-by_bytes
returns-clause-by_bytes c = rw (computed (goal.at.returns-clause-by_bytes c).After-span_in)
    (is_span c.args.self.now c.args.index (legal_addresses c.args.self.now c.count-count.ensures.legal))

pub returns-clause-computed : goal.returns-clause-computed
returns-clause-computed c = computed (goal.at.returns-clause-computed c).After-span_in
