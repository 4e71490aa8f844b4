use Rattle.pmp_audit.specs.PolicyDraft.{last_word}
use Rattle.pmp_audit.proofs.DraftSteps.{all_appended, one_more_appended}
use Rattle.pmp_audit.proofs.policy_draft.append_kind.Goals as goal

pub loop-range-preserved : goal.loop-range-preserved
loop-range-preserved g c =
    one_more_appended c.args.file.now (last_word c.args.moment.has_names c.args.moment.publications) c.args.mode
    c.args.kind (g.S.Sink.text c.args.out.now) c.loop-range.from (g.S.Sink.text c.loop-range.out)
    (g.S.Sink.text c.append_line.new.out) c.in-Some.range c.loop-range.invariant
    (rw c.registers-registers.ensures.same at c.in-Some.ensures) c.in_ok-append_line.ensures.ok

pub returns-clause-ok : goal.returns-clause-ok
returns-clause-ok g c =
    all_appended c.args.file.now (last_word c.args.moment.has_names c.args.moment.publications) c.args.mode c.args.kind
    (g.S.Sink.text c.args.out.now) c.loop-range.from (g.S.Sink.text c.loop-range.out) c.loop-range.invariant
    (rw c.registers-registers.ensures.same at c.in_default.ensures)
