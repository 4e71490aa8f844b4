use Rattle.pmp_audit.proofs.view.append_view.Goals as goal

pub write_view-requires-clause-legal : goal.write_view-requires-clause-legal
write_view-requires-clause-legal g c =
    c.law_legal_start.ensures c.args.script.now c.in_ok-script.script c.in_ok-script.ensures
