use Rattle.pmp_audit.proofs.view.add_listing.Goals as goal

pub list-requires-clause-legal : goal.list-requires-clause-legal
list-requires-clause-legal g c =
    c.law_legal_start.ensures c.args.script.now c.in_ok-script.script c.in_ok-script.ensures
