use Rattle.pmp_audit.proofs.write_list.add_writes.Goals as goal

pub add_all-summary-requires : goal.add_all-summary-requires
add_all-summary-requires g c =
    c.law_script_size.ensures c.args.script.now c.in_ok-script.script c.in_ok-script.ensures
