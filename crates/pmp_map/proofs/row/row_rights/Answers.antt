use Rattle.std.proofs.Common.{◌≡◌, Bool, refl, ◌∙◌}
use Rattle.pmp_core.specs.declared.access.Kind.TheVariants.{Fetch, Load, Store}
use Rattle.pmp_core.specs.Rights.{Rights, perms_of}
use Rattle.pmp_map.specs.Answers.{owned_rights}
use Rattle.pmp_map.proofs.Answering.{low_where_allowed}
use Rattle.pmp_map.proofs.row.row_rights.Goals as goal

same_perms : (read write execute : Bool) (rights : Rights) → read ≡ rights.read → write ≡ rights.write
    → execute ≡ rights.execute
    → (let given : Rights = record { read = read; write = write; execute = execute } in perms_of given ≡ perms_of rights)
same_perms read write execute rights r w x = rw (r, w, x) refl

pub returns : goal.returns
returns c = λ file owner is.
    let mode = c.args.mode in
    let low = low_where_allowed file owner c.args.row.now is mode in
    c.of.ensures ∙ same_perms _ _ _ (owned_rights file owner mode) (low Load _ c.column_of.ensures.column)
    (low Store _ c.column_of-2.ensures.column) (low Fetch _ c.column_of-3.ensures.column)
