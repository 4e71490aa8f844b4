use Rattle.std.proofs.Common.{rules, ◌≡◌, length, take, ap, ◌∙◌, arith}
use Rattle.std.proofs.lemmas.Result.{on_ok_weaker}
use Rattle.pmp_text.specs.Reports.{file_of_script}
use Rattle.pmp_audit.specs.Replay.{file_at}
use Rattle.pmp_audit.proofs.EntriesSince.{same_entries}
use Rattle.pmp_audit.proofs.view.list.Goals as goal

pub add_entries-requires : goal.add_entries-requires
add_entries-requires g c =
    let script = c.args.script.now in
    let few = same_entries script.start c.requires.legal (take c.args.done script.batches) c.file.result.now
    (c.file.ensures ∙ ap file_at c.since_of-replay.ensures.position) in
    let places : length c.since_of-replay.result.1 ≡ 64 = search rules in
    omega (arith, few, c.requires.legal.profile.few, places)

pub returns-in-Entries-clause-ok : goal.returns-in-Entries-clause-ok
returns-in-Entries-clause-ok g c =
    let same : c.file.result.now ≡ file_of_script c.args.script.now c.args.done =
    c.file.ensures ∙ ap file_at c.since_of-replay.ensures.position in
    on_ok_weaker c.add_entries.result (λ (rows, are, added). (
      rows,
      rw c.in-Entries.is record { since = _; since_are = c.since_of-replay.ensures.since; rows_are = rw same at are },
      added,
    )) c.add_entries.ensures.ok
