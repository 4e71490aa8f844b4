use Rattle.std.proofs.Common.{◌≡◌, ◌+◌, ◌<◌, [], length, take, slice_index_or, ap, ◌∙◌, arith}
use Rattle.std.specs.List.{list_all}
use Rattle.pmp_core.specs.Histories.{is_write}
use Rattle.pmp_core.specs.RegisterFile.{is_frozen, is_held}
use Rattle.pmp_core.proofs.Held.{held_still}
use Rattle.pmp_text.specs.EntryRows.{no_since}
use Rattle.pmp_text.specs.Reports.{file_behind}
use Rattle.pmp_audit.specs.Replay.{Position, file_at}
use Rattle.pmp_audit.proofs.EntriesSince.{same_entries, frozen_lasts, nothing_at}
use Rattle.pmp_audit.proofs.EntriesSince.{since_first, since_more}
use Rattle.pmp_audit.proofs.since.since_of.Goals as goal

pub loop-index-init : goal.loop-index-init
loop-index-init c =
    let script = c.args.script.now in
    let file : c.file.result.now ≡ script.start = c.file.ensures ∙ ap file_at c.new-replay.ensures in
    record {
      position = c.new-replay.ensures;
      so_far = λ i inside.
          let entry : i < length c.file.result.now.entries =
          let count = same_entries script.start c.requires.legal [] c.file.result.now file in omega arith in
          record {
            frozen = since_first is_frozen script.start i _
                (rw (nothing_at 64 i, file) at (c.count_in.ensures.frozen i entry));
            held = since_first is_held script.start i _
                (rw (nothing_at 64 i, file) at (c.count_in.ensures.held i entry));
          };
    }

pub count_in-requires-in-loop-index : goal.count_in-requires-in-loop-index
count_in-requires-in-loop-index c =
    let script = c.args.script.now in
    let loop = c.loop-index in
    let position : c.advance.new.self ≡ record { script = script; done = loop.index + 1 } = c.advance.ensures
    ∙ ap (λ (p : Position). record p { done = loop.index + 1 }) loop.invariant.position in
    let few = same_entries script.start c.requires.legal (take (loop.index + 1) script.batches)
    c.file-in-loop-index.result.now (c.file-in-loop-index.ensures ∙ ap file_at position) in
    omega (arith, few, c.requires.legal.profile.few, c.are_writes-are_writes.array_long)

pub loop-index-preserved : goal.loop-index-preserved
loop-index-preserved c =
    let script = c.args.script.now in
    let n = script.start in
    let loop = c.loop-index in
    let position : c.advance.new.self ≡ record { script = script; done = loop.index + 1 } = c.advance.ensures
    ∙ ap (λ (p : Position). record p { done = loop.index + 1 }) loop.invariant.position in
    let file : c.file-in-loop-index.result.now ≡ file_behind n (take (loop.index + 1) script.batches) =
    c.file-in-loop-index.ensures ∙ ap file_at position in
    let writes = c.are_writes-are_writes.ensures ∙ ap (list_all is_write) c.batch.ensures.events in
    record {
      position = position;
      so_far = λ i inside.
          let entry : i < length c.file-in-loop-index.result.now.entries =
          let count = same_entries n c.requires.legal (take (loop.index + 1) script.batches) c.file-in-loop-index.result.now file in
          omega arith in
          let before = loop.invariant.so_far i inside in
          let old = slice_index_or loop.since i no_since in
          record {
            frozen = since_more is_frozen frozen_lasts n script.batches loop.index i old.frozen _ c.file-in-loop-index.result.now _
                (omega arith) file writes (c.count_in-in-loop-index.ensures.frozen i entry) before.frozen;
            held = since_more is_held held_still n script.batches loop.index i old.held _ c.file-in-loop-index.result.now _
                (omega arith) file writes (c.count_in-in-loop-index.ensures.held i entry) before.held;
          };
    }

pub returns-clause-since : goal.returns-clause-since
returns-clause-since c =
    let all : c.loop-index.index ≡ c.args.count = omega arith in
    rw all at c.loop-index.invariant.so_far
