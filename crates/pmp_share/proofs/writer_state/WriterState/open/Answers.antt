use Rattle.std.proofs.Common.{◌≡◌, [], ap, sym, ◌∙◌}
use Rattle.pmp_share.specs.declared.version.Version.{Version}
use Rattle.pmp_share.specs.Known.{known}
use Rattle.pmp_share.specs.Rule.{unit_of}
use Rattle.pmp_share.specs.WriterStates.{after, state_of}
use Rattle.pmp_share.specs.Tokens.{unit_with}
use Rattle.pmp_share.proofs.RuleFacts.{shows_none}
use Rattle.pmp_share.proofs.WriterFacts.{turned, match_ok}
use Rattle.pmp_share.proofs.writer_state.WriterState.open.Goals as goal
use Rattle.pmp_share.proofs.writer_state.WriterState.open.Given.{Over}
use Rattle.pmp_share.proofs.writer_state.WriterState.open.Goals.{In_ok-writer}

module _ (g : Over) (c : In_ok-writer g) where
  -- the version that is made first has no batches
  journal_is : c.in_ok-writer.writer.desk.shown.value.journal ≡ []
  journal_is =
      ap (λ (version : Version). version.journal) c.in_ok-writer.ensures.0 ∙ c.new-first.ensures.journal

  noted : c.in_ok-writer.writer.desk.shown.value.history.log ≡ c.in_ok-writer.writer.desk.shown.value.journal
  noted =
      ap (λ (version : Version). version.history.log) c.in_ok-writer.ensures.0
      ∙ ap (λ history. history.log) c.new-first.ensures.history
      ∙ c.history.ensures.1
      ∙ c.open-recorder.ensures
      ∙ sym journal_is

  book : c.in_ok-writer.writer.desk.shown.value.history.book ≡ c.open-recorder.result.book
  book =
      ap (λ (version : Version). version.history.book) c.in_ok-writer.ensures.0
      ∙ ap (λ history. history.book) c.new-first.ensures.history
      ∙ c.history.ensures.0

  base : c.in_ok-writer.writer.desk.shown.value.base.value ≡ c.args.base.now
  base = ap (λ (version : Version). version.base.value) c.in_ok-writer.ensures.0 ∙ c.new-first.ensures.base

  unit : unit_of c.in_ok-writer.writer.desk.shown.value ≡ unit_with c.open-recorder.result.book c.args.base.now
  unit = λ i. unit_with (book i) (base i)

pub publish_as-writer-requires : goal.publish_as-writer-requires
publish_as-writer-requires g c next is =
    shows_none _ _ c.in_ok-writer.writer.desk.shown.value _ c.in_ok-writer.ensures.1 (noted g c) next is

pub invariant_of-result : goal.invariant_of-result
invariant_of-result g c =
    let shown = c.in_ok-writer.writer.desk.shown.value in
    let made = (goal.at.invariant_of-result g c).In_ok-writer in
    let values = match_ok c.publish_as-writer.result.1 _ _ _ c.in-Ok.is c.publish_as-writer.ensures.values in
    let recorder = c.open-recorder.result in
    turned (known (unit_with recorder.book c.of.result.value) recorder.list) _ _ _ (state_of shown) _
    (values.0 ∙ ap (after shown) c.in_ok-writer.ensures.1) values.1
    (match_ok c.publish_as-writer.result.1 _ _ _ c.in-Ok.is c.publish_as-writer.ensures.rule)
    (unit g made ∙ ap (unit_with recorder.book) (sym c.of.ensures)) (noted g made)
    (λ _. c.open-recorder.ensures ∙ sym (journal_is g made))
