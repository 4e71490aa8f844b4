use mir.Val.{bool_byte}
use Rattle.std.proofs.Common.{◌≡◌, ◌∙◌, ◌+◌, ◌∷◌, [], ℕ, ap, get_or}
use Rattle.pmp_core.specs.RegisterValue.{register_value}
use Rattle.pmp_core.specs.declared.csr.Csr.TheVariants.{Cfg}
use Rattle.pmp_text.specs.declared.expectation.Expectation.{Expectation}
use Rattle.pmp_text.specs.Expected.{expected_row}
use Rattle.pmp_text.proofs.AddedRows.{left_some, one_more}
use Rattle.pmp_audit.specs.Expectations.{is_fault, value_there}
use Rattle.pmp_audit.proofs.Lists.{count_more}
use Rattle.pmp_audit.proofs.expectations.add_each.Goals as goal

abbrev none : Expectation
none = record { register = Cfg 0; value = 0; line = 0; events = 0 }

pub loop-expectation-preserved : goal.loop-expectation-preserved
loop-expectation-preserved g c =
    let script = c.args.script.now in
    let item = get_or c.args.expectations.now c.loop-expectation.expectation-index none in
    let value : c.read-value.result ≡ value_there script item =
    c.read-value.ensures ∙ ap (λ file. register_value file item.register) c.advance.ensures in
    let one : g.R.RowSink.Adds (expected_row item c.read-value.result ∷ []) c.loop-expectation.out c.add_expected.new.out =
    c.in_ok-add_expected.ensures.ok in
    let fault : c.from-count.result ≡ bool_byte (is_fault c.args.accepted.now item (value_there script item)) =
    c.from-count.ensures ∙ ap bool_byte (c.is_fault.ensures ∙ ap (is_fault c.args.accepted.now item) value) in record {
      added = one_more g.R.RowSink.Adds g.met.R.RowSink.both
          (λ expectation. expected_row expectation (value_there script expectation)) c.args.expectations.now
          c.loop-expectation.expectation-index none c.args.out.now c.loop-expectation.out c.add_expected.new.out
          c.loop-expectation-test.true c.loop-expectation.invariant.added (rw value at one);
      counted = ap (λ (n : ℕ). c.loop-expectation.count + n) fault
          ∙ count_more (λ expectation. is_fault c.args.accepted.now expectation (value_there script expectation))
          c.args.expectations.now c.loop-expectation.expectation-index none c.loop-expectation-test.true
          c.loop-expectation.count c.loop-expectation.invariant.counted;
      file = c.advance.ensures;
    }

pub returns-in_err-add_expected-clause-err : goal.returns-in_err-add_expected-clause-err
returns-in_err-add_expected-clause-err g c =
    left_some g.R.RowSink.Adds g.met.R.RowSink.both _ _ _ _ _ c.loop-expectation.invariant.added
    c.in_err-add_expected.ensures.err
