use Rattle.std.proofs.Common.{◌≡◌, refl, Err, arith, rules, inr}
use Rattle.pmp_text.specs.declared.input.InputFault.TheVariants.{Memory}
use Rattle.pmp_text.proofs.Transfers.{CantReadWhole-after, TakesAtMost-after}
use Rattle.pmp_text.proofs.input.read_bytes.Goals as goal

pub returns-in_err-count : goal.returns-in_err-count
returns-in_err-count g c =
    let same : c.from_residual.result ≡ Err c.in_err-count.field-0.0 = search rules in
    rw same (record {
      within = tt;
      whole = tt;
      failed = CantReadWhole-after _ _ _ _ _ c.args.limit _ c.loop-bytes.invariant.held (omega arith)
          c.in_err-count.ensures.failed;
    })

pub returns-in_err-extend_from_slice : goal.returns-in_err-extend_from_slice
returns-in_err-extend_from_slice g c =
    let same : c.from_residual-in_err-extend_from_slice.result ≡ Err Memory = search rules in
    rw same (record {
      within = tt;
      whole = tt;
      failed = inr (
        inr refl,
        TakesAtMost-after _ _ _ _ _ _ _ c.loop-bytes.invariant.held c.in_ok-count.ensures.bytes
            (omega (arith, c.in_ok-count.ensures.within)),
      );
    })
