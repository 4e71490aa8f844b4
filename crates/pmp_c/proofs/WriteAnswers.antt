-- The number of a write says what the write came to.
use Rattle.std.proofs.Common.{◌≡◌, ◌↔◌, ℕ, ◌+◌, ◌*◌, ◌/◌, ◌^◌, ◌<◌, Bool, true, false, MatchOption, Option, sym, ap, ◌∙◌, arith, refl}
use Rattle.pmp_core.specs.declared.csr.Csr.{Csr}
use Rattle.pmp_core.specs.declared.register_write.Written.{Written}
use Rattle.pmp_core.specs.declared.saved_registers.SavedRegisters.{SavedRegisters}
use Rattle.pmp_core.specs.declared.span.Span.{Span}
use Rattle.pmp_core.specs.declared.write_reasons.Reasons.{Reasons}
use Rattle.pmp_core.specs.Moved.{AreAlikeBeside, moved_by}
use Rattle.pmp_core.specs.RegisterFile.{RegisterFile}
use Rattle.pmp_core.specs.RegisterValue.{register_value}
use Rattle.pmp_core.specs.RegisterWrite.{written}
use Rattle.pmp_core.specs.SavedRegisters.{restored_file}
use Rattle.pmp_core.specs.WriteReasons.{reasons_of}
use Rattle.pmp_core.specs.Writing.{IsWritten}
use Rattle.pmp_core.proofs.Saved.{restored_legal}
use Rattle.pmp_core.proofs.ReasonsLaw.{reads_value, without_reason}
use Rattle.pmp_c.specs.declared.unit.Unit.{Unit}
use Rattle.pmp_c.specs.Status.{IsMoveAnswer, IsWriteAnswer, write_number}
use Rattle.pmp_c.specs.Unit.{file_of_unit}

module _ (saved : SavedRegisters) (new : RegisterFile) (csr : Csr) (value low bits : ℕ)
    (small : value < 2 ^ 64) (short : low < 256)
    (bits_are : bits ≡ (reasons_of (restored_file saved) csr value).0)
    (new_is : new ≡ written (restored_file saved) csr value) where
  reasons_part : (low + 256 * bits) / 256 ≡ (reasons_of (restored_file saved) csr value).0
  reasons_part = let part : (low + 256 * bits) / 256 ≡ bits = omega arith in part ∙ bits_are

  stored_part : low + 256 * bits < 256 ↔ register_value new csr ≡ value
  stored_part = (
    λ few. ap (λ (f : RegisterFile). register_value f csr) new_is
        ∙ without_reason (restored_file saved) csr value (restored_legal saved) small
        (let none : bits ≡ 0 = omega arith in sym bits_are ∙ none),
    λ same.
        let none : bits ≡ 0 =
        bits_are ∙ ap (λ (r : Reasons). r.0) (reads_value (restored_file saved) csr value (restored_legal saved) small
        (sym (ap (λ (f : RegisterFile). register_value f csr) new_is) ∙ same)) in
        omega (arith, none),
  )

-- the registers have taken a write, and of the rest no more than the map is gone
module _ (old new : Unit) (csr : Csr) (value : ℕ) (small : value < 2 ^ 64) where
  by_answer : (is_changed : Bool) (reasons : Reasons)
      → IsWritten old.registers new.registers csr value (record { is_changed = is_changed; reasons = reasons })
      → (is_changed ≡ true → new.map.runs ≡ 0) → (is_changed ≡ false → new ≡ old)
      → IsWriteAnswer old new csr value (write_number (record { is_changed = is_changed; reasons = reasons }))
  by_answer true reasons is unbuilt kept =
      let bits = ap (λ (r : Reasons). r.0) is.reasons in
      record {
        file = is.stored.file;
        order = λ _ some. absurd (omega (arith, some, unbuilt refl));
        canonical = is.stored.canonical;
        low = omega arith;
        same = λ e. absurd (omega arith);
        changed = λ e. record { file = is.stored.changed refl; unbuilt = unbuilt refl };
        reasons = reasons_part old.registers _ csr value 4 reasons.0 small (omega arith) bits is.stored.file;
        stored = stored_part old.registers _ csr value 4 reasons.0 small (omega arith) bits is.stored.file;
      }
  by_answer false reasons is unbuilt kept =
      let bits = ap (λ (r : Reasons). r.0) is.reasons in
      record {
        file = is.stored.file;
        order = λ is_unit. rw (kept refl) is_unit;
        canonical = is.stored.canonical;
        low = omega arith;
        same = λ e. kept refl;
        changed = λ e. absurd (omega arith);
        reasons = reasons_part old.registers _ csr value 0 reasons.0 small (omega arith) bits is.stored.file;
        stored = stored_part old.registers _ csr value 0 reasons.0 small (omega arith) bits is.stored.file;
      }

  pub write_answer : (answer : Written) → IsWritten old.registers new.registers csr value answer
      → (answer.is_changed ≡ true → new.map.runs ≡ 0) → (answer.is_changed ≡ false → new ≡ old)
      → IsWriteAnswer old new csr value (write_number answer)
  write_answer answer = by_answer answer.is_changed answer.reasons

  pub move_answer : (answer : Written) (moved : Option Span) (were are : Span) (number : ℕ)
      → IsWritten old.registers new.registers csr value answer
      → (answer.is_changed ≡ true → new.map.runs ≡ 0) → (answer.is_changed ≡ false → new ≡ old)
      → moved ≡ moved_by (file_of_unit old) (file_of_unit new) csr
      → AreAlikeBeside (file_of_unit old) (file_of_unit new) moved
      → MatchOption moved ((number ≡ write_number answer) × (are ≡ were))
      (λ span. (number ≡ write_number answer + 8) × (are ≡ span))
      → IsMoveAnswer old new csr value were are number
  move_answer answer moved were are number is unbuilt kept moved_is beside told = record {
    status = write_number answer;
    write = write_answer answer is unbuilt kept;
    moved = moved;
    moved_is = moved_is;
    beside = beside;
    told = told;
  }

-- where no register is another than before, the unit isn't
pub unit_kept : (old new : Unit) (registers : SavedRegisters) → new ≡ record old { registers = registers }
    → registers ≡ old.registers → new ≡ old
unit_kept old new registers is same = is ∙ ap (λ (r : SavedRegisters). record old { registers = r }) same
