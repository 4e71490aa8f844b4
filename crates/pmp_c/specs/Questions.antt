-- Many accesses, decided by one call.
use Rattle.std.specs.Prelude.{◌≡◌}
use Rattle.pmp_core.specs.declared.access.Access.{Access}
use Rattle.pmp_core.specs.Ranges.{decision_of}
use Rattle.pmp_map.specs.Answer.{answer_number, no_access}
use Rattle.pmp_map.specs.Request.{IsNamed}
use Rattle.pmp_c.specs.declared.question.Question.{Question}
use Rattle.pmp_c.specs.declared.unit.Unit.{Unit}
use Rattle.pmp_c.specs.Unit.{file_of_unit, IsUnit}

-- the question has its answer, as the call for one access returns it, and is otherwise unchanged
pub record IsAnswered (unit : Unit) (old new : Question) : Type 0 where
  pub asked : new ≡ record old { answer = new.answer }
  pub decided : (access : Access) → IsNamed access old.mode old.kind old.start old.length → IsUnit unit
      → new.answer ≡ answer_number access (decision_of (file_of_unit unit) access)
  pub unnamed : ((access : Access) → ¬ (IsNamed access old.mode old.kind old.start old.length))
      → new.answer ≡ no_access old.kind
