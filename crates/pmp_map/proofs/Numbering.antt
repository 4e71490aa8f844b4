-- Numbers of answers tell decisions apart.
use Rattle.std.proofs.Common.{◌≡◌, ◌≤◌, rules}
use Rattle.pmp_core.specs.declared.decision.Cause.{Cause}
use Rattle.pmp_map.specs.Answer.{cause_number}
use Rattle.pmp_map.specs.AnswerLaw.{IsByteCause, AnswerLaw, NoAccessLaw, NoAccessFaultLaw, ReadingLaw}

cause_low : (cause : Cause) → IsByteCause cause → cause_number cause ≤ 512
cause_low cause low = search rules

pub answer_once : AnswerLaw
answer_once access one other p q e = search rules

pub never_no_access : NoAccessLaw
never_no_access access decision kind low = search (rules, cause_low decision.cause low)

pub no_access_fault : NoAccessFaultLaw
no_access_fault kind = search rules

pub read_off : ReadingLaw
read_off access decision low = search (rules, cause_low decision.cause low)

pub cause_once : (one other : Cause) → IsByteCause one → IsByteCause other → cause_number one ≡ cause_number other
    → one ≡ other
cause_once one other p q e = search rules

pub ruleset answer_laws = (answer_once, never_no_access, no_access_fault, read_off)
