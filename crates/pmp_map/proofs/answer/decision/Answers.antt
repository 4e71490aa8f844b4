use Rattle.std.proofs.Common.{rules}
use Rattle.pmp_map.proofs.Numbering.{cause_once, read_off}
use Rattle.pmp_map.proofs.answer.decision.Goals as goal

pub returns-then-cause-lt256 : goal.returns-then-cause-lt256
returns-then-cause-lt256 c = λ access decision low is. search (rules, read_off access decision low, cause_once)

pub returns-then-cause-lt512 : goal.returns-then-cause-lt512
returns-then-cause-lt512 c = λ access decision low is. search (rules, read_off access decision low, cause_once)

pub returns-else-cause-lt512 : goal.returns-else-cause-lt512
returns-else-cause-lt512 c = λ access decision low is. search (rules, read_off access decision low, cause_once)
