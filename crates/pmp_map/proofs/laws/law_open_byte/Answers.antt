use Rattle.pmp_map.proofs.OpenBytes.{answer_by_owner, open_byte}
use Rattle.pmp_map.proofs.laws.law_open_byte.Goals as goal

pub returns-clause-answered : goal.returns-clause-answered
returns-clause-answered c = open_byte

pub returns-clause-once : goal.returns-clause-once
returns-clause-once c = answer_by_owner
