-- Jobs may move into threads, and what workers bring back may move out of them.
use denote.Param.Send.{IsSend, sendable}
use denote.Param.SendFields.{declared_send, as_row_send}
use Rattle.std.proofs.Crossing.{crosses}
use Rattle.pmp_text.specs.contracts.fault.Fault as fault
use Rattle.pmp_audit.specs.contracts.shared_audit.job.Job as job
use Rattle.pmp_audit.specs.contracts.shared_audit.job.Done as done
use Rattle.pmp_share.proofs.Crossing.{checker_send, notice_send}

pub job_send : IsSend job.the_row
job_send = declared_send job.the_type (search (as_row_send, sendable) depth 6, (checker_send, (notice_send, tt)))

pub done_send : IsSend done.the_row
done_send = declared_send done.the_type (checker_send, (search (crosses, sendable) depth 14, tt))

pub fault_send : IsSend fault.the_row
fault_send = search (crosses, sendable) depth 60 fits 100000
