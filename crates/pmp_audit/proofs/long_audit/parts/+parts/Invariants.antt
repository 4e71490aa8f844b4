use Rattle.std.proofs.Common.{◌+◌, ◌-◌, ◌*◌}
use Rattle.pmp_audit.proofs.long_audit.parts.+parts.Given as goal

abbrev pub decreases-report_parts : goal.decreases-report_parts
decreases-report_parts g l = 2 * l.jobs.now.count

abbrev pub decreases-front : goal.decreases-front
decreases-front g l = 2 * l.half + 1

abbrev pub decreases-back : goal.decreases-back
decreases-back g l = 2 * (l.count - l.half) + 1
