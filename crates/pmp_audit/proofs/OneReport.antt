-- A script and a trace have one report.
use mathlib.Core.HLevel.{is_prop→PathP}
use Rattle.std.proofs.Common.{◌≡◌, ◌+◌, ◌<◌, ◌≤◌, map, sym, ap, ◌∙◌}
use Rattle.std.proofs.Math.Bridge.{le_prop}
use Rattle.pmp_core.specs.declared.access.Access.{Access}
use Rattle.pmp_core.specs.declared.decision.Decision.{Decision}
use Rattle.pmp_core.specs.declared.access.TheConstants.{ADDRESS_LIMIT, MAX_LENGTH}
use Rattle.pmp_core.specs.Decision.{IsDecision}
use Rattle.pmp_core.specs.RegisterFile.{RegisterFile}
use Rattle.pmp_text.specs.declared.trace.TraceRow.{TraceRow}
use Rattle.pmp_text.specs.Traces.{row_fields}
use Rattle.pmp_text.specs.Reports.{file_of_script, report_text}
use Rattle.pmp_audit.specs.Laws.{OneListOfDecisionsLaw, OneReportLaw}
use Rattle.pmp_audit.specs.TraceAudit.{summary_of}
use Rattle.pmp_audit.proofs.Lists.{one_by_map, one_list}

pub one_list_of_decisions : ((file : RegisterFile) (access : Access) (one other : Decision)
    → IsDecision file access one → IsDecision file access other → one ≡ other) → OneListOfDecisionsLaw
one_list_of_decisions one_decision script rows one other decided too =
    one_list (λ row decision. IsDecision (file_of_script script row.after) row.access decision)
    (λ row. one_decision (file_of_script script row.after) row.access) rows one other decided too

-- ---- a row is what a trace says of it

same_row : (one other : TraceRow) → row_fields one ≡ row_fields other → one ≡ other
same_row one other same = λ i. record {
  after = (same i).after;
  access = record {
    mode = (same i).mode;
    kind = (same i).kind;
    start = (same i).start;
    length = (same i).length;
    not_empty = is_prop→PathP (λ j. 0 < (same j).length) (λ j. le_prop) one.access.not_empty other.access.not_empty i;
    not_long = is_prop→PathP (λ j. (same j).length ≤ MAX_LENGTH) (λ j. le_prop) one.access.not_long
        other.access.not_long i;
    inside = is_prop→PathP (λ j. (same j).start + (same j).length ≤ ADDRESS_LIMIT) (λ j. le_prop) one.access.inside
        other.access.inside i;
  };
  is_bare = (same i).is_bare;
}

-- ---- the law

pub one_report : OneListOfDecisionsLaw → OneReportLaw
one_report one_list script trace one other text another said too =
    let contents : said.contents ≡ too.contents = cc (said.script_means, too.script_means) in
    let here = said.report in
    let there = too.report in
    let fields : map row_fields here.rows ≡ map row_fields there.rows =
    cc (contents, here.trace_means, there.trace_means) in
    let rows = one_by_map row_fields same_row here.rows there.rows fields in
    let decided = rw (contents, rows) at here.decided in
    let decisions = one_list too.contents there.rows here.decisions there.decisions decided there.decided in (
      said.counted ∙ ap (λ rows. summary_of 1 rows here.decisions) rows ∙ ap (summary_of 1 there.rows) decisions
          ∙ sym too.counted,
      here.report ∙ ap (λ rows. report_text rows here.decisions) rows ∙ ap (report_text there.rows) decisions
          ∙ sym there.report,
    )
