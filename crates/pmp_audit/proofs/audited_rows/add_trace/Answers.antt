use Rattle.std.proofs.Common.{◌≡◌, ◌∙◌, length, sym}
use Rattle.pmp_core.specs.Decision.{IsDecision}
use Rattle.pmp_text.specs.Reports.{file_of_script}
use Rattle.pmp_text.specs.Traces.{first_bare}
use Rattle.pmp_audit.proofs.AuditedRows.{one_each}
use Rattle.pmp_audit.proofs.audited_rows.add_trace.Goals as goal

pub returns-clause-ok : goal.returns-clause-ok
returns-clause-ok g c = λ text means.
    let script = c.args.script.now in
    let rows = c.in_ok-rows.rows.items in
    let added = rw c.deref.ensures.value at c.in_ok-faults.ensures.ok in
    let said = added.says in
    let each : length said.decisions ≡ length rows =
    one_each (λ row decision. IsDecision (file_of_script script row.after) row.access decision) rows said.decisions
    said.decided in
    record {
      rows = added.rows;
      says = record {
        contents = script;
        script_means = means;
        rows = rows;
        trace_means = rw (← c.moments.ensures) c.in_ok-rows.ensures.given;
        decisions = said.decisions;
        decided = said.decided;
        rows_are = said.rows_are;
        counted = (rw c.deref-2.ensures.value at c.of.ensures)
            ∙ (λ i. record { rows = sym each i; faults = said.counted i; bare = first_bare 1 rows });
      };
      added = added.added;
    }
