use Rattle.std.proofs.Common.{refl}
use Rattle.pmp_lint.specs.Findings.{told_rows}
use Rattle.pmp_audit.proofs.reasons.add_findings.Goals as goal

pub returns-clause-ok : goal.returns-clause-ok
returns-clause-ok g c =
    let says = c.in_ok-add_lint.ensures.ok in
    record {
      rows = told_rows c.args.accepted.now says.findings;
      says = record {
        contents = says.contents;
        script_means = says.script_means;
        findings = says.findings;
        findings_are = says.findings_are;
        rows_are = refl;
        counted = says.counted;
      };
      added = says.added;
    }
