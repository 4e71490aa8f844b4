use Rattle.std.proofs.Common.{◌≡◌, ◌∙◌, sym, ap}
use Rattle.std.specs.Prelude.{is_ok}
use Rattle.pmp_tool.specs.FaultLines.{hart_line_text}
use Rattle.pmp_tool.specs.declared.fault_line.TheConstants.{LONGEST_OF_HART}
use Rattle.pmp_tool.proofs.Telling.{at_ok, string_written}
use Rattle.pmp_tool.proofs.fault_line.FaultLine.write_of_hart.Goals as goal

pub returns : goal.returns
returns g c =
    let wrote =
    at_ok c.writeln.result
    (sym c.map_err.ensures.variant ∙ ap is_ok c.in_ok-map_err.was) c.writeln.ensures.writes in
    let line : c.as_bytes.result.now ≡ hart_line_text c.args.name.now.bytes c.args.self.now.fault =
    c.as_bytes.ensures.value ∙ c.as_str.ensures.value
    ∙ string_written LONGEST_OF_HART c.new-line.result c.writeln.new.self _ c.new-line.ensures wrote in
    rw line at c.write_out.ensures
