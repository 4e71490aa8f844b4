use Rattle.std.proofs.Common.{map, string_bytes}
use Rattle.pmp_tool.proofs.Building.{taken, untaken}
use Rattle.pmp_tool.proofs.command_line.parse_words.Goals as goal

pub returns : goal.returns
returns c =
    let words = map string_bytes c.args.words.now in
    let parse = c.try_get_matches_from in
    record {
      ok = taken c.in_ok-pmp.field-0 words c.in_ok-pmp.ensures parse.result parse.ensures.kinds parse.ensures.matches;
      err = untaken c.in_ok-pmp.field-0 words c.in_ok-pmp.ensures parse.result parse.ensures.kinds;
    }
