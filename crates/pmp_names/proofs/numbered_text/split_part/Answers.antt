use Rattle.std.proofs.Common.{◌∙◌, sym}
use Rattle.pmp_names.proofs.Parting.{parted_none, parted_some}
use Rattle.pmp_names.proofs.numbered_text.split_part.Goals as goal

pub returns-in-Some : goal.returns-in-Some
returns-in-Some c =
    parted_some c.args.separator c.args.text.now c.in-Some.end (sym c.end_at.ensures.value ∙ c.in-Some.is)

pub returns-in-None : goal.returns-in-None
returns-in-None c = parted_none c.args.separator c.args.text.now (sym c.end_at.ensures.value ∙ c.in-None.is)
