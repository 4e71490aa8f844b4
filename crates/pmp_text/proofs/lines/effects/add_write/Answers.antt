use Rattle.pmp_text.proofs.lines.effects.add_write.Goals as goal

pub returns-clause-ok : goal.returns-clause-ok
returns-clause-ok g c =
    rw (
      c.effect_cells.ensures,
      c.as_bytes.ensures.value,
      c.as_bytes-2.ensures.value,
      c.as_bytes-3.ensures.value,
      c.read.ensures,
      c.read-2.ensures,
      c.requires,
      c.as_str.ensures.value,
      c.as_str-2.ensures.value,
      c.as_str-3.ensures.value,
      c.in_ok-name.ensures,
      c.in_ok-reasons.ensures,
      c.in_ok-entries.ensures,
    ) at c.add.ensures.ok
