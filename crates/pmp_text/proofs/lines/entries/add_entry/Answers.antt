use Rattle.pmp_text.proofs.RunLines.{text_of_perms}
use Rattle.pmp_text.proofs.lines.entries.add_entry.Goals as goal

pub returns-clause-ok : goal.returns-clause-ok
returns-clause-ok g c =
    rw (
      c.from.ensures,
      c.end_cells.ensures.first,
      c.end_cells.ensures.last,
      c.span.ensures.computed,
      c.matching_word.ensures,
      c.matching.ensures,
      c.of_owner-rights.ensures,
      text_of_perms,
      text_of_perms,
      c.lock_word.ensures,
      c.lock.ensures,
      c.address_word.ensures,
      c.is_address_frozen.ensures,
      c.number.ensures (λ text. text.now),
      c.number-2.ensures (λ text. text.now),
      c.from-index.ensures,
    ) at c.add.ensures.ok
