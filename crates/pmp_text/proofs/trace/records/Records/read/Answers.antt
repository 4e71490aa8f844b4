use Rattle.std.proofs.Common.{◌≡◌, true, false, refl}
use Rattle.csv.specs.Records.{fields_of}
use Rattle.pmp_text.proofs.RecordsLeft.{record_left, no_record_left}
use Rattle.pmp_text.proofs.trace.records.Records.read.Goals as goal

pub returns-clause-next : goal.returns-clause-next
returns-clause-next c e =
    let found : c.in-Ok.found ≡ true = cc in
    let reading = c.self.invariant c.if-self.false in
    rw (← c.self.view_is, c.if-self.false, found)
    (record_left c.self.inside.reader c.read_byte_record.new.self (fields_of c.read_byte_record.new.row) reading
    (rw found at (c.in-Ok.ensures.reads reading.untrimmed reading.ready)))

pub returns-clause-end : goal.returns-clause-end
returns-clause-end c e =
    let found : c.in-Ok.found ≡ false = cc in
    let reading = c.self.invariant c.if-self.false in
    rw (← c.self.view_is, c.if-self.false, found) (
      no_record_left c.self.inside.reader c.read_byte_record.new.self (fields_of c.read_byte_record.new.row) reading
          (rw found at (c.in-Ok.ensures.reads reading.untrimmed reading.ready)),
      refl,
    )
