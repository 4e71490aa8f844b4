use Rattle.std.proofs.Common.{◌≡◌, ℕ, ◌+◌, ◌-◌, ◌<◌, ◌∙◌, arith}
use Rattle.pmp_map.specs.declared.search.TheConstants.{PLACES}
use Rattle.pmp_map.specs.Tables.{IsFound}
use Rattle.pmp_map.proofs.Answering.{rises, refused}
use Rattle.pmp_map.proofs.tables.Tables.answer_straddling.Goals as goal
use Rattle.pmp_map.proofs.tables.Tables.answer_straddling.Goals.{
  then-place-lt-PLACES+then-byte-self,
  else-place-lt-PLACES,
}

pub returns : goal.returns
returns c = λ file are.
    let tables = c.args.self.now in
    let access = c.args.access.now in
    let byte : ℕ = access.start + access.length - 1 in
    let place = c.args.place in
    let last = c.if-place-lt-PLACES.last in
    let found = c.requires.found in
    let long = c.requires.long in
    let next : place + 1 + 1 ≡ place + 2 = omega arith in
    let inside : last + 1 < PLACES = elim c.if-place-lt-PLACES.branch [
      | then-place-lt-PLACES+then-byte-self w ↦ omega (arith, w.last-is, w.if-place-lt-PLACES.true)
      | else-place-lt-PLACES w ↦ omega (arith, w.last-is, w.place_of-last.ensures.inside)
    ] in
    let near : IsFound tables byte last = elim c.if-place-lt-PLACES.branch [
      | then-place-lt-PLACES+then-byte-self w ↦ rw w.last-is (λ within. (omega (arith, long), rw next w.if-byte-self.true))
      | else-place-lt-PLACES w ↦ rw w.last-is w.place_of-last.ensures.between
    ] in
    let rise = rises file tables are access place c.requires.place found long last inside near in
    c.split_number.ensures ∙ refused file tables are access place c.requires.place found long last inside near
    c.least_cause.result (c.least_cause.ensures.least (omega arith))
