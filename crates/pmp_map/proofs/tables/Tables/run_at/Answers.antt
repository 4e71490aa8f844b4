use Rattle.std.proofs.Common.{◌≡◌, ◌+◌, ℕ, Option, refl, arith}
use Rattle.pmp_map.specs.declared.run.Run.{Run}
use Rattle.pmp_map.specs.Runs.{map_run}
use Rattle.pmp_map.proofs.tables.Tables.run_at.Goals as goal

same_run : (first last : ℕ) (owner : Option ℕ) (run : Run) → first ≡ run.first → last ≡ run.last → owner ≡ run.owner
    → (let made : Run = record { first = first; last = last; owner = owner } in made ≡ run)
same_run first last owner run f l o = rw (f, l, o) refl

pub returns : goal.returns
returns c = λ file are inside.
    let run = map_run are.list c.args.place in
    same_run _ _ _ run (are.starts_are c.args.place (omega (arith, c.requires)))
    (omega (
      arith,
      c.saturating_sub.ensures,
      are.starts_are (c.args.place + 1) c.requires,
      are.runs_are.gapless c.args.place inside,
    )) (c.row_owner.ensures file run.owner (are.rows_are c.args.place inside))
