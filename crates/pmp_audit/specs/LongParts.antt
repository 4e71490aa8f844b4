-- Texts in parts, and how the reports of two parts of a piece are joined.
use Rattle.std.specs.Prelude.{◌≡◌, ◌+◌, List, ◌++◌, Result, Ok, Err, Vec}
use Rattle.std.specs.List.{flat_map}
use Rattle.std.specs.Option.{option_or}
use Rattle.std.specs.declared.alloc.Global.{Global}
use Rattle.pmp_text.specs.declared.fault.Fault.{Fault}
use Rattle.pmp_audit.specs.declared.piece.PieceReport.{PieceReport}
use Rattle.pmp_audit.specs.declared.standing.Standing.{Standing}

-- the items of the parts, concatenated
abbrev pub items_of : {X : Type 0} → List (Vec X Global) → List X
items_of parts = flat_map (λ part. part.items) parts

-- the back report begins where the front one ends, except for bare rows, and `both` joins them
pub record IsBoth (front : PieceReport) (middle : Standing) (back both : PieceReport) : Type 0 where
  pub meets : front.behind.place ≡ record middle.place { bare = front.behind.place.bare }
  pub texts : both.texts.items ≡ front.texts.items ++ back.texts.items
  pub place : both.behind.place
      ≡ record back.behind.place { bare = option_or front.behind.place.bare back.behind.place.bare }
  pub faults : both.behind.faults ≡ front.behind.faults + back.behind.faults

-- two parts were reported, and `both` joins them
abbrev pub AreJoined : (front : Result PieceReport Fault) → (middle : Standing)
    → (back : Result PieceReport Fault) → PieceReport → Type 0
AreJoined (Ok front) middle (Ok back) both = IsBoth front middle back both
AreJoined (Ok front) middle (Err fault) both = ⊥
AreJoined (Err fault) middle back both = ⊥
