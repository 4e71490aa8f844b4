-- Cutting a reader's bytes into pieces.
use Rattle.std.specs.Prelude.{◌≡◌, ℕ, ◌-◌, ◌<◌, ◌≤◌, List, [], ◌∷◌, ◌++◌, length, Bool, true, false, Option, Result}
use Rattle.std.specs.List.{list_any}
use Rattle.std.specs.Prelude.{Ok, Err, ⊤}
use Rattle.std.specs.Io.KnownBytes.{Consumes, IsAtEnd}
use Rattle.pmp_text.specs.declared.cutter.Cut.{Cut}
use Rattle.pmp_text.specs.declared.cutter.Cut.TheVariants.{Front, Last}
use Rattle.pmp_text.specs.declared.input.InputFault.{InputFault}
use Rattle.pmp_text.specs.declared.input.InputFault.TheVariants.{TooLong, Input, Memory}
use Rattle.pmp_text.specs.LongTraces.{HasLongLine}
use Rattle.pmp_text.specs.Lines.{is_line_feed}
use Rattle.pmp_text.specs.Tables.{is_line_end}

-- bytes were taken until `limit` are buffered, or none is left
pub record IsFilled (limit : ℕ) (held : List ℕ) (old new : Option (List ℕ)) (filled : List ℕ) (at_end : Bool)
    : Type 0 where
  pub taken : List ℕ
  pub consumed : Consumes old new taken
  pub joined : filled ≡ held ++ taken
  pub within : length filled ≤ limit
  pub ended : at_end ≡ true → IsAtEnd new
  pub full : at_end ≡ false → length filled ≡ limit

-- a piece of at most `limit` bytes ends with a line end, which also begins what is buffered after it
pub record IsFront (limit : ℕ) (held : List ℕ) (old new : Option (List ℕ)) (left piece : List ℕ) : Type 0 where
  pub taken : List ℕ
  pub consumed : Consumes old new taken
  pub before : List ℕ
  pub some : 0 < length before
  pub line_end : ℕ
  pub behind : List ℕ
  pub ends : is_line_end line_end ≡ true
  pub split : held ++ taken ≡ before ++ line_end ∷ behind
  pub piece_is : piece ≡ before ++ line_end ∷ []
  pub left_is : left ≡ line_end ∷ behind
  pub within : length left ≤ limit
  pub short : length piece ≤ limit

-- a piece of at most `limit` bytes is all that was buffered and taken, and no byte is left
pub record IsLast (limit : ℕ) (held : List ℕ) (old new : Option (List ℕ)) (piece : List ℕ) : Type 0 where
  pub taken : List ℕ
  pub consumed : Consumes old new taken
  pub piece_is : piece ≡ held ++ taken
  pub ended : IsAtEnd new
  pub short : length piece ≤ limit

-- at least `limit` - 1 bytes in a row have no line end
pub record IsUncut (limit : ℕ) (held : List ℕ) (old new : Option (List ℕ)) : Type 0 where
  pub taken : List ℕ
  pub consumed : Consumes old new taken
  pub line : HasLongLine (held ++ taken) (limit - 1)

abbrev pub IsCut : (limit : ℕ) (held : List ℕ) (old new : Option (List ℕ)) (left : List ℕ)
    → Result Cut InputFault → Type 0
IsCut limit held old new left (Ok (Front piece)) = IsFront limit held old new left piece.items
IsCut limit held old new left (Ok (Last piece)) = IsLast limit held old new piece.items
IsCut limit held old new left (Err TooLong) = IsUncut limit held old new
IsCut limit held old new left (Err Input) = ⊤
IsCut limit held old new left (Err Memory) = ⊤

-- ---- lines by LF

-- whole lines of at most `limit` bytes were cut off, before what is buffered now
pub record AreLines (limit : ℕ) (held : List ℕ) (old new : Option (List ℕ)) (left piece : List ℕ) : Type 0 where
  pub taken : List ℕ
  pub consumed : Consumes old new taken
  pub before : List ℕ
  pub ends : piece ≡ before ++ 10 ∷ []
  pub split : held ++ taken ≡ piece ++ left
  pub within : length left ≤ limit
  pub short : length piece ≤ limit

-- at least `limit` bytes are buffered, and have no LF
pub record IsLongLine (limit : ℕ) (held : List ℕ) (old new : Option (List ℕ)) : Type 0 where
  pub taken : List ℕ
  pub consumed : Consumes old new taken
  pub long : limit ≤ length (held ++ taken)
  pub unended : list_any is_line_feed (held ++ taken) ≡ false

abbrev pub IsLineCut : (limit : ℕ) (held : List ℕ) (old new : Option (List ℕ)) (left : List ℕ)
    → Result Cut InputFault → Type 0
IsLineCut limit held old new left (Ok (Front piece)) = AreLines limit held old new left piece.items
IsLineCut limit held old new left (Ok (Last piece)) = IsLast limit held old new piece.items
IsLineCut limit held old new left (Err TooLong) = IsLongLine limit held old new
IsLineCut limit held old new left (Err Input) = ⊤
IsLineCut limit held old new left (Err Memory) = ⊤
