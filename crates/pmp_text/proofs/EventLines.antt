-- Each publication of a script has as many lines as events.
use Rattle.std.proofs.Common.{◌≡◌, ℕ, suc, List, [], ◌∷◌, length, map, Option, Some, None, refl, ap, subst}
use Rattle.std.specs.Prelude.{filter_map}
use Rattle.pmp_core.specs.declared.event.Event.{Event}
use Rattle.pmp_text.specs.Contents.{Publications}
use Rattle.pmp_text.specs.Longhand.{in_longhand}
use Rattle.pmp_text.specs.ScriptLines.{Line}
use Rattle.pmp_text.specs.ScriptFaults.{first_fault}
use Rattle.pmp_text.specs.ScriptEvents.{event_line_of, event_of, first_unpublished, publications}
use Rattle.pmp_text.specs.declared.script.version.Version.{Version}
use Rattle.pmp_text.specs.Sizes.{EventLinesLaw}
use Rattle.pmp_text.proofs.MadeScripts.{faultless, is_read, published_in}

abbrev SameLengths : List (List Event) → List (List ℕ) → Type 0
SameLengths batches lines = map (λ batch. length batch) batches ≡ map (λ lines. length lines) lines

module _ (version : Version) where
  abbrev SameLength : List Line → Type 0
  SameLength piece = length (filter_map (event_of version) piece) ≡ length (filter_map (event_line_of version) piece)

  with_line : (line : Line) (more : List Line) (found : Option Event) → event_of version line ≡ found → SameLength more
      → SameLength (line ∷ more)
  with_line line more None is same = rw is same
  with_line line more (Some event) is same = rw is (ap suc same)

  in_piece : (piece : List Line) → SameLength piece
  in_piece [] = refl
  in_piece (line ∷ more) = with_line line more (event_of version line) refl (in_piece more)

  in_pieces : (pieces : List (List Line))
      → SameLengths (map (filter_map (event_of version)) pieces) (map (filter_map (event_line_of version)) pieces)
  in_pieces [] = refl
  in_pieces (piece ∷ more) = let here = in_piece piece in let rest = in_pieces more in cc

pub event_lines : EventLinesLaw
event_lines text script e =
    let it = is_read text script e in
    let more = in_longhand it.version it.more in
    let all = faultless (first_fault (it.first ∷ []) more) (first_unpublished it.version more)
    (publications it.version more) (published_in script) it.made.published in
    subst (λ (p : Publications). SameLengths p.batches p.lines) all.2 (in_pieces it.version _)
