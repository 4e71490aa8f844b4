-- What a list of lines publishes, cut into pieces at each `publish`.
use Rattle.std.proofs.Common.{◌≡◌, ℕ, ◌<◌, List, [], ◌∷◌, ◌++◌, length, map}
use Rattle.std.proofs.Common.{Option, Some, None, Ok, refl, sym, ap, ◌∙◌, append_assoc, arith}
use Rattle.std.specs.Prelude.{filter_map, find, option_map, unwrap_or, is_some}
use Rattle.std.specs.Option.{option_or}
use Rattle.std.specs.List.{slice_split, onto_first}
use Rattle.std.proofs.lemmas.List.{append-nil}
use Rattle.std.proofs.lemmas.List.Splits.{length-slice_split}
use Rattle.pmp_core.specs.declared.event.Event.{Event}
use Rattle.pmp_text.specs.declared.script.statement.Statement.TheVariants as statement
use Rattle.pmp_text.specs.declared.script.version.Version.{Version}
use Rattle.pmp_text.specs.Contents.{Publications}
use Rattle.pmp_text.specs.ScriptLines.{Line, said_by}
use Rattle.pmp_text.specs.ScriptEvents.{but_last, event_in, event_line_of, event_of, is_publish, last_piece}
use Rattle.pmp_text.specs.Steps.Progress.{Progress, longer, nothing_read, published}

-- ---- what pieces publish

-- the lists that are published where these pieces follow what is held: each piece but the last one ends in a `publish`,
-- and its lines add what `pick` gives
module _ {X : Type 0} (pick : Line → Option X) where
  abbrev pub published_from : List X → List (List Line) → List (List X)
  published_from held [] = []
  published_from held (piece ∷ []) = []
  published_from held (piece ∷ next ∷ more) = (held ++ filter_map pick piece) ∷ published_from [] (next ∷ more)

  published_from-nothing : (pieces : List (List Line))
      → published_from [] pieces ≡ map (filter_map pick) (but_last pieces)
  published_from-nothing [] = refl
  published_from-nothing (piece ∷ []) = refl
  published_from-nothing (piece ∷ next ∷ more) = ap (λ (all : List (List X)). filter_map pick piece ∷ all)
      (published_from-nothing (next ∷ more))

  -- a `publish` comes first
  published_from-published : (all : List (List X)) (held : List X) (pieces : List (List Line)) → 0 < length pieces
      → all ++ published_from held ([] ∷ pieces) ≡ (all ++ held ∷ []) ++ published_from [] pieces
  published_from-published all held [] some = absurd (omega arith)
  published_from-published all held (next ∷ more) some =
      ap (λ (front : List X). all ++ front ∷ published_from [] (next ∷ more)) (append-nil held)
      ∙ sym (append_assoc all (held ∷ []) (published_from [] (next ∷ more)))

  -- a line comes first that adds something
  module _ (line : Line) (x : X) (adds : pick line ≡ Some x) where
    picked : (piece : List Line) → filter_map pick (line ∷ piece) ≡ x ∷ filter_map pick piece
    picked piece = rw adds refl

    published_from-added : (held : List X) (pieces : List (List Line))
        → published_from held (onto_first line pieces) ≡ published_from (held ++ x ∷ []) pieces
    published_from-added held [] = refl
    published_from-added held (piece ∷ []) = refl
    published_from-added held (piece ∷ next ∷ more) =
        ap (λ (front : List X). front ∷ published_from [] (next ∷ more))
        (ap (λ (more : List X). held ++ more) (picked piece) ∙ sym (append_assoc held (x ∷ []) (filter_map pick piece)))

  -- a line comes first that adds nothing
  module _ (line : Line) (none : pick line ≡ None) where
    passed : (piece : List Line) → filter_map pick (line ∷ piece) ≡ filter_map pick piece
    passed piece = rw none refl

    published_from-passed : (held : List X) (pieces : List (List Line))
        → published_from held (onto_first line pieces) ≡ published_from held pieces
    published_from-passed held [] = refl
    published_from-passed held (piece ∷ []) = refl
    published_from-passed held (piece ∷ next ∷ more) =
        ap (λ (front : List X). (held ++ front) ∷ published_from [] (next ∷ more)) (passed piece)

-- ---- lines of one version

module _ (version : Version) where
  -- ---- the first event line that no `publish` follows

  abbrev first_event : List Line → Option ℕ
  first_event piece = option_map (λ line. line.number) (find (λ line. is_some (event_of version line)) piece)

  -- its number, where these pieces follow an open batch whose first line is `since`, or an empty one
  abbrev pub since_from : Option ℕ → List (List Line) → Option ℕ
  since_from since [] = since
  since_from since (piece ∷ []) = option_or since (first_event piece)
  since_from since (piece ∷ next ∷ more) = since_from None (next ∷ more)

  pub since_from-nothing : (pieces : List (List Line)) → since_from None pieces ≡ first_event (last_piece pieces)
  since_from-nothing [] = refl
  since_from-nothing (piece ∷ []) = refl
  since_from-nothing (piece ∷ next ∷ more) = since_from-nothing (next ∷ more)

  pub since_from-published : (since : Option ℕ) (pieces : List (List Line)) → 0 < length pieces
      → since_from since ([] ∷ pieces) ≡ since_from None pieces
  since_from-published since [] some = absurd (omega arith)
  since_from-published since (next ∷ more) some = refl

  -- a line comes first that adds an event
  module _ (line : Line) (event : Event) (says : said_by version line ≡ Ok (statement.Event event)) where
    adds_event : event_of version line ≡ Some event
    adds_event = ap event_in says

    adds_line : event_line_of version line ≡ Some line.number
    adds_line = ap (option_map (λ _. line.number)) adds_event

    first_event-event : (piece : List Line) → first_event (line ∷ piece) ≡ Some line.number
    first_event-event piece = rw says refl

    or_here : (since : Option ℕ) → option_or since (Some line.number) ≡ Some (unwrap_or since line.number)
    or_here None = refl
    or_here (Some number) = refl

    pub since_from-event : (since : Option ℕ) (pieces : List (List Line)) → 0 < length pieces
        → since_from since (onto_first line pieces) ≡ since_from (Some (unwrap_or since line.number)) pieces
    since_from-event since [] some = absurd (omega arith)
    since_from-event since (piece ∷ []) some = ap (option_or since) (first_event-event piece) ∙ or_here since
    since_from-event since (piece ∷ next ∷ more) some = refl

  -- a line comes first that adds none
  module _ (line : Line) (none : event_of version line ≡ None) where
    no_line : event_line_of version line ≡ None
    no_line = ap (option_map (λ _. line.number)) none

    first_event-passed : (piece : List Line) → first_event (line ∷ piece) ≡ first_event piece
    first_event-passed piece = rw none refl

    pub since_from-passed : (since : Option ℕ) (pieces : List (List Line)) → 0 < length pieces
        → since_from since (onto_first line pieces) ≡ since_from since pieces
    since_from-passed since [] some = absurd (omega arith)
    since_from-passed since (piece ∷ []) some = ap (option_or since) (first_event-passed piece)
    since_from-passed since (piece ∷ next ∷ more) some = refl

  -- ---- what is meant behind what was read

  abbrev pub pieces_of : List Line → List (List Line)
  pieces_of lines = slice_split (is_publish version) lines

  pub some_piece : (lines : List Line) → 0 < length (pieces_of lines)
  some_piece lines = omega (arith, length-slice_split (is_publish version) lines)

  abbrev pub publications_of : List (List Event) → List (List ℕ) → Publications
  publications_of batches lines = record { batches = batches; lines = lines }

  pub same_publications : (batches more_batches : List (List Event)) (lines more_lines : List (List ℕ))
      → batches ≡ more_batches → lines ≡ more_lines
      → publications_of batches lines ≡ publications_of more_batches more_lines
  same_publications batches more_batches lines more_lines same_batches same_lines =
      ap (λ (b : List (List Event)). publications_of b lines) same_batches
      ∙ ap (publications_of more_batches) same_lines

  -- what is published where these pieces follow what was read so far
  abbrev pub all_from : Progress → List (List Line) → Publications
  all_from so_far pieces = publications_of
      (so_far.published.batches ++ published_from (event_of version) so_far.batch pieces)
      (so_far.published.lines ++ published_from (event_line_of version) so_far.lines pieces)

  pub all_from-nothing : (pieces : List (List Line)) → all_from nothing_read pieces
      ≡ publications_of (map (filter_map (event_of version)) (but_last pieces))
      (map (filter_map (event_line_of version)) (but_last pieces))
  all_from-nothing pieces = same_publications _ _ _ _
      (published_from-nothing (event_of version) pieces) (published_from-nothing (event_line_of version) pieces)

  pub all_from-published : (so_far : Progress) (pieces : List (List Line)) → 0 < length pieces
      → all_from so_far ([] ∷ pieces) ≡ all_from (published so_far) pieces
  all_from-published so_far pieces some = same_publications _ _ _ _
      (published_from-published (event_of version) so_far.published.batches so_far.batch pieces some)
      (published_from-published (event_line_of version) so_far.published.lines so_far.lines pieces some)

  pub all_from-event : (so_far : Progress) (line : Line) (event : Event)
      → said_by version line ≡ Ok (statement.Event event) → (pieces : List (List Line))
      → all_from so_far (onto_first line pieces) ≡ all_from (longer so_far line.number event) pieces
  all_from-event so_far line event says pieces = same_publications _ _ _ _
      (ap (λ (all : List (List Event)). so_far.published.batches ++ all)
      (published_from-added (event_of version) line event (adds_event line event says) so_far.batch pieces))
      (ap (λ (all : List (List ℕ)). so_far.published.lines ++ all)
      (published_from-added (event_line_of version) line line.number (adds_line line event says) so_far.lines pieces))

  pub all_from-passed : (so_far : Progress) (line : Line) → event_of version line ≡ None → (pieces : List (List Line))
      → all_from so_far (onto_first line pieces) ≡ all_from so_far pieces
  all_from-passed so_far line none pieces = same_publications _ _ _ _
      (ap (λ (all : List (List Event)). so_far.published.batches ++ all)
      (published_from-passed (event_of version) line none so_far.batch pieces))
      (ap (λ (all : List (List ℕ)). so_far.published.lines ++ all)
      (published_from-passed (event_line_of version) line (no_line line none) so_far.lines pieces))
