-- One event more.
use Rattle.std.proofs.Common.{◌≡◌, ◌∙◌, ap, refl, ℕ, ◌+◌, ◌<◌, ◌≤◌, List, [], ◌∷◌, ◌++◌, fold, length, drop, get_or, slice_index}
use Rattle.std.proofs.Common.{add-one, drop-cons}
use Rattle.std.specs.List.{flat_map}
use Rattle.std.proofs.lemmas.List.{drop_all}
use Rattle.pmp_core.specs.declared.event.Event.{Event}
use Rattle.pmp_core.specs.RegisterFile.{RegisterFile}
use Rattle.pmp_core.specs.RegisterWrite.{step}
use Rattle.pmp_lint.specs.declared.finding.Finding.{Finding}
use Rattle.pmp_lint.specs.Events.{Happening, happenings_from}
use Rattle.pmp_text.specs.Cells.{RowValue}
use Rattle.pmp_lint.specs.Telling.{HasTold, Telling}
use Rattle.pmp_lint.proofs.Telling.{told_more}

module _ (place : ℕ) (file : RegisterFile) (events : List Event) (lines : List ℕ) (other : Event) where
  -- the event in this place, or another past the last
  abbrev pub event_here : Event
  event_here = get_or events place other

  abbrev pub happening_here : Happening
  happening_here = record { before = file; event = event_here; line = slice_index lines place }

  drop_here : place < length events → drop place events ≡ event_here ∷ drop (place + 1) events
  drop_here inside = rw (add-one, drop-cons events place other) refl

  pub happenings_on : place < length events → happenings_from place file (drop place events) lines
      ≡ happening_here ∷ happenings_from (place + 1) (step file event_here) (drop (place + 1) events) lines
  happenings_on inside = ap (λ rest. happenings_from place file rest lines) (drop_here inside)

  pub file_on : place < length events → fold step file (drop place events)
      ≡ fold step (step file event_here) (drop (place + 1) events)
  file_on inside = ap (fold step file) (drop_here inside)

  -- what is found of the event is told, and then what is found of the rest
  pub told_on : {A : Type 0} (Adds : List RowValue → A → A → Type 0) (none : (rows : A) → Adds [] rows rows)
      (both : (one other : List RowValue) (first second third : A) → Adds one first second → Adds other second third
      → Adds (one ++ other) first third) (of_one : Happening → List Finding) (before after later : Telling A)
      → place < length events → HasTold Adds (of_one happening_here) before after
      → HasTold Adds
      (flat_map of_one (happenings_from (place + 1) (step file event_here) (drop (place + 1) events) lines)) after later
      → HasTold Adds (flat_map of_one (happenings_from place file (drop place events) lines)) before later
  told_on Adds none both of_one before after later inside told more =
      rw (happenings_on inside) (told_more Adds none both (of_one happening_here) _ before after later told more)

  pub none_left : length events ≤ place → happenings_from place file (drop place events) lines ≡ []
  none_left past = ap (λ rest. happenings_from place file rest lines) (drop_all place events past)
