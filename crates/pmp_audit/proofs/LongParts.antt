-- Texts in parts, and two parts of a piece, each reported where it stands.
use Rattle.std.proofs.Common.{◌≡◌, ℕ, ◌+◌, ◌<◌, true, List, [], ◌∷◌, ◌++◌, length, take, drop, get_or, Option, None}
use Rattle.std.proofs.Common.{Result, Ok, Err, sym, ap, ◌∙◌, append_assoc, append-nil, arith}
use Rattle.std.specs.Prelude.{IfOk, Vec}
use Rattle.std.specs.Option.{option_or}
use Rattle.std.specs.declared.alloc.Global.{Global}
use Rattle.std.specs.Io.KnownBytes.{Appends}
use Rattle.std.proofs.KnownBytes.{Appends-trans}
use Rattle.std.proofs.lemmas.List.{drop_more, take-append-drop, take_more}
use Rattle.std.proofs.lemmas.List.Concat.{flat_map-append}
use Rattle.pmp_text.specs.declared.trace.rows.Position.{Position}
use Rattle.pmp_text.specs.Bytes.{AppendsBeginning}
use Rattle.pmp_text.specs.Contents.{ScriptContents}
use Rattle.pmp_text.specs.LongTraces.{Records, place_behind}
use Rattle.pmp_text.specs.Tables.{is_line_end, records_of}
use Rattle.pmp_text.proofs.PieceFaults.{apart, places_in_turn}
use Rattle.pmp_text.specs.Moments.{moments_in}
use Rattle.pmp_text.specs.declared.fault.Fault.{Fault}
use Rattle.pmp_audit.specs.declared.piece.PieceReport.{PieceReport}
use Rattle.pmp_audit.specs.declared.standing.Standing.{Standing}
use Rattle.pmp_audit.specs.LongParts.{AreJoined, IsBoth, items_of}
use Rattle.pmp_audit.specs.LongPieces.{IsPieceReported}
use Rattle.pmp_audit.proofs.PieceTexts.{joined as together}

-- ---- what parts have

-- a part alone
pub one_alone : {X : Type 0} (part : Vec X Global) → items_of (part ∷ []) ≡ part.items
one_alone part = append-nil part.items

-- a text that is partly written, behind others that are written
pub partly_written : (texts : List (Vec ℕ Global)) (i : ℕ) (text : Vec ℕ Global) → i < length texts
    → text ≡ get_or texts i text → (old mid new : Option (List ℕ)) → Appends old mid (items_of (take i texts))
    → AppendsBeginning mid new text.items → AppendsBeginning old new (items_of texts)
partly_written texts i text inside text_is old mid new written (front, rest, split, partly) =
    let before = items_of (take i texts) in
    let behind = items_of (drop (i + 1) texts) in
    let here : drop i texts ≡ text ∷ drop (i + 1) texts = drop_more texts i text inside
    ∙ ap (λ (t : Vec ℕ Global). t ∷ drop (i + 1) texts) (sym text_is) in
    let all : items_of texts ≡ before ++ (text.items ++ behind) =
    ap items_of (sym (take-append-drop i texts)) ∙ flat_map-append _ (take i texts) (drop i texts)
    ∙ ap (λ (l : List (Vec ℕ Global)). before ++ items_of l) here in (
      before ++ front,
      rest ++ behind,
      all ∙ ap (λ (l : List ℕ). before ++ (l ++ behind)) split
          ∙ ap (λ (l : List ℕ). before ++ l) (append_assoc front rest behind)
          ∙ sym (append_assoc before front (rest ++ behind)),
      Appends-trans old mid new before front written partly,
    )

-- ---- two parts

module _ (script : ScriptContents) (standing middle : Standing) (front back both : PieceReport)
    (joined : IsBoth front middle back both) (fresh : middle ≡ record { place = record middle.place { bare = None }; faults = 0 })
  where
    module _ (low high : Records) (here : IsPieceReported script low standing front)
        (there : IsPieceReported script high middle back) where
      meets : middle.place ≡ record front.behind.place { bare = None }
      meets = ap (λ (s : Standing). s.place) fresh
          ∙ sym (ap (λ (p : Position). record p { bare = None }) joined.meets)

      behind_low : middle.place ≡ record front.behind.place { bare = middle.place.bare }
      behind_low = meets ∙ ap (λ (bare : Option ℕ). record front.behind.place { bare = bare })
          (sym (ap (λ (s : Standing). s.place.bare) fresh))

      pub both_reported : IsPieceReported script (low ++ high) standing both
      both_reported =
          rw (ap items_of joined.texts ∙ flat_map-append _ front.texts.items back.texts.items)
          (together here there behind_low both.behind
          (joined.place
          ∙ ap (λ (p : Position). record p { bare = option_or front.behind.place.bare p.bare })
          (there.place ∙ ap (λ (p : Position). place_behind (moments_in script) p high) meets)
          ∙ ap (λ (p : Position). place_behind (moments_in script) p high) here.place
          ∙ sym (places_in_turn (moments_in script) standing.place low high))
          (let faults = joined.faults in let none = ap (λ (s : Standing). s.faults) fresh in omega arith))

-- a text that was cut at a line's end
module _ (script : ScriptContents) (standing middle : Standing)
    (fresh : middle ≡ record { place = record middle.place { bare = None }; faults = 0 }) (text low high : List ℕ)
    (end : ℕ) (inside : end < length text) (ends : is_line_end (get_or text end 0) ≡ true)
    (low_is : low ≡ take (end + 1) text) (high_is : high ≡ drop end text) (both : PieceReport) where
  pub parts_reported : (front back : Result PieceReport Fault)
      → IfOk front (IsPieceReported script (records_of low) standing)
      → IfOk back (IsPieceReported script (records_of high) middle) → AreJoined front middle back both
      → IsPieceReported script (records_of text) standing both
  parts_reported (Ok front) (Ok back) here there joined =
      let e = get_or text end 0 in
      let before = take end text in
      let behind = drop (end + 1) text in
      let low_ends : low ≡ before ++ e ∷ [] = low_is ∙ take_more text end 0 inside in
      let high_begins : high ≡ e ∷ behind = high_is ∙ drop_more text end 0 inside in
      let whole : text ≡ before ++ e ∷ behind = sym (take-append-drop end text)
      ∙ ap (λ (l : List ℕ). before ++ l) (drop_more text end 0 inside) in
      let front_is = rw low_ends at here in
      let back_is = rw high_begins at there in
      rw (whole, apart (moments_in script) standing.place before e ends front_is.report.fine behind)
      (both_reported script standing middle front back both joined fresh (records_of (before ++ e ∷ []))
      (records_of (e ∷ behind)) front_is back_is)
  parts_reported (Ok front) (Err fault) here there joined = absurd joined
  parts_reported (Err fault) back here there joined = absurd joined
