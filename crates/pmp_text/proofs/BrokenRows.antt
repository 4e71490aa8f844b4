-- A record that has a line end in a field is neither a row nor a header.
use Rattle.std.proofs.Common.{◌≡◌, ℕ, Bool, true, false, List, [], ◌∷◌, Some, Err, refl, rules}
use Rattle.std.specs.Prelude.{◌&&◌, bytes_eq, codes}
use Rattle.std.proofs.lemmas.Bool.{and_parts}
use Rattle.std.proofs.lemmas.Slice.Eq.{bytes_eq-Decides}
use Rattle.pmp_text.specs.Flaws.{as_whole}
use Rattle.pmp_text.specs.Moments.{KnownMoments}
use Rattle.pmp_text.specs.Tables.{is_broken}
use Rattle.pmp_text.specs.Traces.{FiveFields, five_fields, is_header, row_in}
use Rattle.pmp_text.specs.declared.refusal.Refusal.TheVariants.{BadRow}

pub are_five : (fields : List (List ℕ)) (five : FiveFields) → five_fields fields ≡ Some five
    → fields ≡ five.after ∷ five.mode ∷ five.kind ∷ five.start ∷ five.length ∷ []
unfolding five_fields
are_five [] five e = absurd cc
are_five (after ∷ []) five e = absurd cc
are_five (after ∷ mode ∷ []) five e = absurd cc
are_five (after ∷ mode ∷ kind ∷ []) five e = absurd cc
are_five (after ∷ mode ∷ kind ∷ start ∷ []) five e = absurd cc
are_five (after ∷ mode ∷ kind ∷ start ∷ length ∷ []) five e = search rules
are_five (after ∷ mode ∷ kind ∷ start ∷ length ∷ other ∷ more) five e = absurd cc

-- a record that goes over several lines is at fault as a whole
pub no_row : (moments : KnownMoments) (fields : List (List ℕ)) → is_broken fields ≡ true
    → row_in moments fields ≡ Err (as_whole BadRow)
no_row moments fields e = rw e refl

-- ---- a header

same : (word known : List ℕ) → bytes_eq word known ≡ true → word ≡ known
same word known = (bytes_eq-Decides word known).0

unnamed : (after mode kind start length : List ℕ) (named : Bool)
    → (bytes_eq after (codes "after") && (bytes_eq mode (codes "mode") && (bytes_eq kind (codes "kind")
    && (bytes_eq start (codes "start") && bytes_eq length (codes "length"))))) ≡ named
    → is_broken (after ∷ mode ∷ kind ∷ start ∷ length ∷ []) ≡ true → named ≡ false
unnamed after mode kind start length false is e = refl
unnamed after mode kind start length true is e =
    let (a, not_first) = and_parts (bytes_eq after (codes "after")) _ is in
    let (m, last_three) = and_parts (bytes_eq mode (codes "mode")) _ not_first in
    let (k, last_two) = and_parts (bytes_eq kind (codes "kind")) _ last_three in
    let (s, l) = and_parts (bytes_eq start (codes "start")) _ last_two in
    let both : false ≡ true =
    rw (same after _ a, same mode _ m, same kind _ k, same start _ s, same length _ l) at e in
    absurd cc

pub no_header : (fields : List (List ℕ)) → is_broken fields ≡ true → is_header fields ≡ false
unfolding five_fields
no_header [] e = refl
no_header (after ∷ []) e = refl
no_header (after ∷ mode ∷ []) e = refl
no_header (after ∷ mode ∷ kind ∷ []) e = refl
no_header (after ∷ mode ∷ kind ∷ start ∷ []) e = refl
no_header (after ∷ mode ∷ kind ∷ start ∷ length ∷ []) e = unnamed after mode kind start length _ refl e
no_header (after ∷ mode ∷ kind ∷ start ∷ length ∷ other ∷ more) e = refl
