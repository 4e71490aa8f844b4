use Rattle.std.proofs.Common.{◌≡◌, ◌∙◌, ℕ, [], ◌∷◌, slice_index, ap, rules}
use Rattle.pmp_core.specs.declared.access.Mode.{Mode}
use Rattle.pmp_core.specs.declared.access.Mode.TheVariants.{M, S, U}
use Rattle.pmp_core.specs.declared.access.Kind.{Kind}
use Rattle.pmp_core.specs.declared.access.Kind.TheVariants.{Fetch, Load, Store}
use Rattle.pmp_map.specs.declared.mode_rights.ModeRights.{ModeRights}
use Rattle.pmp_map.specs.Answers.{kept_rights}
use Rattle.pmp_map.specs.Columns.{column_of}
use Rattle.pmp_map.specs.Rows.{owned_answer}
use Rattle.pmp_map.proofs.KeptRights.{rights_kept}
use Rattle.pmp_map.proofs.row.row_of.Goals as goal

-- a row has the answers at their columns
picked : (answer : Mode → Kind → ℕ) (u v w x y z : ℕ)
    → u ≡ answer U Fetch → v ≡ answer U Load → w ≡ answer U Store
    → u ≡ answer S Fetch → v ≡ answer S Load → w ≡ answer S Store
    → x ≡ answer M Fetch → y ≡ answer M Load → z ≡ answer M Store → (mode : Mode) (kind : Kind) → slice_index
    (u ∷ v ∷ w ∷ 1023 ∷ u ∷ v ∷ w ∷ 1023 ∷ 1023 ∷ 1023 ∷ 1023 ∷ 1023 ∷ x ∷ y ∷ z ∷ 1023 ∷ []) (column_of mode kind)
    ≡ answer mode kind
picked answer u v w x y z a b c d e f g h i mode kind = search rules

pub returns : goal.returns
returns c =
    let file = c.args.registers.now in
    let kept = λ (mode : Mode). ap (λ (r : ModeRights). kept_rights r mode) c.of_owner-rights.ensures
    ∙ rights_kept file c.args.owner mode in
    let fetch = c.owned_answer-fetch.ensures.answer file in
    let load = c.owned_answer-load.ensures.answer file in
    let store = c.owned_answer-store.ensures.answer file in
    record {
      number = c.owned_answer-fetch.ensures.number;
      answers = picked (owned_answer file c.args.owner) _ _ _ _ _ _ (fetch U (kept U)) (load U (kept U))
          (store U (kept U)) (fetch S (kept S)) (load S (kept S)) (store S (kept S))
          (c.owned_answer.ensures.answer file M (kept M)) (c.owned_answer-2.ensures.answer file M (kept M))
          (c.owned_answer-3.ensures.answer file M (kept M));
    }
