-- Names stay names behind more blocks and tags.
use Rattle.std.proofs.Common.{◌≡◌, Bool, true, false, cond, ◌||◌, List, [], ◌∷◌, ◌++◌, map, Some, refl, sym, ap, ◌∙◌, true≢false}
use Rattle.std.specs.Prelude.{is_some, option_map, bytes_eq}
use Rattle.std.specs.List.{find}
use Rattle.text_model.specs.Id.{Id, has_id}
use Rattle.text_model.proofs.EachLemmas.{Each-weaker}
use Rattle.text_model.proofs.TestLemmas.{or_true}
use Rattle.git_model.specs.Object.{Object}
use Rattle.pair_model.specs.Block.{Block, node_of, id_of}
use Rattle.state_model.specs.Kept.{Kept, NameRow, ids_of}
use Rattle.state_model.specs.Names.{targets_in, is_target}
use Rattle.saved_model.specs.Step.{next_of}
use Rattle.state_law.specs.Left.{NamesStay}

abbrev pub pair_of : Block → Id × Id
pair_of b = (node_of b, id_of b)

abbrev has_commit : List Block → Id → Bool
has_commit blocks id = is_some (option_map (λ (e : Id × Id). e.0) (find (λ (e : Id × Id). bytes_eq e.1 id) (map pair_of blocks)))

commit-stays : (id : Id) (blocks new : List Block) → has_commit blocks id ≡ true → has_commit (blocks ++ new) id ≡ true
commit-stays id [] new h = absurd (true≢false (sym h))
commit-stays id (b ∷ blocks) new h = by (bytes_eq (id_of b) id) h (commit-stays id blocks new)
  where
    by : (t : Bool) → is_some (option_map (λ (e : Id × Id). e.0) (cond t (Some (pair_of b)) (find (λ (e : Id × Id). bytes_eq e.1 id) (map pair_of blocks)))) ≡ true
        → (has_commit blocks id ≡ true → has_commit (blocks ++ new) id ≡ true)
        → is_some (option_map (λ (e : Id × Id). e.0) (cond t (Some (pair_of b)) (find (λ (e : Id × Id). bytes_eq e.1 id) (map pair_of (blocks ++ new))))) ≡ true
    by true k rec = refl
    by false k rec = rec k

pub tag-stays : (id : Id) (tags new : List Object) → has_id (ids_of tags) id ≡ true → has_id (ids_of (tags ++ new)) id ≡ true
tag-stays id [] new h = absurd (true≢false (sym h))
tag-stays id (o ∷ tags) new h = by (bytes_eq id o.id) h (tag-stays id tags new)
  where
    by : (t : Bool) → (t || has_id (ids_of tags) id) ≡ true → (has_id (ids_of tags) id ≡ true → has_id (ids_of (tags ++ new)) id ≡ true) → (t || has_id (ids_of (tags ++ new)) id) ≡ true
    by true k rec = refl
    by false k rec = rec k

either : (a b c d : Bool) → (a ≡ true → c ≡ true) → (b ≡ true → d ≡ true) → (a || b) ≡ true → (c || d) ≡ true
either true b c d f g h = ap (λ (t : Bool). t || d) (f refl)
either false b c d f g h = ap (λ (t : Bool). c || t) (g h) ∙ or_true c

module _ (k : Kept) (new : List Block) (tags : List Object) where
  target-stays : (row : NameRow) → is_target (targets_in k) row.id ≡ true → is_target (targets_in (next_of k new tags)) row.id ≡ true
  target-stays row =
      either (has_commit k.blocks row.id) (has_id (ids_of k.tags) row.id) (has_commit (k.blocks ++ new) row.id) (has_id (ids_of (k.tags ++ tags)) row.id) (commit-stays row.id k.blocks new)
      (tag-stays row.id k.tags tags)

pub names-stay : NamesStay
names-stay k new tags names n = record {
  few = n.few;
  fit = n.fit;
  targets = Each-weaker (λ row. is_target (targets_in k) row.id ≡ true) (λ row. is_target (targets_in (next_of k new tags)) row.id ≡ true) (target-stays k new tags) names n.targets;
  rising = n.rising;
}
