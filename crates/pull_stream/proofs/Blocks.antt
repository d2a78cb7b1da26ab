-- Look-ups of blocks by the ids of their commits.
use Rattle.std.proofs.Common.{◌≡◌, Bool, true, false, ◌||◌, List, [], ◌∷◌, ◌++◌, map, refl, ◌∙◌, bytes_eq}
use Rattle.std.specs.Prelude.{is_some}
use Rattle.text_model.specs.Id.{Id}
use Rattle.git_model.specs.Order.{has}
use Rattle.git_store.proofs.DistinctLemmas.{bytes_eq-comm}
use Rattle.pair_model.specs.Block.{Block, id_of, block_of_id}

-- a block has the id exactly where the id is among those of the blocks
pub has-block : (blocks : List Block) (id : Id) → is_some (block_of_id blocks id) ≡ has (map id_of blocks) id
has-block [] id = refl
has-block (b ∷ blocks) id = by (bytes_eq (id_of b) id) refl (has-block blocks id)
  where
    by : (t : Bool) → bytes_eq (id_of b) id ≡ t → is_some (block_of_id blocks id) ≡ has (map id_of blocks) id → is_some (block_of_id (b ∷ blocks) id) ≡ has (map id_of (b ∷ blocks)) id
    by true t rest = rw (t, bytes_eq-comm id (id_of b) ∙ t) refl
    by false t rest = rw (t, bytes_eq-comm id (id_of b) ∙ t) rest

pub has-append : (xs ys : List Id) (id : Id) → has (xs ++ ys) id ≡ (has xs id || has ys id)
has-append [] ys id = refl
has-append (x ∷ xs) ys id = by (bytes_eq id x) (has-append xs ys id)
  where
    by : (t : Bool) → has (xs ++ ys) id ≡ (has xs id || has ys id) → (t || has (xs ++ ys) id) ≡ (t || has xs id || has ys id)
    by true rest = refl
    by false rest = rest
