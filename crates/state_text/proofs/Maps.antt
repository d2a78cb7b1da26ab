-- The lines of the map, of blocks and of the pairs of their ids.
use Rattle.std.proofs.Common.{◌≡◌, Bool, true, false, if◌then◌else◌, List, [], ◌∷◌, map, refl, ap, ◌∙◌}
use Rattle.std.specs.List.{flat_map}
use Rattle.std.proofs.lemmas.List.Folds.{flat_map-map}
use Rattle.text_model.specs.Lists.{in_order, with_inserted}
use Rattle.pair_model.specs.Block.{Block}
use Rattle.saved_model.specs.Written.{has_node_below, map_text}
use Rattle.state_part.specs.Pairs as pairs
use Rattle.state_part.specs.Pairs.{pair_line, sorted_lines}
use Rattle.state_text.specs.Stands.{pair_of}

-- what is put in order behind a map is what was put in order before it
inserted-map : {X Y : Type 0} (f : X → Y) (below : Y → Y → Bool) (x : X) (ys : List X)
    → with_inserted below (f x) (map f ys) ≡ map f (with_inserted (λ a b. below (f a) (f b)) x ys)
inserted-map f below x [] = refl
inserted-map {X} {Y} f below x (y ∷ ys) = by (below (f y) (f x)) (inserted-map f below x ys)
  where
    by : (t : Bool) → with_inserted below (f x) (map f ys) ≡ map f (with_inserted (λ a b. below (f a) (f b)) x ys)
        → (if t then f y ∷ with_inserted below (f x) (map f ys) else f x ∷ f y ∷ map f ys) ≡ map f (if t then y ∷ with_inserted (λ a b. below (f a) (f b)) x ys else x ∷ y ∷ ys)
    by true e = ap (λ (zs : List Y). f y ∷ zs) e
    by false e = refl

ordered-map : {X Y : Type 0} (f : X → Y) (below : Y → Y → Bool) (xs : List X) → in_order below (map f xs) ≡ map f (in_order (λ a b. below (f a) (f b)) xs)
ordered-map f below [] = refl
ordered-map {X} {Y} f below (x ∷ xs) =
    ap (with_inserted below (f x)) (ordered-map f below xs) ∙ inserted-map f below x (in_order (λ a b. below (f a) (f b)) xs)

-- the lines of the pairs are those of their blocks
pub map-lines : (blocks : List Block) → sorted_lines (map pair_of blocks) ≡ map_text blocks
map-lines blocks =
    ap (flat_map pair_line) (ordered-map pair_of pairs.has_node_below blocks) ∙ flat_map-map pair_line pair_of (in_order has_node_below blocks)
