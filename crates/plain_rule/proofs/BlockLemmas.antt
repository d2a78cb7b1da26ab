-- The parents of a changeset among blocks.
use Rattle.std.proofs.Common.{◌≡◌, ℕ, Bool, true, false, true≢false, List, [], ◌∷◌, ◌++◌, map, Option, Some, None, refl, sym, ap, subst, ◌∙◌, bytes_eq}
use Rattle.std.specs.Prelude.{unwrap_or, is_some, IsTrue}
use Rattle.std.proofs.lemmas.Slice.Eq.{bytes_eq-Decides}
use Rattle.text_model.specs.Lists.{Each}
use Rattle.text_model.specs.Id.{Id, is_null}
use Rattle.text_model.proofs.Options.{none_some, some_is}
use Rattle.hg_model.specs.Revision.{Revision, Changesets}
use Rattle.hg_store.specs.Known.{AreAdded}
use Rattle.view_model.specs.View.{ChangesetView, changeset_node}
use Rattle.view_model.specs.Held.{IsChangesetHeld, AreChangesetsHeld}
use Rattle.pair_model.specs.Block.{Block, node_of, changesets_in, view_at, view_or_none, block_of_node, not_null, no_changeset}
use Rattle.pair_known.proofs.HeldViews.{held-as}
use Rattle.file_rule.specs.Parents.{IsParentView}

eq_true : (x y : List ℕ) → bytes_eq x y ≡ true → x ≡ y
eq_true x y h = (bytes_eq-Decides x y).0 h

-- ---- the view of a parent

held-at : (known : List Revision) (views : List ChangesetView) (node : Id) (v : ChangesetView) → AreChangesetsHeld known (map changeset_node views) views → view_at views node ≡ Some v → IsChangesetHeld known node v
held-at known [] node v held at = absurd (none_some at)
held-at known (x ∷ views) node v held at = by (bytes_eq (changeset_node x) node) refl (held-at known views node v held.1)
  where
    by : (t : Bool) → bytes_eq (changeset_node x) node ≡ t → (view_at views node ≡ Some v → IsChangesetHeld known node v) → IsChangesetHeld known node v
    by true t rest =
        let same : x ≡ v = some_is (sym (rw t refl) ∙ at) in
        subst (λ (y : ChangesetView). IsChangesetHeld known node y) same (subst (λ (i : Id). IsChangesetHeld known i x) (eq_true (changeset_node x) node t) held.0)
    by false t rest = rest (sym (rw t refl) ∙ at)

some-front : (xs ys : List ChangesetView) (node : Id) → is_some (view_at xs node) ≡ true → is_some (view_at (xs ++ ys) node) ≡ true
some-front [] ys node some = absurd (true≢false (sym some))
some-front (x ∷ xs) ys node some = by (bytes_eq (changeset_node x) node) refl (some-front xs ys node)
  where
    by : (t : Bool) → bytes_eq (changeset_node x) node ≡ t → (is_some (view_at xs node) ≡ true → is_some (view_at (xs ++ ys) node) ≡ true) → is_some (view_at (x ∷ xs ++ ys) node) ≡ true
    by true t rest = rw t refl
    by false t rest = rw t (rest (sym (rw t refl) ∙ some))

some-behind : (xs ys : List ChangesetView) (node : Id) → is_some (view_at ys node) ≡ true → is_some (view_at (xs ++ ys) node) ≡ true
some-behind [] ys node some = some
some-behind (x ∷ xs) ys node some = by (bytes_eq (changeset_node x) node) refl (some-behind xs ys node some)
  where
    by : (t : Bool) → bytes_eq (changeset_node x) node ≡ t → is_some (view_at (xs ++ ys) node) ≡ true → is_some (view_at (x ∷ xs ++ ys) node) ≡ true
    by true t rest = rw t refl
    by false t rest = rw t rest

-- where a block has the node, some changeset of the blocks has
view-there : (blocks : List Block) (node : Id) → is_some (block_of_node blocks node) ≡ true → is_some (view_at (changesets_in blocks) node) ≡ true
view-there [] node some = absurd (true≢false (sym some))
view-there (b ∷ blocks) node some = by (bytes_eq (node_of b) node) refl (view-there blocks node)
  where
    here : bytes_eq (node_of b) node ≡ true → is_some (view_at (b.changeset ∷ []) node) ≡ true
    here t = rw t refl

    by : (t : Bool) → bytes_eq (node_of b) node ≡ t → (is_some (block_of_node blocks node) ≡ true → is_some (view_at (changesets_in blocks) node) ≡ true) → is_some (view_at (changesets_in (b ∷ blocks)) node) ≡ true
    by true t rest = some-front (b.links ++ b.changeset ∷ []) (changesets_in blocks) node (some-behind b.links (b.changeset ∷ []) node (here t))
    by false t rest = some-behind (b.links ++ b.changeset ∷ []) (changesets_in blocks) node (rest (sym (rw t refl) ∙ some))

pub parent-view : (known : List Revision) → AreAdded known → (blocks : List Block) → AreChangesetsHeld known (map changeset_node (changesets_in blocks)) (changesets_in blocks)
    → (p : Id) → (is_null p ≡ false → is_some (block_of_node blocks p) ≡ true) → IsParentView known p (view_or_none (changesets_in blocks) p)
parent-view known added blocks held p there = by (view_at (changesets_in blocks) p) refl
  where
    by : (o : Option ChangesetView) → view_at (changesets_in blocks) p ≡ o → IsParentView known p (view_or_none (changesets_in blocks) p)
    by None e = record {
      of_null = λ null. ap (λ (o : Option ChangesetView). unwrap_or o no_changeset) e;
      held = λ some. absurd (true≢false (sym (view-there blocks p (there some)) ∙ ap is_some e));
    }
    by (Some v) e =
        let is = held-at known (changesets_in blocks) p v held e in
        let out : view_or_none (changesets_in blocks) p ≡ v = ap (λ (o : Option ChangesetView). unwrap_or o no_changeset) e in
        record {
          of_null = λ null. absurd (true≢false (sym null ∙ (held-as known added Changesets p is.revision is.is_held).some));
          held = λ some. subst (IsChangesetHeld known p) (sym out) is;
        }

pub among-first : (blocks : List Block) (p q : Id) → Each (λ p. IsTrue (is_some (block_of_node blocks p))) (not_null (p ∷ q ∷ [])) → is_null p ≡ false → is_some (block_of_node blocks p) ≡ true
among-first blocks p q there some = (subst (Each (λ p. IsTrue (is_some (block_of_node blocks p)))) keeps there).0
  where
    keeps : not_null (p ∷ q ∷ []) ≡ p ∷ not_null (q ∷ [])
    keeps = rw some refl

pub among-second : (blocks : List Block) (p q : Id) → Each (λ p. IsTrue (is_some (block_of_node blocks p))) (not_null (p ∷ q ∷ [])) → is_null q ≡ false → is_some (block_of_node blocks q) ≡ true
among-second blocks p q there some = by (is_null p) refl
  where
    by : (t : Bool) → is_null p ≡ t → is_some (block_of_node blocks q) ≡ true
    by true t = let keeps : not_null (p ∷ q ∷ []) ≡ q ∷ [] = rw (t, some) refl in (subst (Each (λ p. IsTrue (is_some (block_of_node blocks p)))) keeps there).0
    by false t = let keeps : not_null (p ∷ q ∷ []) ≡ p ∷ q ∷ [] = rw (t, some) refl in (subst (Each (λ p. IsTrue (is_some (block_of_node blocks p)))) keeps there).1.0
