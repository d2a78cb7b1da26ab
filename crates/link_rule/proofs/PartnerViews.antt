-- The partners of a commit's parents: their nodes, and the changesets that a store holds for them.
use Rattle.std.proofs.Common.{◌≡◌, ◌++◌, Bool, true, false, true≢false, List, [], ◌∷◌, map, Option, Some, None, refl, sym, ap, subst, ◌∙◌, inl, inr}
use Rattle.std.proofs.lemmas.Option.{same_Some, none-some}
use Rattle.std.specs.Prelude.{bytes_eq, is_some, option_map, unwrap_or, if◌then◌else◌, IsTrue}
use Rattle.std.proofs.lemmas.Slice.Eq.{bytes_eq-Decides}
use Rattle.text_model.specs.Lists.{In, Each}
use Rattle.text_model.specs.Id.{Id, null, is_null}
use Rattle.text_model.proofs.Elements.{in_left, in_right}
use Rattle.hg_model.specs.Revision.{Revision, Changesets}
use Rattle.hg_store.specs.Known.{AreAdded}
use Rattle.view_model.specs.View.{ChangesetView, changeset_node}
use Rattle.view_model.specs.Held.{IsChangesetHeld, AreChangesetsHeld}
use Rattle.pair_model.specs.Block.{Block, node_of, block_of_id, hg_partner, changesets_in, view_at, view_or_none, no_changeset}
use Rattle.pair_model.specs.Octopus.{first_of}
use Rattle.pair_known.specs.Partners.{hg_at}
use Rattle.pair_known.specs.Blocks.{IsHistoryHeld}
use Rattle.pair_known.specs.declared.known.Known.{Known}
use Rattle.pair_known.proofs.HeldViews.{held-as}
use Rattle.pair_known.proofs.PartnerLemmas.{pairs_of, hg-pairs, block-of-id}
use Rattle.file_rule.specs.Parents.{IsParentView}

-- ---- the nodes by the pairs

pub partners-are : (pairs : List (Id × Id)) (blocks : List Block) → pairs ≡ pairs_of blocks → (ids : List Id) → map (λ id. unwrap_or (hg_at pairs id) null) ids ≡ map (hg_partner blocks) ids
partners-are pairs blocks same [] = refl
partners-are pairs blocks same (id ∷ ids) =
    λ i. ((λ j. unwrap_or (hg_at (same j) id) null) ∙ ap (λ (o : Option Id). unwrap_or o null) (hg-pairs blocks id)) i ∷ partners-are pairs blocks same ids i

-- ---- the views

-- a changeset that is found among those that are held is held
pub found-held : (known : List Revision) (vs : List ChangesetView) (node : Id) (v : ChangesetView) → AreChangesetsHeld known (map changeset_node vs) vs → view_at vs node ≡ Some v → IsChangesetHeld known node v
found-held known [] node v held at = absurd (none-some _ at)
found-held known (x ∷ vs) node v held at = by (bytes_eq (changeset_node x) node) refl at (λ k. found-held known vs node v held.1 k)
  where
    by : (t : Bool) → bytes_eq (changeset_node x) node ≡ t → (if t then Some x else view_at vs node) ≡ Some v → (view_at vs node ≡ Some v → IsChangesetHeld known node v) → IsChangesetHeld known node v
    by true e k rec = subst (λ (w : ChangesetView). IsChangesetHeld known node w) (same_Some _ _ k) (subst (λ (n : Id). IsChangesetHeld known n x) ((bytes_eq-Decides (changeset_node x) node).0 e) held.0)
    by false e k rec = rec k

-- the changeset of a block is among those of the blocks
pub changeset-in : (blocks : List Block) (b : Block) → In b blocks → In b.changeset (changesets_in blocks)
changeset-in [] b i = absurd i
changeset-in (x ∷ blocks) b i = elim i [
  | inl q ↦ in_left b.changeset (x.links ++ x.changeset ∷ []) (changesets_in blocks) (in_right b.changeset x.links (x.changeset ∷ []) (inl (ap (λ (y : Block). y.changeset) q)))
  | inr j ↦ in_right b.changeset (x.links ++ x.changeset ∷ []) (changesets_in blocks) (changeset-in blocks b j)
]

pub view-found : (vs : List ChangesetView) (v : ChangesetView) → In v vs → (w : ChangesetView) × (view_at vs (changeset_node v) ≡ Some w)
view-found [] v i = absurd i
view-found (x ∷ vs) v i = by (bytes_eq (changeset_node x) (changeset_node v)) refl (λ j. view-found vs v j)
  where
    by : (t : Bool) → bytes_eq (changeset_node x) (changeset_node v) ≡ t → (In v vs → (w : ChangesetView) × (view_at vs (changeset_node v) ≡ Some w))
        → (w : ChangesetView) × ((if t then Some x else view_at vs (changeset_node v)) ≡ Some w)
    by true e rec = (x, refl)
    by false e rec = elim i [ inl q ↦ absurd (true≢false (sym ((bytes_eq-Decides (changeset_node x) (changeset_node v)).1 (ap changeset_node (sym q))) ∙ e)) | inr j ↦ rec j ]

module _ (k : Known) (blocks : List Block) (held : IsHistoryHeld k blocks) (added : AreAdded k.hg) where
  changesets : AreChangesetsHeld k.hg (map changeset_node (changesets_in blocks)) (changesets_in blocks)
  changesets = (held.held).changesets

  -- no changeset has the null id
  pub no-null : (v : ChangesetView) (node : Id) → is_null node ≡ true → IsChangesetHeld k.hg node v → ⊥
  no-null v node e h = true≢false (sym e ∙ (held-as k.hg added Changesets node h.revision h.is_held).some)

  pub null-view : (node : Id) → is_null node ≡ true → view_or_none (changesets_in blocks) node ≡ no_changeset
  null-view node e = by (view_at (changesets_in blocks) node) refl
    where
      by : (o : Option ChangesetView) → view_at (changesets_in blocks) node ≡ o → unwrap_or (view_at (changesets_in blocks) node) no_changeset ≡ no_changeset
      by None q = ap (λ (o : Option ChangesetView). unwrap_or o no_changeset) q
      by (Some v) q = absurd (no-null v node e (found-held k.hg (changesets_in blocks) node v changesets q))

  -- a partner that is there is held
  pub partner-held : (id : Id) → IsTrue (is_some (block_of_id blocks id)) → IsChangesetHeld k.hg (hg_partner blocks id) (view_or_none (changesets_in blocks) (hg_partner blocks id))
  partner-held id h =
      let b = block-of-id blocks id h in
      let node : hg_partner blocks id ≡ node_of b.0 = ap (λ (o : Option Block). unwrap_or (option_map node_of o) null) b.1 in
      let w = view-found (changesets_in blocks) (b.0).changeset (changeset-in blocks b.0 b.2) in
      let at : view_at (changesets_in blocks) (hg_partner blocks id) ≡ Some w.0 = ap (view_at (changesets_in blocks)) node ∙ w.1 in
      subst (λ (v : ChangesetView). IsChangesetHeld k.hg (hg_partner blocks id) v) (sym (ap (λ (o : Option ChangesetView). unwrap_or o no_changeset) at)) (found-held k.hg (changesets_in blocks) (hg_partner blocks id) w.0 changesets at)

  pub null-parent : IsParentView k.hg null (view_or_none (changesets_in blocks) null)
  null-parent = record { of_null = λ e. null-view null e; held = λ e. absurd (true≢false (sym ((bytes_eq-Decides null null).1 refl) ∙ e)) }

  pub partner-parent : (id : Id) → IsTrue (is_some (block_of_id blocks id)) → IsParentView k.hg (hg_partner blocks id) (view_or_none (changesets_in blocks) (hg_partner blocks id))
  partner-parent id h = record { of_null = λ e. null-view (hg_partner blocks id) e; held = λ e. partner-held id h }

  pub first-parent : (ps : List Id) → Each (λ p. IsTrue (is_some (block_of_id blocks p))) ps → IsParentView k.hg (first_of (map (hg_partner blocks) ps)) (view_or_none (changesets_in blocks) (first_of (map (hg_partner blocks) ps)))
  first-parent [] all = null-parent
  first-parent (a ∷ ps) all = partner-parent a all.0
