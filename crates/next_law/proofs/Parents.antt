-- The parents of what a new block refers to belong to earlier changesets.
use Rattle.std.proofs.Common.{◌≡◌, ◌⊎◌, Bool, true, false, List, [], ◌∷◌, ◌++◌, map, Option, refl, sym, ap, subst, inl, inr, append_assoc, append-nil}
use Rattle.std.specs.Prelude.{IsTrue, is_some, unwrap_or, option_map}
use Rattle.text_model.specs.Lists.{Each, In}
use Rattle.text_model.specs.Id.{Id, null, is_null}
use Rattle.text_model.proofs.Elements.{in_left, in_right}
use Rattle.hg_model.specs.Revision.{Changesets, Revision, knows, is_known_parent}
use Rattle.view_model.specs.View.{ChangesetView}
use Rattle.view_model.specs.Dump.{revisions_of, revisions_in}
use Rattle.pair_model.specs.Block.{Block, node_of, id_of, block_of_node, block_of_id, hg_partner, changesets_in, not_null}
use Rattle.unmark_law.proofs.Tables.{finds}
use Rattle.hg_dump_law.specs.Taken.{HasParents, AreParentsEarlier}
use Rattle.next_law.proofs.Knows.{Knows, known-parent, null-parent, knows-own}
use Rattle.next_law.proofs.Otherwise.{referred}
use Rattle.next_law.proofs.Apart.{own_of}

-- a revision is known, or its parents are
abbrev pub IsInTime : List Revision → Revision → Type 0
IsInTime rs r = (knows rs r.group r.node ≡ true) ⊎ HasParents rs r

pub earlier-append : (before : List Revision) (xs ys : List ChangesetView) → AreParentsEarlier before xs → AreParentsEarlier (before ++ revisions_in xs) ys → AreParentsEarlier before (xs ++ ys)
earlier-append before [] ys h k = subst (λ (rs : List Revision). AreParentsEarlier rs ys) (append-nil before) k
earlier-append before (x ∷ xs) ys h k =
    (h.0, earlier-append (before ++ revisions_of x) xs ys h.1 (subst (λ (rs : List Revision). AreParentsEarlier rs ys) (sym (append_assoc before (revisions_of x) (revisions_in xs))) k))

-- ---- the changesets of blocks

changeset-in : (blocks : List Block) (b : Block) → In b blocks → In b.changeset (changesets_in blocks)
changeset-in [] b i = absurd i
changeset-in (x ∷ blocks) b (inl e) = in_left b.changeset (own_of x) (changesets_in blocks) (subst (λ (d : Block). In d.changeset (own_of x)) (sym e) (in_right x.changeset x.links (x.changeset ∷ []) (inl refl)))
changeset-in (x ∷ blocks) b (inr i) = in_right b.changeset (own_of x) (changesets_in blocks) (changeset-in blocks b i)

pub knows-block : (blocks : List Block) (node : Id) → IsTrue (is_some (block_of_node blocks node)) → Knows (referred blocks) Changesets node
knows-block blocks node h =
    let at = finds node_of node blocks h in
    subst (Knows (referred blocks) Changesets) at.is (knows-own (at.it).changeset (changesets_in blocks) (changeset-in blocks at.it at.among))

knows-partner : (blocks : List Block) (id : Id) → IsTrue (is_some (block_of_id blocks id)) → Knows (referred blocks) Changesets (hg_partner blocks id)
knows-partner blocks id h =
    let at = finds id_of id blocks h in
    let is : hg_partner blocks id ≡ node_of at.it = ap (λ (o : Option Block). unwrap_or (option_map node_of o) null) at.found in
    subst (Knows (referred blocks) Changesets) (sym is) (knows-own (at.it).changeset (changesets_in blocks) (changeset-in blocks at.it at.among))

pub knows-partners : (blocks : List Block) (ids : List Id) → Each (λ id. IsTrue (is_some (block_of_id blocks id))) ids → Each (Knows (referred blocks) Changesets) (map (hg_partner blocks) ids)
knows-partners blocks [] paired = tt
knows-partners blocks (id ∷ ids) paired = (knows-partner blocks id paired.0, knows-partners blocks ids paired.1)

pub paired-first : (blocks : List Block) (p q : Id) → Each (λ node. IsTrue (is_some (block_of_node blocks node))) (not_null (p ∷ q ∷ []))
    → (is_known_parent (referred blocks) Changesets p ≡ true) × (is_known_parent (referred blocks) Changesets q ≡ true)
paired-first blocks p q paired = by (is_null p) refl (is_null q) refl
  where
    P : Id → Type 0
    P node = IsTrue (is_some (block_of_node blocks node))

    by : (a : Bool) → is_null p ≡ a → (b : Bool) → is_null q ≡ b → (is_known_parent (referred blocks) Changesets p ≡ true) × (is_known_parent (referred blocks) Changesets q ≡ true)
    by true e true f = (null-parent (referred blocks) Changesets p e, null-parent (referred blocks) Changesets q f)
    by true e false f =
        let h : Each P (q ∷ []) = rw (e, f) at paired in
        (null-parent (referred blocks) Changesets p e, known-parent (referred blocks) Changesets q (knows-block blocks q h.0))
    by false e true f =
        let h : Each P (p ∷ []) = rw (e, f) at paired in
        (known-parent (referred blocks) Changesets p (knows-block blocks p h.0), null-parent (referred blocks) Changesets q f)
    by false e false f =
        let h : Each P (p ∷ q ∷ []) = rw (e, f) at paired in
        (known-parent (referred blocks) Changesets p (knows-block blocks p h.0), known-parent (referred blocks) Changesets q (knows-block blocks q h.1.0))
