-- The parents of a block's changesets: those of the first are known, and each is the first parent of the next.
use Rattle.std.proofs.Common.{◌≡◌, ◌+◌, ◌≤◌, ℕ, Bool, true, false, true≢false, not, ◌||◌, ◌++◌, List, [], ◌∷◌, length, map, refl, sym, ap, subst, ◌∙◌, inl, inr, arith}
use Rattle.std.specs.Prelude.{bytes_eq}
use Rattle.std.specs.List.{list_any}
use Rattle.std.proofs.lemmas.Slice.Eq.{bytes_eq-Decides}
use Rattle.text_model.specs.Lists.{Each}
use Rattle.text_model.specs.Id.{Id, null, is_null}
use Rattle.text_model.proofs.TestLemmas.{both}
use Rattle.hg_model.specs.Revision.{Changesets, is_known_parent}
use Rattle.git_model.specs.Tree.{has_distinct}
use Rattle.view_model.specs.View.{ChangesetView, IsChangesetView, CommitView, changeset_node, commit_id}
use Rattle.view_model.specs.Held.{IsChangesetHeld}
use Rattle.pair_model.specs.Block.{Block, node_of, git_partner, hg_partner, changesets_in, view_or_none, not_null}
use Rattle.pair_model.specs.Rule.{rule_changeset}
use Rattle.pair_model.specs.Octopus.{link_view, links_over, links_by, links_of, partners_of_parents, parents_of_commit, first_of, second_of, last_id}
use Rattle.partner_model.specs.Given.{IsChangesetFor}
use Rattle.partner_model.specs.Mark.{mark_changeset}
use Rattle.unmark_law.proofs.Tables.{HasNode, HasId, hg_has, each_map}
use Rattle.depth_law.proofs.PlainCommit.{commit_few}
use Rattle.pair_known.specs.Partners.{ArePartners}
use Rattle.pair_known.specs.Blocks.{IsHistoryHeld}
use Rattle.pair_known.specs.Over.{IsCommitOver}
use Rattle.pair_known.specs.declared.known.Known.{Known}
use Rattle.pair_known.specs.declared.git_draft.GitDraft.{GitDraft}
use Rattle.pair_known.proofs.PartnerLemmas.{pairs_of, back-partner, block-there}
use Rattle.link_rule.proofs.PartnerViews.{changeset-in, view-found, found-held, partner-held, no-null}
use Rattle.changeset_rule.proofs.KnownParents.{node-known}
use Rattle.pair_state.specs.Push.{AreBehind, AreLinked, HasParents}

-- the changeset stands over the last of the links, and its second parent is the last partner
pub record StandsOn (links : List ChangesetView) (nodes : List Id) (h : ChangesetView) : Type 0 where
  pub p : h.p ≡ last_id (first_of nodes ∷ map changeset_node links)
  pub q : h.q ≡ second_of nodes

module _ (blocks : List Block) (id : Id) (base : ChangesetView) (n : ℕ) (h : ChangesetView) where
  -- each link is the first parent of the next
  pub behind : (k : ℕ) (before x : Id) (xs : List Id) → Each (HasNode blocks) (x ∷ xs) → h.p ≡ last_id (before ∷ map changeset_node (links_over id base n k before (x ∷ xs))) → h.q ≡ last_id (x ∷ xs)
      → AreBehind blocks before (links_over id base n k before (x ∷ xs) ++ h ∷ [])
  unfolding links_over link_view
  behind k before x [] all p q = (p, subst (HasNode blocks) (sym q) all.0, tt)
  behind k before x (y ∷ ys) all p q = (refl, all.0, behind (k + 1) (changeset_node (link_view id base n k before x)) y ys all.1 p q)

-- ---- the links and the changeset over a history

module _ (k : Known) (blocks : List Block) (history : IsHistoryHeld k blocks) where
  are : ArePartners (pairs_of blocks)
  are = subst ArePartners (history.held).partners history.partners

  -- the changeset of a block is known
  stands-known : (node : Id) → HasNode blocks node → is_known_parent k.hg Changesets node ≡ true
  stands-known node h =
      let b = block-there blocks node h in
      let w = view-found (changesets_in blocks) (b.0).changeset (changeset-in blocks b.0 b.2) in
      let held : IsChangesetHeld k.hg (node_of b.0) w.0 = found-held k.hg (changesets_in blocks) (node_of b.0) w.0 (history.held).changesets w.1 in
      subst (λ (x : Id). is_known_parent k.hg Changesets x ≡ true) b.3 (node-known k.hg history.added Changesets (node_of b.0) held.revision held.is_held)

  first-known : (nodes : List Id) → Each (HasNode blocks) nodes → is_known_parent k.hg Changesets (first_of nodes) ≡ true
  first-known [] all = refl
  first-known (x ∷ nodes) all = stands-known x all.0

  last-known : (nodes : List Id) → Each (HasNode blocks) nodes → is_known_parent k.hg Changesets (last_id nodes) ≡ true
  last-known [] all = refl
  last-known (x ∷ []) all = stands-known x all.0
  last-known (x ∷ y ∷ nodes) all = last-known (y ∷ nodes) all.1

  second-known : (nodes : List Id) → Each (HasNode blocks) nodes → is_known_parent k.hg Changesets (second_of nodes) ≡ true
  second-known [] all = refl
  second-known (x ∷ nodes) all = last-known nodes all.1

  -- a parent that is null or stands in a block is known
  either-known : (p q : Id) → Each (HasNode blocks) (not_null (p ∷ q ∷ [])) → (is_known_parent k.hg Changesets p ≡ true) × (is_known_parent k.hg Changesets q ≡ true)
  either-known p q all = by (is_null p) (is_null q) refl refl all
    where
      null-known : (x : Id) → is_null x ≡ true → is_known_parent k.hg Changesets x ≡ true
      null-known x e = rw e refl

      by : (s t : Bool) → is_null p ≡ s → is_null q ≡ t → Each (HasNode blocks) (not_null (p ∷ q ∷ [])) → (is_known_parent k.hg Changesets p ≡ true) × (is_known_parent k.hg Changesets q ≡ true)
      by true true e f all = (null-known p e, null-known q f)
      by true false e f all = let a = rw (e, f) at all in (null-known p e, stands-known q a.0)
      by false true e f all = let a = rw (e, f) at all in (stands-known p a.0, null-known q f)
      by false false e f all = let a = rw (e, f) at all in (stands-known p a.0, stands-known q a.1.0)

  -- ---- the first link

  not-null : (a : Id) → HasId blocks a → hg_partner blocks a ≡ null → ⊥
  not-null a h e = no-null k blocks history history.added _ (hg_partner blocks a) ((bytes_eq-Decides (hg_partner blocks a) null).1 e) (partner-held k blocks history history.added a h)

  one-parent : (a b : Id) → HasId blocks a → HasId blocks b → hg_partner blocks a ≡ hg_partner blocks b → a ≡ b
  one-parent a b h g e = sym (back-partner blocks are a h) ∙ ap (git_partner blocks) e ∙ back-partner blocks are b g

  link-parents : (id : Id) (base : ChangesetView) (n : ℕ) (a b : Id) → HasId blocks a → HasId blocks b → bytes_eq a b ≡ false → HasParents k.hg (link_view id base n 1 (hg_partner blocks a) (hg_partner blocks b))
  unfolding link_view
  link-parents id base n a b h g apart = record {
    p = stands-known (hg_partner blocks a) (hg_has blocks a h);
    q = stands-known (hg_partner blocks b) (hg_has blocks b g);
    first = λ e. absurd (not-null a h e);
    distinct = λ e. absurd (true≢false (sym ((bytes_eq-Decides a b).1 (one-parent a b h g e)) ∙ apart));
  }

  first-apart : (a b : Id) (ids : List Id) → has_distinct (a ∷ b ∷ ids) ≡ true → bytes_eq a b ≡ false
  first-apart a b ids d = by (bytes_eq a b) (list_any (bytes_eq a) ids) (both (not (bytes_eq a b || list_any (bytes_eq a) ids)) (has_distinct (b ∷ ids)) d).0
    where
      by : (s t : Bool) → not (s || t) ≡ true → s ≡ false
      by true t h = absurd (true≢false (sym h))
      by false t h = refl

  linked-by : (id : Id) (n : ℕ) (ids : List Id) (h : ChangesetView) → Each (HasId blocks) ids → has_distinct ids ≡ true → (links_by blocks id n (map (hg_partner blocks) ids) ≡ [] → HasParents k.hg h)
      → (3 ≤ length ids → StandsOn (links_by blocks id n (map (hg_partner blocks) ids)) (map (hg_partner blocks) ids) h) → AreLinked k.hg blocks (links_by blocks id n (map (hg_partner blocks) ids) ++ h ∷ [])
  unfolding links_over
  linked-by id n [] h all d few many = (few refl, tt)
  linked-by id n (a ∷ []) h all d few many = (few refl, tt)
  linked-by id n (a ∷ b ∷ []) h all d few many = (few refl, tt)
  linked-by id n (a ∷ b ∷ c ∷ ids) h all d few many =
      let base = view_or_none (changesets_in blocks) (hg_partner blocks a) in
      let on = many (omega arith) in (
        link-parents id base n a b all.0 all.1.0 (first-apart a b (c ∷ ids) d),
        behind blocks id base n h 2 (changeset_node (link_view id base n 1 (hg_partner blocks a) (hg_partner blocks b))) (hg_partner blocks c) (map (hg_partner blocks) ids)
            (each_map (hg_partner blocks) (HasId blocks) (HasNode blocks) (hg_has blocks) (c ∷ ids) all.1.1) on.p on.q,
      )

-- ---- the changeset of a commit

module _ (k : Known) (blocks : List Block) (d : GitDraft) (v : CommitView) (over : IsCommitOver k blocks d v) (Known : ChangesetView → Type 0) (h : ChangesetView) (partner : IsChangesetFor blocks Known v h)
    (strict : links_of blocks v ≡ [] → IsChangesetView h) where
  abbrev nodes : List Id
  nodes = partners_of_parents blocks v

  all-stand : Each (HasNode blocks) nodes
  all-stand = each_map (hg_partner blocks) (HasId blocks) (HasNode blocks) (hg_has blocks) (v.value).parents over.parents

  marked : h ≡ mark_changeset blocks v → StandsOn (links_of blocks v) nodes h
  unfolding mark_changeset rule_changeset parents_of_commit
  marked e = record { p = ap (λ (x : ChangesetView). x.p) e; q = ap (λ (x : ChangesetView). x.q) e }

  few-parents : links_of blocks v ≡ [] → HasParents k.hg h
  few-parents none =
      let view = strict none in
      let known : (is_known_parent k.hg Changesets h.p ≡ true) × (is_known_parent k.hg Changesets h.q ≡ true) = elim partner [
        | inl e ↦
            let on = marked e.2 in (
              ap (is_known_parent k.hg Changesets) (on.p ∙ ap (λ (ls : List ChangesetView). last_id (first_of nodes ∷ map changeset_node ls)) none) ∙ first-known k blocks over.history nodes all-stand,
              ap (is_known_parent k.hg Changesets) on.q ∙ second-known k blocks over.history nodes all-stand,
            )
        | inr o ↦ either-known k blocks over.history h.p h.q (o.1).paired
      ] in
      record { p = known.0; q = known.1; first = view.first; distinct = view.distinct }

  many-parents : 3 ≤ length (v.value).parents → StandsOn (links_of blocks v) nodes h
  many-parents many = elim partner [
    | inl e ↦ marked e.2
    | inr o ↦ absurd (omega (arith, many, commit_few blocks v h (o.1).marked))
  ]

  pub linked : AreLinked k.hg blocks (links_of blocks v ++ h ∷ [])
  unfolding links_of
  linked = linked-by k blocks over.history (commit_id v) (length (v.value).parents) (v.value).parents h over.parents (over.view).distinct few-parents many-parents
