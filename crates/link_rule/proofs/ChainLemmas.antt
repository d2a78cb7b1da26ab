-- The links of a commit, by the partners of its parents.
use Rattle.std.proofs.Common.{◌≡◌, ◌+◌, ◌<◌, ℕ, zero, suc, List, [], ◌∷◌, length, map, Option, Some, None, refl, sym, ap, subst, ◌∙◌, arith}
use Rattle.std.specs.Prelude.{is_some, option_map, unwrap_or, slice_get, IsTrue}
use Rattle.std.specs.List.{AllZip}
use Rattle.text_model.specs.Lists.{Each}
use Rattle.text_model.specs.Id.{Id, IsId, null, object_id, commit}
use Rattle.text_model.proofs.Digests.{IsId-node_id}
use Rattle.text_model.proofs.HexLemmas.{IsId-null}
use Rattle.text_model.proofs.Options.{none_some, some_is}
use Rattle.git_model.specs.Commit.{Commit, commit_text}
use Rattle.view_model.specs.View.{ChangesetView, CommitView, changeset_node, commit_id}
use Rattle.view_model.specs.Held.{IsChangesetHeld}
use Rattle.pair_model.specs.Block.{Block, node_of, block_of_id, hg_partner, changesets_in, view_or_none}
use Rattle.pair_model.specs.Octopus.{link_view, links_over, links_by, links_of, partners_of_parents, first_of}
use Rattle.pair_known.specs.Partners.{hg_at}
use Rattle.pair_known.specs.Over.{IsCommitOver}
use Rattle.pair_known.specs.declared.known.Known.{Known}
use Rattle.pair_known.specs.declared.git_draft.GitDraft.{GitDraft}
use Rattle.file_rule.specs.Parents.{IsParentView}
use Rattle.link_rule.specs.Links.{IsLinkOf, IsLinkOver, links_along}
use Rattle.link_rule.specs.declared.link.Link.{Link}
use Rattle.link_rule.proofs.PartnerViews.{partner-held, first-parent, partners-are}

by-along : (blocks : List Block) (id : Id) (n : ℕ) (xs : List Id) → links_by blocks id n xs ≡ links_along id (view_or_none (changesets_in blocks) (first_of xs)) n xs
by-along blocks id n [] = refl
by-along blocks id n (x ∷ xs) = refl

links-few : (id : Id) (base : ChangesetView) (n : ℕ) (xs : List Id) → length xs < 3 → links_along id base n xs ≡ []
unfolding links_over
links-few id base n [] few = refl
links-few id base n (x ∷ []) few = refl
links-few id base n (x ∷ y ∷ []) few = refl
links-few id base n (x ∷ y ∷ z ∷ xs) few = absurd (omega (arith, few))

length-mapped : {X Y : Type 0} (f : X → Y) (xs : List X) → length (map f xs) ≡ length xs
length-mapped f [] = refl
length-mapped f (x ∷ xs) = grind (arith, length-mapped f xs)

pub IsId-changeset_node : (h : ChangesetView) → IsId (changeset_node h)
unfolding changeset_node
IsId-changeset_node h = IsId-node_id _ _ _

pub IsId-partner : (blocks : List Block) (id : Id) → IsId (hg_partner blocks id)
IsId-partner blocks id = by (block_of_id blocks id)
  where
    by : (o : Option Block) → IsId (unwrap_or (option_map node_of o) null)
    by None = IsId-null
    by (Some b) = IsId-changeset_node b.changeset

pub IsId-partners : (blocks : List Block) (ids : List Id) → Each IsId (map (hg_partner blocks) ids)
IsId-partners blocks [] = tt
IsId-partners blocks (id ∷ ids) = (IsId-partner blocks id, IsId-partners blocks ids)

over-each : (id : Id) (base : ChangesetView) (n k : ℕ) (before : Id) (xs : List Id) → IsId before → Each IsId xs → Each (IsLinkOver base) (links_over id base n k before xs)
unfolding links_over
over-each id base n k before [] b xs = tt
over-each id base n k before (x ∷ []) b xs = tt
over-each id base n k before (x ∷ y ∷ rest) b xs =
    let view = link_view id base n k before x in
    (record { id = id; number = k; count = n; p = before; q = x; are_ids = (b, xs.0); is = refl }, over-each id base n (k + 1) (changeset_node view) (y ∷ rest) (IsId-changeset_node view) xs.1)

along-each : (id : Id) (base : ChangesetView) (n : ℕ) (xs : List Id) → Each IsId xs → Each (IsLinkOver base) (links_along id base n xs)
along-each id base n [] are = tt
along-each id base n (x ∷ xs) are = over-each id base n 1 x xs are.0 are.1

-- the first link stands over the first id
pub first-link : (id : Id) (base : ChangesetView) (n : ℕ) (xs : List Id) (links : List Link) (l : Link) → AllZip IsLinkOf links (links_along id base n xs) → slice_get links 0 ≡ Some l → l.p ≡ first_of xs
unfolding links_over link_view
first-link id base n xs [] l is at = absurd (none_some at)
first-link id base n [] (a ∷ links) l is at = absurd is
first-link id base n (x ∷ []) (a ∷ links) l is at = absurd is
first-link id base n (x ∷ y ∷ []) (a ∷ links) l is at = absurd is
first-link id base n (x ∷ y ∷ z ∷ xs) (a ∷ links) l is at = ap (λ (b : Link). b.p) (sym (some_is at)) ∙ (is.0).parents.0

module _ (k : Known) (blocks : List Block) (d : GitDraft) (v : CommitView) (over : IsCommitOver k blocks d v) where
  abbrev pub nodes : List Id
  nodes = partners_of_parents blocks v

  -- the changeset whose files the links have
  abbrev pub base : ChangesetView
  base = view_or_none (changesets_in blocks) (first_of nodes)

  pub links-are : links_of blocks v ≡ links_along (commit_id v) base (length (v.value).parents) nodes
  unfolding links_of
  links-are = by-along blocks (commit_id v) (length (v.value).parents) nodes

  pub parents-are : (v.value).parents ≡ (d.commit).parents
  parents-are = ap (λ (x : Commit). x.parents) over.draft.value

  pub none : length (d.commit).parents < 3 → links_of blocks v ≡ []
  none few = links-are ∙ links-few (commit_id v) base (length (v.value).parents) nodes (omega (arith, few, length-mapped (hg_partner blocks) (v.value).parents, ap (length {A = Id}) parents-are))

  pub nodes-are : map (λ id. unwrap_or (hg_at k.partners id) null) (d.commit).parents ≡ nodes
  nodes-are = ap (map (λ id. unwrap_or (hg_at k.partners id) null)) (sym parents-are) ∙ partners-are k.partners blocks over.history.held.partners (v.value).parents

  pub overs : Each (IsLinkOver base) (links_of blocks v)
  overs = subst (Each (IsLinkOver base)) (sym links-are) (along-each (commit_id v) base (length (v.value).parents) nodes (IsId-partners blocks (v.value).parents))

  pub base-view : IsParentView k.hg (first_of nodes) base
  base-view = first-parent k blocks over.history over.history.added (v.value).parents over.parents

  pub base-held : 0 < length (d.commit).parents → IsChangesetHeld k.hg (first_of nodes) base
  base-held some = by (v.value).parents over.parents (omega (arith, some, ap (length {A = Id}) parents-are))
    where
      by : (ids : List Id) → Each (λ p. IsTrue (is_some (block_of_id blocks p))) ids → 0 < length ids
          → IsChangesetHeld k.hg (first_of (map (hg_partner blocks) ids)) (view_or_none (changesets_in blocks) (first_of (map (hg_partner blocks) ids)))
      by [] all some = absurd (omega (arith, some))
      by (id ∷ ids) all some = partner-held k blocks over.history over.history.added id all.0

  -- the links that were made over the partners are those of the commit
  pub chained : (ids : List Id) (id : Id) (n : ℕ) (manifest : Id) (links : List Link) → ids ≡ nodes → id ≡ object_id commit (commit_text d.commit) → n ≡ length (d.commit).parents → manifest ≡ (base.fields).manifest
      → ((b : ChangesetView) → (b.fields).manifest ≡ manifest → AllZip IsLinkOf links (links_along id b n ids)) → AllZip IsLinkOf links (links_of blocks v)
  unfolding commit_id
  chained ids id n manifest links ids-are id-is n-is manifest-is all =
      let id-of : id ≡ commit_id v = id-is ∙ ap (λ (x : Commit). object_id commit (commit_text x)) (sym over.draft.value) in
      let count : n ≡ length (v.value).parents = n-is ∙ ap (length {A = Id}) (sym parents-are) in
      subst (AllZip IsLinkOf links) ((λ i. links_along (id-of i) base (count i) (ids-are i)) ∙ sym links-are) (all base (sym manifest-is))

  pub at-first : (ids : List Id) (x : Id) → ids ≡ nodes → slice_get ids 0 ≡ Some x → x ≡ first_of nodes
  at-first ids x same at = by nodes (sym (ap (λ (l : List Id). slice_get l 0) same) ∙ at)
    where
      by : (l : List Id) → slice_get l 0 ≡ Some x → x ≡ first_of l
      by [] e = absurd (none_some e)
      by (y ∷ l) e = sym (some_is e)

  -- the parent whose manifest the links have
  pub base-at : (x : Id) → x ≡ first_of nodes → IsParentView k.hg x base
  base-at x is = subst (λ (y : Id). IsParentView k.hg y base) (sym is) base-view

  -- the first link stands over a changeset that is held
  pub first-held : (links : List Link) (l : Link) → AllZip IsLinkOf links (links_of blocks v) → slice_get links 0 ≡ Some l → IsChangesetHeld k.hg l.p base
  first-held links l is at =
      let along : AllZip IsLinkOf links (links_along (commit_id v) base (length (v.value).parents) nodes) = subst (AllZip IsLinkOf links) links-are is in
      let first : l.p ≡ first_of nodes = first-link (commit_id v) base (length (v.value).parents) nodes links l along at in
      subst (λ (x : Id). IsChangesetHeld k.hg x base) (sym first) (base-held (by (length (d.commit).parents) refl))
    where
      none-there : links_of blocks v ≡ [] → ⊥
      none-there e = by-links links is at e
        where
          by-links : (ls : List Link) → AllZip IsLinkOf ls (links_of blocks v) → slice_get ls 0 ≡ Some l → links_of blocks v ≡ [] → ⊥
          by-links [] are found e = none_some found
          by-links (x ∷ ls) are found e = subst (AllZip IsLinkOf (x ∷ ls)) e are

      by : (n : ℕ) → length (d.commit).parents ≡ n → 0 < length (d.commit).parents
      by zero e = absurd (none-there (none (omega (arith, e))))
      by (suc n) e = omega (arith, e)
