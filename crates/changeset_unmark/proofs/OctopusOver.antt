-- The commit of three parents and more that the marks of a changeset name, over the partners to which the links lead.
use Rattle.std.proofs.Common.{◌≡◌, ◌≢◌, ◌≤◌, ℕ, false, List, [], ◌∷◌, ◌++◌, length, map, Some, refl, sym, ap, subst, ◌∙◌, arith, bytes_eq}
use Rattle.std.specs.Prelude.{not, filter, slice_get, if◌then◌else◌}
use Rattle.std.specs.List.{list_all}
use Rattle.std.proofs.lemmas.Bool.{false_from_ne_true}
use Rattle.std.proofs.lemmas.List.{length-map}
use Rattle.text_model.specs.Lists.{Each, first_of_each, in_order}
use Rattle.text_model.specs.Text.{is_below}
use Rattle.text_model.specs.Id.{Id, null, is_null, object_id, commit}
use Rattle.text_model.proofs.Options.{none_some, some_is}
use Rattle.git_model.specs.Commit.{commit_text}
use Rattle.hg_store.specs.Known.{AreAdded}
use Rattle.view_model.specs.View.{Row, TreeRow, ChangesetView, CommitView, changeset_node, commit_id, files_among, rows_text, paths_of, SameRows}
use Rattle.view_model.specs.Held.{IsChangesetHeld}
use Rattle.pair_model.specs.Block.{Block, changesets_in, view_or_none, hg_partner, Parents}
use Rattle.pair_model.specs.MarkList.{ChangesetMarks}
use Rattle.pair_model.specs.Octopus.{links_by, links_over, links_of, partners_of_parents, parents_of_commit, first_of, second_of, last_id}
use Rattle.pair_model.specs.Rule.{flag_of_mode, revision_at, ruled_revision, ruled_rows, ruled_manifest, ruled_files, over_pair, one_or_two, entry_at, same_entry, tree_row_of}
use Rattle.partner_model.specs.Partner.{UnmarksChangeset, IsHeldView, IsKnownAs}
use Rattle.pair_known.specs.declared.known.Known.{Known}
use Rattle.pair_known.specs.declared.hg_draft.HgDraft.{HgDraft}
use Rattle.file_rule.specs.Parents.{IsParentView}
use Rattle.link_rule.specs.Links.{links_along}
use Rattle.unmark_law.proofs.Tables.{HasNode, HasId, hg_has, each_map, eq_true}
use Rattle.unmark_law.proofs.ChangesetOne.{there}
use Rattle.plain_rule.proofs.BlockLemmas.{parent-view}
use Rattle.changeset_unmark.specs.Over.{IsLike, IsNamedOver, IsOctopusOver}
use Rattle.changeset_unmark.specs.Named.{IsNamed}
use Rattle.changeset_unmark.specs.Links.{IsKnownLink, AreLinksThere}
use Rattle.changeset_unmark.proofs.Built.{p_over}
use Rattle.changeset_unmark.proofs.LinkWalk.{last-rest}
use Rattle.changeset_unmark.proofs.LinksHeld.{IsLinkLike, all-like, all-held, held-known, known-links, first-like, second-same, last-in, in-last}
use Rattle.commit_rule.proofs.Tables.{table}

-- ---- parents that the rules see alike

pub record AreAlike (ps qs : Parents) : Type 0 where
  pub p : ps.p ≡ qs.p
  pub q : ps.q ≡ qs.q
  pub first : IsLike qs.first ps.first
  pub second : ps.second ≡ qs.second

rows-alike : (ps qs : Parents) → AreAlike ps qs → (rows : List TreeRow) → ruled_rows ps rows ≡ ruled_rows qs rows
rows-alike ps qs a rows =
    λ i. map (λ (row : TreeRow). record { path = row.path; flag = flag_of_mode row.mode; revision = ruled_revision (revision_at ((a.first).rows i) row.path) (revision_at (a.second i).rows row.path) row }) (files_among rows)

manifest-alike : (ps qs : Parents) → AreAlike ps qs → (rows : List Row) → ruled_manifest ps rows ≡ ruled_manifest qs rows
unfolding ruled_manifest
manifest-alike ps qs a rows =
    λ i. if bytes_eq (rows_text rows) (rows_text ((a.first).rows i)) then (a.first).manifest i else over_pair (one_or_two ((a.first).node i) ((a.second i).fields).manifest)

files-alike : (ps qs : Parents) → AreAlike ps qs → (rows : List Row) → ruled_files ps rows ≡ ruled_files qs rows
unfolding ruled_files
files-alike ps qs a rows =
    λ i. filter (λ path. list_all (λ other. not (same_entry (entry_at rows path) (entry_at other path)))
    (if is_null (a.p i) then [] else if is_null (a.q i) then (a.first).rows i ∷ [] else (a.first).rows i ∷ (a.second i).rows ∷ []))
    (in_order is_below (first_of_each bytes_eq (paths_of rows ++ paths_of ((a.first).rows i) ++ paths_of (a.second i).rows)))

back-alike : (ps qs : Parents) → AreAlike ps qs → AreAlike qs ps
back-alike ps qs a = record {
  p = sym a.p;
  q = sym a.q;
  first = record { node = sym (a.first).node; manifest = sym (a.first).manifest; rows = sym (a.first).rows };
  second = sym a.second;
}

pub named-alike : (blocks : List Block) (ids : List Id) (ps qs : Parents) (v : ChangesetView) (m : ChangesetMarks) → AreAlike ps qs → IsNamed blocks ids ps v m → IsNamed blocks ids qs v m
named-alike blocks ids ps qs v m a named =
    let lists = named.lists in
    record {
      head = named.head;
      residue = named.residue;
      lists = record {
        rows = subst (λ (xs : List Row). SameRows xs v.rows) (rows-alike ps qs a (map tree_row_of v.rows)) lists.rows;
        manifest = lists.manifest ∙ manifest-alike ps qs a v.rows;
        files = lists.files ∙ files-alike ps qs a v.rows;
      };
    }

pub named-back : (blocks : List Block) (ids : List Id) (ps qs : Parents) (v : ChangesetView) (m : ChangesetMarks) → AreAlike ps qs → IsNamed blocks ids qs v m → IsNamed blocks ids ps v m
named-back blocks ids ps qs v m a = named-alike blocks ids qs ps v m (back-alike ps qs a)

-- ---- the nodes

each-first : (P : Id → Type 0) (xs : List Id) → Each P xs → 1 ≤ length xs → P (first_of xs)
each-first P [] h some = absurd (omega arith)
each-first P (x ∷ xs) h some = h.0

pub each-last : (P : Id → Type 0) (xs : List Id) → Each P xs → 1 ≤ length xs → P (last_id xs)
each-last P [] h some = absurd (omega arith)
each-last P (x ∷ []) h some = h.0
each-last P (x ∷ y ∷ xs) h some = each-last P (y ∷ xs) h.1 (omega arith)

pub second-last : (xs : List Id) → 2 ≤ length xs → second_of xs ≡ last_id xs
second-last [] some = absurd (omega arith)
second-last (x ∷ xs) some = last-rest x xs (omega arith)

first-at : (xs : List Id) (x : Id) → slice_get xs 0 ≡ Some x → x ≡ first_of xs
first-at [] x e = absurd (none_some e)
first-at (y ∷ xs) x e = sym (some_is e)

not-null : (x : Id) → x ≢ null → is_null x ≡ false
not-null x n = false_from_ne_true (is_null x) (λ e. n (eq_true x null e))

along : (blocks : List Block) (id : Id) (n : ℕ) (nodes : List Id) → links_by blocks id n nodes ≡ links_along id (view_or_none (changesets_in blocks) (first_of nodes)) n nodes
along blocks id n [] = refl
along blocks id n (x ∷ nodes) = refl

like-along : (id : Id) (base : ChangesetView) (n : ℕ) (nodes : List Id) → Each (IsLinkLike base) (links_along id base n nodes)
like-along id base n [] = tt
like-along id base n (x ∷ nodes) = all-like id base n 1 x nodes

links-some : (id : Id) (base : ChangesetView) (n : ℕ) (nodes : List Id) → 3 ≤ length nodes → 1 ≤ length (links_along id base n nodes)
unfolding links_over
links-some id base n [] h = absurd (omega arith)
links-some id base n (x ∷ []) h = absurd (omega arith)
links-some id base n (x ∷ y ∷ []) h = absurd (omega arith)
links-some id base n (x ∷ y ∷ z ∷ nodes) h = omega arith

-- ---- the whole

module _ (k : Known) (added : AreAdded k.hg) (blocks : List Block) (d : HgDraft) (v : ChangesetView) (ids nodes : List Id) (over : IsOctopusOver k blocks d v ids nodes) where
  count : length nodes ≡ length ids
  count = ap length over.nodes_are ∙ length-map ids (hg_partner blocks)

  have : Each (HasNode blocks) nodes
  have = subst (Each (HasNode blocks)) (sym over.nodes_are) (each_map (hg_partner blocks) (HasId blocks) (HasNode blocks) (hg_has blocks) ids over.paired)

  some-nodes : Each (λ x. x ≢ null) nodes
  some-nodes = subst (Each (λ x. x ≢ null)) (sym over.nodes_are) (there blocks (table k blocks over.inside.history) ids over.paired)

  abbrev pub base : ChangesetView
  base = view_or_none (changesets_in blocks) (first_of nodes)

  first-view : IsParentView k.hg (first_of nodes) (view_or_none (changesets_in blocks) (first_of nodes))
  first-view = parent-view k.hg added blocks over.inside.history.held.changesets (first_of nodes) (λ _. each-first (HasNode blocks) nodes have (omega (arith, count, over.least)))

  first-some : is_null (first_of nodes) ≡ false
  first-some = not-null (first_of nodes) (each-first (λ x. x ≢ null) nodes some-nodes (omega (arith, count, over.least)))

  base-held : IsChangesetHeld k.hg (first_of nodes) (view_or_none (changesets_in blocks) (first_of nodes))
  base-held = first-view.held first-some

  second-view : IsParentView k.hg v.q (view_or_none (changesets_in blocks) v.q)
  second-view =
      parent-view k.hg added blocks over.inside.history.held.changesets v.q
      (λ _. subst (HasNode blocks) (sym over.second) (each-last (HasNode blocks) nodes have (omega (arith, count, over.least))))

  second-some : is_null v.q ≡ false
  second-some = ap is_null over.second ∙ not-null (last_id nodes) (each-last (λ x. x ≢ null) nodes some-nodes (omega (arith, count, over.least)))

  -- the parents of the changeset, with the files of the first partner
  abbrev pub own : Parents
  own = record { p = v.p; q = v.q; first = view_or_none (changesets_in blocks) (first_of nodes); second = view_or_none (changesets_in blocks) v.q }

  pub named-over : (node : Id) → slice_get nodes 0 ≡ Some node → IsNamedOver k blocks d v ids node own
  named-over node at =
      let first = first-at nodes node at in
      record {
        inside = over.inside;
        paired = over.paired;
        distinct = over.distinct;
        few = over.most;
        node_is = first ∙ ap first_of over.nodes_are;
        base = view_or_none (changesets_in blocks) (first_of nodes);
        at_first = subst (λ (x : Id). IsParentView k.hg x (view_or_none (changesets_in blocks) (first_of nodes))) (sym first) first-view;
        at_second = second-view;
        like = record { node = refl; manifest = refl; rows = refl };
        null_first = ap is_null first ∙ first-some ∙ sym over.there;
        parents = (refl, refl);
      }

  pub first-at-node : (node : Id) → slice_get nodes 0 ≡ Some node → IsParentView k.hg node (view_or_none (changesets_in blocks) (first_of nodes))
  first-at-node node at = subst (λ (x : Id). IsParentView k.hg x (view_or_none (changesets_in blocks) (first_of nodes))) (sym (first-at nodes node at)) first-view

  module _ (c : CommitView) (parents : (c.value).parents ≡ ids) where
    partners : partners_of_parents blocks c ≡ nodes
    partners = ap (map (hg_partner blocks)) parents ∙ sym over.nodes_are

    pub links-are : links_of blocks c ≡ links_along (object_id commit (commit_text c.value)) (view_or_none (changesets_in blocks) (first_of nodes)) (length nodes) nodes
    unfolding links_of commit_id
    links-are =
        (λ i. links_by blocks (object_id commit (commit_text c.value)) ((ap length parents ∙ sym count) i) (partners i))
        ∙ along blocks (object_id commit (commit_text c.value)) (length nodes) nodes

    like : Each (IsLinkLike (view_or_none (changesets_in blocks) (first_of nodes))) (links_of blocks c)
    like = subst (Each (IsLinkLike (view_or_none (changesets_in blocks) (first_of nodes)))) (sym links-are) (like-along (object_id commit (commit_text c.value)) (view_or_none (changesets_in blocks) (first_of nodes)) (length nodes) nodes)

    links-held : Each (IsKnownLink k.hg) (links_of blocks c) → Each (λ l. IsChangesetHeld k.hg (changeset_node l) l) (links_of blocks c)
    links-held known = all-held k.hg added (view_or_none (changesets_in blocks) (first_of nodes)) (first_of nodes) base-held (links_of blocks c) like known

    pub walked : AreLinksThere k.hg v.p (links_of blocks c) → Each (IsKnownAs (IsHeldView k.hg)) (links_of blocks c)
    walked h = held-known k.hg added (view_or_none (changesets_in blocks) (first_of nodes)) (first_of nodes) base-held (links_of blocks c) (links-held h.known)

    pub alike : AreLinksThere k.hg v.p (links_of blocks c) → AreAlike (parents_of_commit blocks c) own
    unfolding parents_of_commit
    alike h =
        let last = last-in (first_of (partners_of_parents blocks c)) (links_of blocks c) v.p h.last in
        let second : second_of (partners_of_parents blocks c) ≡ v.q = ap second_of partners ∙ second-last nodes (omega (arith, count, over.least)) ∙ sym over.second in
        let first : IsLike (view_or_none (changesets_in blocks) (first_of nodes)) (view_or_none (links_of blocks c ++ changesets_in blocks) v.p) =
        first-like (view_or_none (changesets_in blocks) (first_of nodes)) (links_of blocks c) (changesets_in blocks) v.p last.1.0 like last.1.1 last.1.2 in
        let same : view_or_none (links_of blocks c ++ changesets_in blocks) v.q ≡ view_or_none (changesets_in blocks) v.q =
        second-same k.hg added (links_of blocks c) (changesets_in blocks) v.q (links-held h.known) (second-view.held second-some) in
        record {
          p = last.0;
          q = second;
          first = subst (λ (x : Id). IsLike (view_or_none (changesets_in blocks) (first_of nodes)) (view_or_none (links_of blocks c ++ changesets_in blocks) x)) (sym last.0) first;
          second = ap (view_or_none (links_of blocks c ++ changesets_in blocks)) second ∙ same;
        }

    -- the links of an unmarking are known, and the last is the first parent
    pub unmarked : UnmarksChangeset blocks (IsHeldView k.hg) v c → AreLinksThere k.hg v.p (links_of blocks c)
    unfolding parents_of_commit
    unmarked u =
        let known = known-links k.hg added (view_or_none (changesets_in blocks) (first_of nodes)) (first_of nodes) base-held (links_of blocks c) u.walked in
        let some : 1 ≤ length (links_of blocks c) = subst (λ (ls : List ChangesetView). 1 ≤ length ls) (sym links-are) (links-some (object_id commit (commit_text c.value)) (view_or_none (changesets_in blocks) (first_of nodes)) (length nodes) nodes (omega (arith, count, over.least))) in
        let first : last_id (first_of (partners_of_parents blocks c) ∷ map changeset_node (links_of blocks c)) ≡ v.p = sym (p_over blocks c) ∙ (u.marked).p in
        record { known = known; last = in-last (first_of (partners_of_parents blocks c)) (links_of blocks c) some ∙ ap Some first }
