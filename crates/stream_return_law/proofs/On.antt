-- Where the bodies of a commit and of earlier files are objects, each id with one content, the commit is a partner of its partner, with all bodies.
use Rattle.std.proofs.Common.{◌≡◌, ℕ, zero, suc, ◌<◌, ◌%◌, false, List, [], ◌∷◌, ◌++◌, map, refl, sym, ap, subst, ◌∙◌, inl, inr, ◌⊎◌, arith}
use Rattle.std.specs.List.{AllZip, list_any}
use Rattle.text_model.specs.Lists.{Each, In}
use Rattle.text_model.specs.Text.{Bytes}
use Rattle.text_model.specs.Id.{Id, blob}
use Rattle.text_model.specs.Path.{lies_below}
use Rattle.text_model.proofs.EachLemmas.{Each-append}
use Rattle.text_model.proofs.Elements.{in_map, none_in, none_all}
use Rattle.git_model.specs.Object.{Object, object_of}
use Rattle.git_model.specs.Tree.{is_blob_mode}
use Rattle.view_model.specs.View.{Row, TreeRow, ChangesetView, CommitView, IsCommitView, SameChangeset, files_among, tree_paths, paths_of, has_clash, HaveSameBodies, HasBodiesOf, changeset_node}
use Rattle.pair_model.specs.Block.{Block, changesets_in, Parents, parents_among}
use Rattle.pair_model.specs.Rule.{ruled_row}
use Rattle.pair_model.specs.Octopus.{links_of, partners_of_parents, last_id, first_of, second_of}
use Rattle.partner_model.specs.Mark.{mark_changeset}
use Rattle.partner_model.specs.Partner.{Member, OfHg, OfGit, UnmarksChangeset, HasDepth, IsPartner, IsKnownAs, AreCommitParentsPaired}
use Rattle.partner_model.specs.Given.{IsChangesetFor, IsTooDeep, depth_limit}
use Rattle.partner_model.specs.Clash.{body_object}
use Rattle.partner_model.specs.Table.{IsTable, AreApart}
use Rattle.unmark_law.proofs.Same.{same_changeset}
use Rattle.unmark_law.proofs.ChangesetOne.{IsFileRow, file_rows, rows_are}
use Rattle.unmark_law.proofs.TreeRows.{IsFileOf, files_marked}
use Rattle.dump_law.proofs.Elements.{of-map, of-filter}
use Rattle.depth_law.proofs.Falls.{IsBare, plain_is_bare}
use Rattle.depth_law.proofs.Depths.{bare_or_not, unmarking_one}
use Rattle.depth_law.proofs.PlainChangeset.{changeset_is_plain}
use Rattle.partner_law.proofs.Given.{row_blob}
use Rattle.partner_law.proofs.Choices.{depth_is_below}
use Rattle.partner_law.proofs.Returns.{changeset_returns, unmarked_commit_returns}
use Rattle.frame_law.proofs.Bodies.{AreOne, HasBlob, IsBlobIn, same_content, ruled_blobs, unmarked_blobs}
use Rattle.frame_law.proofs.Rows.{links_have}
use Rattle.stream_return_law.proofs.Way.{over_is, low}

-- ---- paths

paths_same : (hs : List Row) (cs : List TreeRow) → HaveSameBodies hs cs → paths_of hs ≡ tree_paths cs
paths_same [] [] b = refl
paths_same [] (c ∷ cs) b = absurd b
paths_same (h ∷ hs) [] b = absurd b
paths_same (h ∷ hs) (c ∷ cs) b =
    let rest = paths_same hs cs b.2 in
    λ i. b.0 i ∷ rest i

-- the files of a commit whose paths don't clash have none that do
fewer_clash : (rows : List TreeRow) → has_clash (tree_paths rows) ≡ false → has_clash (tree_paths (files_among rows)) ≡ false
fewer_clash rows none =
    none_all (λ path. list_any (lies_below path) (tree_paths (files_among rows))) (tree_paths (files_among rows)) (λ p i. none_all (lies_below p) (tree_paths (files_among rows)) (λ q j.
    none_in (lies_below p) (tree_paths rows) q (none_in (λ path. list_any (lies_below path) (tree_paths rows)) (tree_paths rows) p none (there p i)) (there q j)))
  where
    there : (p : Bytes) → In p (tree_paths (files_among rows)) → In p (tree_paths rows)
    there p i = let r = of-map (λ (row : TreeRow). row.path) p (files_among rows) i in subst (λ (x : Bytes). In x (tree_paths rows)) (sym r.2) (in_map (λ (row : TreeRow). row.path) r.0 rows (of-filter (λ (row : TreeRow). is_blob_mode row.mode) r.0 rows r.1))

pub no_clash : (h : ChangesetView) (c : CommitView) → HasBodiesOf h.rows c.rows → IsCommitView c → has_clash (paths_of h.rows) ≡ false
no_clash h c b view = ap has_clash (paths_same h.rows (files_among c.rows) b) ∙ fewer_clash c.rows view.no_clash

-- ---- files as the rule or a mark gives them

ruled_files : (ps : Parents) (cs : List TreeRow) → Each IsFileRow cs → AllZip IsFileOf (map (ruled_row ps) cs) cs
ruled_files ps [] f = tt
ruled_files ps (c ∷ cs) f = (record { path = refl; flag = refl; id = row_blob ps c f.0 }, ruled_files ps cs f.1)

module _ (all : List Object) (one : AreOne all) where
  -- files of the same blob ids have the same bodies
  same_bodies : (hs : List Row) (cs : List TreeRow) → AllZip IsFileOf hs cs → Each IsFileRow cs → Each (HasBlob all) hs → Each (IsBlobIn all) cs → HaveSameBodies hs cs
  same_bodies [] [] z f e b = tt
  same_bodies [] (c ∷ cs) z f e b = absurd z
  same_bodies (h ∷ hs) [] z f e b = absurd z
  same_bodies (h ∷ hs) (c ∷ cs) z f e b =
      ((z.0).path, same_content (body_object h) (object_of blob c.content) (one (body_object h) (object_of blob c.content) e.0 b.0) ((z.0).id ∙ (f.0).1), same_bodies hs cs z.1 f.1 e.1 b.1)

  module _ (blocks : List Block) (K : ChangesetView → Type 0) (t : IsTable blocks) (a : AreApart K) (old : Each (λ v. Each (HasBlob all) v.rows) (changesets_in blocks)) (h : ChangesetView) (c : CommitView)
      (view : IsCommitView c) (blobs : Each (IsBlobIn all) (files_among c.rows)) (walked : Each (IsKnownAs K) (links_of blocks c)) where
    files : Each IsFileRow (files_among c.rows)
    files = file_rows c.rows view.rows

    abbrev p : Id
    p = last_id (first_of (partners_of_parents blocks c) ∷ map changeset_node (links_of blocks c))

    abbrev q : Id
    q = second_of (partners_of_parents blocks c)

    abbrev views : List ChangesetView
    views = links_of blocks c ++ changesets_in blocks

    all_old : Each (λ v. Each (HasBlob all) v.rows) views
    all_old = Each-append (λ (v : ChangesetView). Each (HasBlob all) v.rows) (links_of blocks c) (changesets_in blocks) (links_have (Each (HasBlob all)) tt blocks old c) old

    marked_bodies : HasBodiesOf (mark_changeset blocks c).rows c.rows
    marked_bodies =
        let is : (mark_changeset blocks c).rows ≡ map (ruled_row (parents_among views p q)) (files_among c.rows) = rows_are blocks c ∙ ap (λ (x : Parents). map (ruled_row x) (files_among c.rows)) (over_is blocks c) in
        subst (λ (rows : List Row). HasBodiesOf rows c.rows) (sym is)
        (same_bodies (map (ruled_row (parents_among views p q)) (files_among c.rows)) (files_among c.rows) (ruled_files (parents_among views p q) (files_among c.rows) files) files (ruled_blobs all one views all_old p q (files_among c.rows) blobs) blobs)

    pub bodies_on : IsChangesetFor blocks K c h → HasBodiesOf h.rows c.rows
    bodies_on (inl x) = subst (λ (k : ChangesetView). HasBodiesOf k.rows c.rows) (sym x.2) marked_bodies
    bodies_on (inr x) = same_bodies h.rows (files_among c.rows) (files_marked blocks h c ((x.1).view).in_order (x.1).marked) files (unmarked_blobs all one blocks K old h h.rows (files_among c.rows) (x.1).bodies blobs) blobs

    unmarks : (x : h ≡ mark_changeset blocks c) → AreCommitParentsPaired blocks c → UnmarksChangeset blocks K h c
    unmarks x paired = record { view = view; paired = paired; marked = subst (λ (k : ChangesetView). SameChangeset (mark_changeset blocks c) k) (sym x) (same_changeset (mark_changeset blocks c)); walked = walked; bodies = subst (λ (k : ChangesetView). HasBodiesOf k.rows c.rows) (sym x) marked_bodies }

    pub partner_on : IsChangesetFor blocks K c h → IsPartner blocks K (OfHg h) (OfGit c)
    partner_on (inl x) = changeset_returns blocks K t h c (unmarks x.2 x.1) x.0
    partner_on (inr x) = unmarked_commit_returns blocks K t a h c x.1 x.0

    -- ---- how deep

    pub not_deep_on : IsChangesetFor blocks K c h → ¬ (IsTooDeep blocks K (OfGit c)) → ¬ (IsTooDeep blocks K (OfHg h))
    unfolding HasDepth
    not_deep_on (inl x) not = by (bare_or_not (OfHg h))
      where
        u : UnmarksChangeset blocks K h c
        u = unmarks x.2 x.1

        by : IsBare (OfHg h) ⊎ (¬ (IsBare (OfHg h))) → ¬ (IsTooDeep blocks K (OfHg h))
        by (inl b) = depth_is_below blocks K t a (OfHg h) 0 (inl (changeset_is_plain blocks K t h c b.0 b.1 u b.2)) (omega arith)
        by (inr n) =
            let less = low blocks K (x.0).0 (OfGit c) (x.0).2 not in
            depth_is_below blocks K t a (OfHg h) (suc (x.0).0) ((λ p. n (plain_is_bare blocks (OfHg h) p)), OfGit c, u, (x.0).2) (omega (arith, less, (x.0).1))
    not_deep_on (inr x) not = by (x.0).0 (x.0).1 (x.0).2 (low blocks K (x.0).0 (OfGit c) (x.0).2 not)
      where
        by : (n : ℕ) → n % 2 ≡ 1 → HasDepth blocks K n (OfGit c) → n < depth_limit → ¬ (IsTooDeep blocks K (OfHg h))
        by zero e d less = absurd (omega arith)
        by (suc n) e d less =
            let same = unmarking_one blocks K t a (OfGit c) d.1 (OfHg h) d.2 x.1 in
            depth_is_below blocks K t a (OfHg h) n (subst (λ (z : Member). HasDepth blocks K n z) same d.3) (omega (arith, less))
