-- The links of a block, its changeset and its files have parents that belong to earlier changesets.
use Rattle.std.proofs.Common.{◌≡◌, ◌+◌, ℕ, Bool, true, false, true≢false, not, ◌&&◌, ◌||◌, List, [], ◌∷◌, ◌++◌, map, length, Option, Some, None, refl, sym, ap, subst, ◌∙◌, inl, inr, append_assoc, append-nil}
use Rattle.std.specs.Prelude.{bytes_eq, unwrap_or}
use Rattle.std.specs.List.{list_any}
use Rattle.text_model.specs.Lists.{Each, In}
use Rattle.text_model.specs.Text.{Bytes}
use Rattle.text_model.specs.Id.{Id, null, is_null}
use Rattle.text_model.proofs.EachLemmas.{Each-append, Each-weaker}
use Rattle.text_model.proofs.Elements.{each_from, each_in, in_left, in_right, in_map}
use Rattle.text_model.proofs.Options.{or_parts}
use Rattle.text_model.proofs.TestLemmas.{both, bytes_eq-is}
use Rattle.git_store.proofs.Growth.{any-in}
use Rattle.hg_model.specs.Revision.{Group, Changesets, Manifests, FilesAt, Revision, is_known_parent}
use Rattle.view_model.specs.View.{Row, ManifestParents, NoManifest, Over, ChangesetView, CommitView, changeset_node, commit_id, file_node}
use Rattle.view_model.specs.Dump.{own_revision, manifest_revision, file_revision, revisions_of, revisions_in}
use Rattle.pair_model.specs.Block.{Block, changesets_in, view_at, view_or_none, no_changeset}
use Rattle.pair_model.specs.Octopus.{link_view, links_over, links_by, links_of, partners_of_parents, parents_of_commit, last_id, first_of, second_of}
use Rattle.pair_model.specs.Rule.{rule_changeset}
use Rattle.partner_model.specs.Mark.{mark_changeset}
use Rattle.partner_model.specs.Given.{has_file, is_late_file, has_late_file, is_late_manifest, has_late_manifest}
use Rattle.hg_dump_law.specs.Taken.{AreParentsEarlier}
use Rattle.next_law.proofs.Knows.{Knows, in-knows, knows-left, knows-right, known-parent, null-parent, parent-left, in-revisions}
use Rattle.next_law.proofs.LikeNew.{find-in}
use Rattle.next_law.proofs.Otherwise.{referred}
use Rattle.next_law.proofs.Parents.{IsInTime}

-- ---- what a changeset brings that has the files of another

-- its manifest, and its files
abbrev pub parts : ChangesetView → List Revision
parts h = manifest_revision h h.manifest ++ map (file_revision (changeset_node h)) h.rows

-- the manifest and the files that these name are known
pub record KnowsFiles (rs : List Revision) (h : ChangesetView) : Type 0 where
  pub manifest : (p q : Id) → h.manifest ≡ Over p q → Knows rs Manifests (h.fields).manifest
  pub files : Each (λ row. Knows rs (FilesAt row.path) (file_node row.revision)) h.rows

over-in : (h : ChangesetView) (m : ManifestParents) (p q : Id) → m ≡ Over p q → (r : Revision) × In r (manifest_revision h m) × (r.group ≡ Manifests) × (r.node ≡ (h.fields).manifest)
over-in h NoManifest p q e = absurd cc
over-in h (Over a b) p q e = (_, inl refl, refl, refl)

in-parts : (r : Revision) (h : ChangesetView) (hs : List ChangesetView) → In h hs → In r (parts h) → In r (revisions_in hs)
unfolding revisions_of
in-parts r h hs i j = in-revisions r h hs i (inr j)

pub knows-files : (h : ChangesetView) (hs : List ChangesetView) → In h hs → KnowsFiles (revisions_in hs) h
knows-files h hs i = record {
  manifest = λ p q e.
      let m = over-in h h.manifest p q e in
      subst (Knows (revisions_in hs) Manifests) m.3 (subst (λ (g : Group). Knows (revisions_in hs) g (m.0).node) m.2
      (in-knows m.0 (revisions_in hs) (in-parts m.0 h hs i (in_left m.0 (manifest_revision h h.manifest) (map (file_revision (changeset_node h)) h.rows) m.1))));
  files = each_from (λ (row : Row). Knows (revisions_in hs) (FilesAt row.path) (file_node row.revision)) h.rows
      (λ row j. in-knows (file_revision (changeset_node h) row) (revisions_in hs)
      (in-parts (file_revision (changeset_node h) row) h hs i
      (in_right (file_revision (changeset_node h) row) (manifest_revision h h.manifest) (map (file_revision (changeset_node h)) h.rows) (in_map (file_revision (changeset_node h)) row h.rows j))));
}

files-left : (xs ys : List Revision) (h : ChangesetView) → KnowsFiles xs h → KnowsFiles (xs ++ ys) h
files-left xs ys h k = record {
  manifest = λ p q e. knows-left xs ys Manifests (h.fields).manifest (k.manifest p q e);
  files = Each-weaker (λ row. Knows xs (FilesAt row.path) (file_node row.revision)) (λ row. Knows (xs ++ ys) (FilesAt row.path) (file_node row.revision)) (λ row l. knows-left xs ys (FilesAt row.path) (file_node row.revision) l) h.rows k.files;
}

none-files : (rs : List Revision) → KnowsFiles rs no_changeset
none-files rs = record { manifest = λ p q e. absurd cc; files = tt }

pub base-files : (hs : List ChangesetView) (node : Id) → KnowsFiles (revisions_in hs) (view_or_none hs node)
base-files hs node = by (view_at hs node) refl
  where
    by : (o : Option ChangesetView) → view_at hs node ≡ o → KnowsFiles (revisions_in hs) (unwrap_or o no_changeset)
    by None e = none-files (revisions_in hs)
    by (Some v) e = knows-files v hs (find-in (λ (v : ChangesetView). bytes_eq (changeset_node v) node) hs v e).0

known-manifest : (rs : List Revision) (h : ChangesetView) (m : ManifestParents) → ((p q : Id) → m ≡ Over p q → Knows rs Manifests (h.fields).manifest) → Each (IsInTime rs) (manifest_revision h m)
known-manifest rs h NoManifest k = tt
known-manifest rs h (Over p q) k = (inl (k p q refl), tt)

known-rows : (rs : List Revision) (link : Id) (rows : List Row) → Each (λ row. Knows rs (FilesAt row.path) (file_node row.revision)) rows → Each (IsInTime rs) (map (file_revision link) rows)
known-rows rs link [] k = tt
known-rows rs link (row ∷ rows) k = (inl k.0, known-rows rs link rows k.1)

-- a changeset whose parents are known, and its files
pub with-files : (rs : List Revision) (h : ChangesetView) → is_known_parent rs Changesets h.p ≡ true → is_known_parent rs Changesets h.q ≡ true → KnowsFiles rs h → Each (IsInTime rs) (revisions_of h)
unfolding revisions_of
with-files rs h p q k = (
  inr (p, q),
  Each-append (IsInTime rs) (manifest_revision h h.manifest) (map (file_revision (changeset_node h)) h.rows) (known-manifest rs h h.manifest k.manifest) (known-rows rs (changeset_node h) h.rows k.files),
)

-- ---- the links of a commit

own-last : (rs : List Revision) (h : ChangesetView) → Knows (rs ++ revisions_of h) Changesets (changeset_node h)
unfolding revisions_of
own-last rs h = knows-right rs (revisions_of h) Changesets (changeset_node h) (in-knows (own_revision h) (revisions_of h) (inl refl))

record AreLinksInTime (rs : List Revision) (before : Id) (links : List ChangesetView) : Type 0 where
  pub earlier : AreParentsEarlier rs links
  pub last : Knows (rs ++ revisions_in links) Changesets (last_id (before ∷ map changeset_node links))

module _ (id : Id) (base : ChangesetView) where
  over-files : (rs : List Revision) (n k : ℕ) (p q : Id) → KnowsFiles rs base → KnowsFiles rs (link_view id base n k p q)
  unfolding link_view
  over-files rs n k p q f = record { manifest = f.manifest; files = f.files }

  view-p : (n k : ℕ) (p q : Id) → (link_view id base n k p q).p ≡ p
  unfolding link_view
  view-p n k p q = refl

  view-q : (n k : ℕ) (p q : Id) → (link_view id base n k p q).q ≡ q
  unfolding link_view
  view-q n k p q = refl

  over-time : (rs : List Revision) (n k : ℕ) (before : Id) (xs : List Id) → KnowsFiles rs base → Knows rs Changesets before → Each (Knows rs Changesets) xs → AreLinksInTime rs before (links_over id base n k before xs)
  unfolding links_over
  over-time rs n k before [] files here all = record { earlier = tt; last = subst (λ (l : List Revision). Knows l Changesets before) (sym (append-nil rs)) here }
  over-time rs n k before (x ∷ []) files here all = record { earlier = tt; last = subst (λ (l : List Revision). Knows l Changesets before) (sym (append-nil rs)) here }
  over-time rs n k before (x ∷ y ∷ rest) files here all =
      let l = link_view id base n k before x in
      let after = rs ++ revisions_of l in
      let ls = links_over id base n (k + 1) (changeset_node l) (y ∷ rest) in
      let more = over-time after n (k + 1) (changeset_node l) (y ∷ rest) (files-left rs (revisions_of l) base files) (own-last rs l)
      (Each-weaker (Knows rs Changesets) (Knows after Changesets) (λ z h. knows-left rs (revisions_of l) Changesets z h) (y ∷ rest) all.1) in
      record {
        earlier = (
          with-files rs l (ap (is_known_parent rs Changesets) (view-p n k before x) ∙ known-parent rs Changesets before here)
              (ap (is_known_parent rs Changesets) (view-q n k before x) ∙ known-parent rs Changesets x all.0) (over-files rs n k before x files),
          more.earlier,
        );
        last = subst (λ (t : List Revision). Knows t Changesets (last_id (changeset_node l ∷ map changeset_node ls))) (append_assoc rs (revisions_of l) (revisions_in ls)) more.last;
      }

-- what is known behind the links of a commit, over what is known of the blocks
pub record HasLinksInTime (blocks : List Block) (c : CommitView) : Type 0 where
  pub earlier : AreParentsEarlier (referred blocks) (links_of blocks c)
  pub first : is_known_parent (referred blocks ++ revisions_in (links_of blocks c)) Changesets (last_id (first_of (partners_of_parents blocks c) ∷ map changeset_node (links_of blocks c))) ≡ true

pub links-time : (blocks : List Block) (c : CommitView) → Each (Knows (referred blocks) Changesets) (partners_of_parents blocks c) → HasLinksInTime blocks c
unfolding links_of
links-time blocks c all = by (partners_of_parents blocks c) refl all
  where
    links : List Id → List ChangesetView
    links xs = links_by blocks (commit_id c) (length (c.value).parents) xs

    by : (xs : List Id) → partners_of_parents blocks c ≡ xs → Each (Knows (referred blocks) Changesets) xs → HasLinksInTime blocks c
    by [] e k = record {
      earlier = subst (λ (ys : List Id). AreParentsEarlier (referred blocks) (links ys)) (sym e) tt;
      first = subst (λ (ys : List Id). is_known_parent (referred blocks ++ revisions_in (links ys)) Changesets (last_id (first_of ys ∷ map changeset_node (links ys))) ≡ true) (sym e)
          (null-parent (referred blocks ++ []) Changesets null refl);
    }
    by (x ∷ rest) e k =
        let base = view_or_none (changesets_in blocks) x in
        let t = over-time (commit_id c) base (referred blocks) (length (c.value).parents) 1 x rest (base-files (changesets_in blocks) x) k.0 k.1 in
        record {
          earlier = subst (λ (ys : List Id). AreParentsEarlier (referred blocks) (links ys)) (sym e) t.earlier;
          first = subst (λ (ys : List Id). is_known_parent (referred blocks ++ revisions_in (links ys)) Changesets (last_id (first_of ys ∷ map changeset_node (links ys))) ≡ true) (sym e)
              (known-parent (referred blocks ++ revisions_in (links (x ∷ rest))) Changesets (last_id (x ∷ map changeset_node (links (x ∷ rest)))) t.last);
        }

-- ---- the changeset

pub marked-first : (blocks : List Block) (c : CommitView) → (mark_changeset blocks c).p ≡ last_id (first_of (partners_of_parents blocks c) ∷ map changeset_node (links_of blocks c))
unfolding mark_changeset rule_changeset parents_of_commit
marked-first blocks c = refl

pub second-known : (rs : List Revision) (xs : List Id) → Each (Knows rs Changesets) xs → is_known_parent rs Changesets (second_of xs) ≡ true
second-known rs [] all = null-parent rs Changesets null refl
second-known rs (x ∷ rest) all = last rest all.1
  where
    last : (ys : List Id) → Each (Knows rs Changesets) ys → is_known_parent rs Changesets (last_id ys) ≡ true
    last [] k = null-parent rs Changesets null refl
    last (y ∷ []) k = known-parent rs Changesets y k.0
    last (y ∷ z ∷ ys) k = last (z ∷ ys) k.1

-- ---- parents that aren't late

-- where a changeset has no manifest, its manifest's id is null
abbrev pub HasNullManifest : ChangesetView → Type 0
HasNullManifest h = h.manifest ≡ NoManifest → (h.fields).manifest ≡ null

late-manifest : (hs : List ChangesetView) → Each HasNullManifest hs → (parent : Id) → is_null parent ≡ false → list_any (λ v. bytes_eq (v.fields).manifest parent) hs ≡ true → Knows (revisions_in hs) Manifests parent
late-manifest hs each parent some h =
    let at = any-in (λ (v : ChangesetView). bytes_eq (v.fields).manifest parent) hs h in
    let is : ((at.0).fields).manifest ≡ parent = bytes_eq-is ((at.0).fields).manifest parent at.2 in
    by at.0 at.1 is (at.0).manifest refl
  where
    by : (v : ChangesetView) → In v hs → (v.fields).manifest ≡ parent → (m : ManifestParents) → v.manifest ≡ m → Knows (revisions_in hs) Manifests parent
    by v i is NoManifest e = absurd (true≢false (sym (ap is_null (sym is ∙ each_in HasNullManifest hs v each i e)) ∙ some))
    by v i is (Over p q) e = subst (Knows (revisions_in hs) Manifests) is ((knows-files v hs i).manifest p q e)

not-late : (null there : Bool) → (not null && not there) ≡ false → null ≡ false → there ≡ true
not-late false true h e = refl
not-late false false h e = absurd (true≢false h)
not-late true there h e = absurd (true≢false e)

in-time-manifest : (blocks : List Block) → Each HasNullManifest (changesets_in blocks) → (parent : Id) → is_late_manifest blocks parent ≡ false → is_known_parent (referred blocks) Manifests parent ≡ true
in-time-manifest blocks each parent h = by (is_null parent) refl
  where
    there : Bool
    there = list_any (λ v. bytes_eq (v.fields).manifest parent) (changesets_in blocks)

    by : (t : Bool) → is_null parent ≡ t → is_known_parent (referred blocks) Manifests parent ≡ true
    by true e = null-parent (referred blocks) Manifests parent e
    by false e = known-parent (referred blocks) Manifests parent (late-manifest (changesets_in blocks) each parent e (not-late (is_null parent) there h e))

in-time-file : (blocks : List Block) (path : Bytes) (parent : Id) → is_late_file blocks path parent ≡ false → is_known_parent (referred blocks) (FilesAt path) parent ≡ true
in-time-file blocks path parent h = by (is_null parent) refl
  where
    by : (t : Bool) → is_null parent ≡ t → is_known_parent (referred blocks) (FilesAt path) parent ≡ true
    by true e = null-parent (referred blocks) (FilesAt path) parent e
    by false e =
        let at = any-in (λ (v : ChangesetView). list_any (λ row. bytes_eq row.path path && bytes_eq (file_node row.revision) parent) v.rows) (changesets_in blocks) (not-late (is_null parent) (has_file blocks path parent) h e) in
        let row = any-in (λ (row : Row). bytes_eq row.path path && bytes_eq (file_node row.revision) parent) (at.0).rows at.2 in
        let parts = both (bytes_eq (row.0).path path) (bytes_eq (file_node (row.0).revision) parent) row.2 in
        known-parent (referred blocks) (FilesAt path) parent
        (subst (Knows (referred blocks) (FilesAt path)) (bytes_eq-is (file_node (row.0).revision) parent parts.1)
        (subst (λ (p : Bytes). Knows (referred blocks) (FilesAt p) (file_node (row.0).revision)) (bytes_eq-is (row.0).path path parts.0)
        (each_in (λ row. Knows (referred blocks) (FilesAt row.path) (file_node row.revision)) (at.0).rows row.0 (knows-files at.0 (changesets_in blocks) at.1).files row.1)))

-- the parts of a changeset whose files and manifest aren't late, over more that is known
module _ (blocks : List Block) (each : Each HasNullManifest (changesets_in blocks)) (more : List Revision) where
  time-manifest : (h : ChangesetView) (m : ManifestParents) → has_late_manifest blocks m ≡ false → Each (IsInTime (referred blocks ++ more)) (manifest_revision h m)
  time-manifest h NoManifest late = tt
  time-manifest h (Over p q) late =
      let parts = or_parts (is_late_manifest blocks p) (is_late_manifest blocks q) late in
      (inr (parent-left (referred blocks) more Manifests p (in-time-manifest blocks each p parts.0), parent-left (referred blocks) more Manifests q (in-time-manifest blocks each q parts.1)), tt)

  time-rows : (link : Id) (rows : List Row) → has_late_file blocks rows ≡ false → Each (IsInTime (referred blocks ++ more)) (map (file_revision link) rows)
  time-rows link [] late = tt
  time-rows link (row ∷ rows) late =
      let all = or_parts (is_late_file blocks row.path (row.revision).p || is_late_file blocks row.path (row.revision).q) (has_late_file blocks rows) late in
      let own = or_parts (is_late_file blocks row.path (row.revision).p) (is_late_file blocks row.path (row.revision).q) all.0 in (
        inr (
          parent-left (referred blocks) more (FilesAt row.path) (row.revision).p (in-time-file blocks row.path (row.revision).p own.0),
          parent-left (referred blocks) more (FilesAt row.path) (row.revision).q (in-time-file blocks row.path (row.revision).q own.1),
        ),
        time-rows link rows all.1,
      )

  pub changeset-time : (h : ChangesetView) → is_known_parent (referred blocks ++ more) Changesets h.p ≡ true → is_known_parent (referred blocks ++ more) Changesets h.q ≡ true
      → has_late_file blocks h.rows ≡ false → has_late_manifest blocks h.manifest ≡ false → Each (IsInTime (referred blocks ++ more)) (revisions_of h)
  unfolding revisions_of
  changeset-time h p q files manifest = (
    inr (p, q),
    Each-append (IsInTime (referred blocks ++ more)) (manifest_revision h h.manifest) (map (file_revision (changeset_node h)) h.rows) (time-manifest h h.manifest manifest) (time-rows (changeset_node h) h.rows files),
  )
