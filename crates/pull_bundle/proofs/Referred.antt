-- To which revisions the changesets of blocks refer, in the words of late parents.
use Rattle.std.proofs.Common.{◌≡◌, ◌&&◌, ◌||◌, Bool, true, false, not, List, [], ◌∷◌, ◌++◌, map, Some, refl, sym, ap, ◌∙◌}
use Rattle.std.specs.Prelude.{bytes_eq, is_some, if◌then◌else◌, IsTrue}
use Rattle.std.specs.List.{list_any}
use Rattle.std.proofs.lemmas.List.Folds.{list_any-append}
use Rattle.text_model.specs.Lists.{In}
use Rattle.text_model.specs.Text.{Bytes}
use Rattle.text_model.specs.Id.{Id, null, is_null}
use Rattle.text_model.proofs.Elements.{each_from, in_any}
use Rattle.text_model.proofs.TestLemmas.{bytes_eq-self, bytes_eq-sym}
use Rattle.hg_model.specs.Revision.{Group, Manifests, FilesAt, Revision, is_of, revision_of, knows}
use Rattle.view_model.specs.View.{ChangesetView, ManifestParents, NoManifest, Over, Row, changeset_node, file_node}
use Rattle.view_model.specs.Held.{IsManifestHeld, AreChangesetsHeld}
use Rattle.view_model.specs.Dump.{manifest_revision, file_revision, revisions_of, revisions_in}
use Rattle.pair_model.specs.Block.{Block, changesets_in}
use Rattle.partner_model.specs.Given.{has_file, is_late_file, is_late_manifest}
use Rattle.hg_dump.specs.declared.refers.Refers.{Refers}
use Rattle.hg_dump.specs.Refers.{RefersTo, HasFilesOf}

knows-any : (group : Group) (node : Id) (rs : List Revision) → knows rs group node ≡ list_any (is_of group node) rs
knows-any group node [] = refl
knows-any group node (r ∷ rs) = by (is_of group node r) (knows-any group node rs)
  where
    by : (t : Bool) → knows rs group node ≡ list_any (is_of group node) rs → is_some (if t then Some r else revision_of rs group node) ≡ (t || list_any (is_of group node) rs)
    by true rest = refl
    by false rest = rest

-- ---- file revisions

module _ (path : Bytes) (node : Id) where
  abbrev is_file : Row → Bool
  is_file row = bytes_eq row.path path && bytes_eq (file_node row.revision) node

  rows-any : (link : Id) (rows : List Row) → list_any (is_of (FilesAt path) node) (map (file_revision link) rows) ≡ list_any is_file rows
  rows-any link [] = refl
  rows-any link (row ∷ rows) = λ i. (bytes_eq-sym path row.path i && bytes_eq-sym node (file_node row.revision) i) || rows-any link rows i

  no-manifest : (h : ChangesetView) (m : ManifestParents) (rs : List Revision) → list_any (is_of (FilesAt path) node) (manifest_revision h m ++ rs) ≡ list_any (is_of (FilesAt path) node) rs
  no-manifest h NoManifest rs = refl
  no-manifest h (Over p q) rs = refl

  view-files : (h : ChangesetView) → list_any (is_of (FilesAt path) node) (revisions_of h) ≡ list_any is_file h.rows
  unfolding revisions_of
  view-files h = no-manifest h h.manifest (map (file_revision _) h.rows) ∙ rows-any _ h.rows

  views-files : (hs : List ChangesetView) → list_any (is_of (FilesAt path) node) (revisions_in hs) ≡ list_any (λ v. list_any is_file v.rows) hs
  views-files [] = refl
  views-files (h ∷ hs) = list_any-append (is_of (FilesAt path) node) (revisions_of h) (revisions_in hs) ∙ (λ i. view-files h i || views-files hs i)

  pub knows-file : (blocks : List Block) → knows (revisions_in (changesets_in blocks)) (FilesAt path) node ≡ has_file blocks path node
  knows-file blocks = knows-any (FilesAt path) node (revisions_in (changesets_in blocks)) ∙ views-files (changesets_in blocks)

  pub late-file : (refers : Refers) (blocks : List Block) → RefersTo refers (revisions_in (changesets_in blocks)) → (b : Bool)
      → ((rs : List Revision) → RefersTo refers rs → b ≡ knows rs (FilesAt path) node) → (not (is_null node) && not b) ≡ is_late_file blocks path node
  late-file refers blocks to b has = ap (λ (t : Bool). not (is_null node) && not t) (has (revisions_in (changesets_in blocks)) to ∙ knows-file blocks)

-- the files of a changeset of the blocks, however it is said to which revisions is referred
pub has-files : (refers : Refers) (hs : List ChangesetView) (v : ChangesetView) → In v hs → RefersTo refers (revisions_in hs) → (rs : List Revision) → RefersTo refers rs → HasFilesOf rs v
has-files refers hs v i to rs also = each_from (λ row. IsTrue (knows rs (FilesAt row.path) (file_node row.revision))) v.rows one
  where
    one : (row : Row) → In row v.rows → knows rs (FilesAt row.path) (file_node row.revision) ≡ true
    one row j =
        let group = FilesAt row.path in
        let node = file_node row.revision in
        let own : is_file row.path node row ≡ true = rw (bytes_eq-self row.path, bytes_eq-self node) refl in
        let any : list_any (λ (w : ChangesetView). list_any (is_file row.path node) w.rows) hs ≡ true = in_any (λ w. list_any (is_file row.path node) w.rows) hs v i (in_any (is_file row.path node) v.rows row j own) in
        sym (also.met group node) ∙ to.met group node ∙ knows-any group node (revisions_in hs) ∙ views-files row.path node hs ∙ any

-- ---- manifests

module _ (node : Id) (some : is_null node ≡ false) where
  no-rows : (link : Id) (rows : List Row) → list_any (is_of Manifests node) (map (file_revision link) rows) ≡ false
  no-rows link [] = refl
  no-rows link (row ∷ rows) = no-rows link rows

  view-manifest : (known : List Revision) (h : ChangesetView) (m : ManifestParents) (rows : List Row) → IsManifestHeld known (h.fields).manifest m rows → (link : Id)
      → list_any (is_of Manifests node) (manifest_revision h m ++ map (file_revision link) h.rows) ≡ bytes_eq (h.fields).manifest node
  view-manifest known h NoManifest rows held link = no-rows link h.rows ∙ sym (ap (λ (id : Id). bytes_eq id node) held.0 ∙ bytes_eq-sym null node ∙ some)
  view-manifest known h (Over p q) rows held link = (λ i. bytes_eq-sym node (h.fields).manifest i || no-rows link h.rows i) ∙ or-none (bytes_eq (h.fields).manifest node)
    where
      or-none : (b : Bool) → (b || false) ≡ b
      or-none true = refl
      or-none false = refl

  views-manifests : (known : List Revision) (nodes : List Id) (hs : List ChangesetView) → AreChangesetsHeld known nodes hs → list_any (is_of Manifests node) (revisions_in hs) ≡ list_any (λ v. bytes_eq (v.fields).manifest node) hs
  unfolding revisions_of
  views-manifests known [] [] held = refl
  views-manifests known [] (h ∷ hs) held = absurd held
  views-manifests known (n ∷ nodes) [] held = absurd held
  views-manifests known (n ∷ nodes) (h ∷ hs) held =
      list_any-append (is_of Manifests node) (revisions_of h) (revisions_in hs) ∙ (λ i. view-manifest known h h.manifest h.rows held.0.manifest (changeset_node h) i || views-manifests known nodes hs held.1 i)

pub late-manifest : (known : List Revision) (nodes : List Id) (blocks : List Block) → AreChangesetsHeld known nodes (changesets_in blocks) → (refers : Refers) → RefersTo refers (revisions_in (changesets_in blocks)) → (node : Id) (b : Bool)
    → ((rs : List Revision) → RefersTo refers rs → b ≡ knows rs Manifests node) → (not (is_null node) && not b) ≡ is_late_manifest blocks node
late-manifest known nodes blocks held refers to node b has = by (is_null node) refl
  where
    by : (t : Bool) → is_null node ≡ t → (not t && not b) ≡ (not t && not (list_any (λ v. bytes_eq (v.fields).manifest node) (changesets_in blocks)))
    by true e = refl
    by false e = ap not (has (revisions_in (changesets_in blocks)) to ∙ knows-any Manifests node (revisions_in (changesets_in blocks)) ∙ views-manifests node e known nodes (changesets_in blocks) held)
