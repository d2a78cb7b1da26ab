-- What is known of the revisions to which changesets refer, from their bundle.
use Rattle.std.proofs.Common.{◌≡◌, ◌≢◌, ◌<◌, ◌^◌, ◌||◌, Bool, true, false, true≢false, not, List, [], ◌∷◌, length, map, Option, Some, None, refl, sym, ap, subst, ◌∙◌}
use Rattle.std.specs.Prelude.{bytes_eq, filter, if◌then◌else◌, IsTrue}
use Rattle.std.specs.List.{find, flat_map, filter_map}
use Rattle.std.proofs.lemmas.Slice.Eq.{bytes_eq-Decides}
use Rattle.text_model.specs.Lists.{Each, first_of_each, only_new}
use Rattle.text_model.specs.Text.{Bytes, IsBytes, is_below}
use Rattle.text_model.specs.Id.{Id, IsId}
use Rattle.text_model.specs.Path.{is_fit_path}
use Rattle.text_model.proofs.TestLemmas.{both, bytes_eq-self}
use Rattle.text_model.proofs.EachLemmas.{Each-append}
use Rattle.text_model.proofs.Digests.{IsId-node_id}
use Rattle.text_model.proofs.Elements.{each_from, each_in}
use Rattle.hg_model.specs.Bundle.{BundleEntry, FileGroup, Bundle, IsBundleEntry}
use Rattle.hg_model.specs.Revision.{Group, Changesets, Manifests, FilesAt, Revision, is_of, revision_of, same_group, same_revision}
use Rattle.hg_model.proofs.RevisionLemmas.{same_group-self, same_group-is}
use Rattle.git_model.proofs.RowOrder.{each_ordered}
use Rattle.view_model.specs.View.{ChangesetView, IsChangesetView, IsRevision, AreManifestParents, Row, ManifestParents, NoManifest, Over, changeset_node}
use Rattle.view_model.specs.Dump.{manifest_revision, file_revision, revisions_of, revisions_in, brought_by, of_group, path_of_group, paths_in, written_from, written_group, written_file, written_bundle}
use Rattle.state_model.specs.Kept.{hg_dump}
use Rattle.path_law.proofs.Order.{has, has-in_order, has-first}
use Rattle.hg_dump.proofs.OnceLemmas.{Each-filter, Each-new}
use Rattle.hg_dump_law.proofs.Known.{is_of-is}
use Rattle.dump_law.proofs.Elements.{of-first}
use Rattle.dump_law.proofs.News.{only_new-nothing}
use Rattle.dump_law.proofs.Grows.{same_revision_turned}
use Rattle.dump_law.proofs.Bundles.{IsFileGroup, AreGroups, one_bundle, revision_back, group-back}

-- ---- one group

pub all_of_group : (group : Group) (rs : List Revision) → Each (λ r. r.group ≡ group) (of_group group rs)
all_of_group group [] = tt
all_of_group group (r ∷ rs) = by (same_group group r.group) refl (all_of_group group rs)
  where
    by : (t : Bool) → same_group group r.group ≡ t → Each (λ r. r.group ≡ group) (of_group group rs) → Each (λ r. r.group ≡ group) (of_group group (r ∷ rs))
    by true e go = rw e (sym (same_group-is group r.group e), go)
    by false e go = rw e go

-- ---- look-ups

pub find_filter : {X : Type 0} (p q : X → Bool) (xs : List X) → ((x : X) → p x ≡ true → q x ≡ true) → find p (filter q xs) ≡ find p xs
find_filter p q [] h = refl
find_filter p q (x ∷ xs) h = by (p x) refl (q x) refl (find_filter p q xs h)
  where
    by : (t : Bool) → p x ≡ t → (u : Bool) → q x ≡ u → find p (filter q xs) ≡ find p xs → find p (filter q (x ∷ xs)) ≡ find p (x ∷ xs)
    by true e true f rest = rw (f, e) refl
    by true e false f rest = absurd (true≢false (sym (h x e) ∙ f))
    by false e true f rest = rw (f, e) rest
    by false e false f rest = rw (f, e) rest

pub find_first : {X : Type 0} (p : X → Bool) (same : X → X → Bool) (xs : List X) → ((x y : X) → same x y ≡ true → p y ≡ true → p x ≡ true) → find p (first_of_each same xs) ≡ find p xs
find_first p same [] h = refl
find_first p same (x ∷ xs) h = by (p x) refl (find_first p same xs h)
  where
    others : p x ≡ false → (y : _) → p y ≡ true → not (same x y) ≡ true
    others e y f = turn (same x y) refl
      where
        turn : (t : Bool) → same x y ≡ t → not t ≡ true
        turn false s = refl
        turn true s = absurd (true≢false (sym (h x y s f) ∙ e))

    by : (t : Bool) → p x ≡ t → find p (first_of_each same xs) ≡ find p xs → find p (first_of_each same (x ∷ xs)) ≡ find p (x ∷ xs)
    by true e rest = rw e refl
    by false e rest = rw e (find_filter p (λ y. not (same x y)) (first_of_each same xs) (others e) ∙ rest)

pub found_in_group : (rs : List Revision) (group : Group) (node : Id) → revision_of (of_group group rs) group node ≡ revision_of rs group node
found_in_group rs group node = find_filter (is_of group node) (λ r. same_group group r.group) rs (λ r h. (both (same_group group r.group) (bytes_eq node r.node) h).0)

pub found_first : (rs : List Revision) (group : Group) (node : Id) → revision_of (first_of_each same_revision rs) group node ≡ revision_of rs group node
found_first rs group node = find_first (is_of group node) same_revision rs (λ x y s f.
    let a = is_of-is x.group x.node y s in
    let b = is_of-is group node y f in
    let g : group ≡ x.group = b.group_is ∙ sym a.group_is in
    let n : node ≡ x.node = b.node_is ∙ sym a.node_is in
    rw (sym g, sym n) (rw (same_group-self group, bytes_eq-self node) refl))

-- ---- paths

pub path-there : (rs : List Revision) (path : Bytes) → has (filter_map (λ r. path_of_group r.group) rs) path ≡ false → of_group (FilesAt path) rs ≡ []
path-there [] path h = refl
path-there (r ∷ rs) path h = by (path-there rs path) r.group refl
  where
    Later : Type 0
    Later = has (filter_map (λ r. path_of_group r.group) rs) path ≡ false → of_group (FilesAt path) rs ≡ []

    others : Later → (g : Group) → r.group ≡ g → same_group (FilesAt path) g ≡ false → has (filter_map (λ r. path_of_group r.group) rs) path ≡ false → of_group (FilesAt path) (r ∷ rs) ≡ []
    others later g e f k = rw (e, f) (later k)

    by : Later → (g : Group) → r.group ≡ g → of_group (FilesAt path) (r ∷ rs) ≡ []
    by later Changesets e = others later Changesets e refl (rw e at h)
    by later Manifests e = others later Manifests e refl (rw e at h)
    by later (FilesAt q) e = named (bytes_eq path q) refl
      where
        k : (bytes_eq path q || has (filter_map (λ r. path_of_group r.group) rs) path) ≡ false
        k = rw e at h

        named : (t : Bool) → bytes_eq path q ≡ t → of_group (FilesAt path) (r ∷ rs) ≡ []
        named true f = absurd (true≢false (sym (ap (λ (b : Bool). b || has (filter_map (λ r. path_of_group r.group) rs) path) f) ∙ k))
        named false f = others later (FilesAt q) e f (sym (ap (λ (b : Bool). b || has (filter_map (λ r. path_of_group r.group) rs) path) f) ∙ k)

-- the revisions that the file groups have at a path
abbrev pub entries_at : Bytes → List FileGroup → List BundleEntry
entries_at path [] = []
entries_at path (f ∷ fs) = if bytes_eq path f.path then f.entries else entries_at path fs

files-back : (known rs : List Revision) (path : Bytes) (paths : List Bytes) → has paths path ≡ true
    → map (revision_back (FilesAt path)) (entries_at path (map (written_file known rs) paths)) ≡ of_group (FilesAt path) rs
files-back known rs path [] h = absurd (true≢false (sym h))
files-back known rs path (q ∷ qs) h = by (bytes_eq path q) refl (files-back known rs path qs)
  where
    by : (t : Bool) → bytes_eq path q ≡ t → (has qs path ≡ true → map (revision_back (FilesAt path)) (entries_at path (map (written_file known rs) qs)) ≡ of_group (FilesAt path) rs)
        → map (revision_back (FilesAt path)) (entries_at path (map (written_file known rs) (q ∷ qs))) ≡ of_group (FilesAt path) rs
    by true e later =
        let same : path ≡ q = (bytes_eq-Decides path q).0 e in
        rw e (ap (λ (x : Bytes). map (revision_back (FilesAt path)) (written_group known (FilesAt x) (of_group (FilesAt x) rs))) (sym same)
        ∙ group-back known (FilesAt path) (of_group (FilesAt path) rs) (all_of_group (FilesAt path) rs))
    by false e later = rw e (later (sym (ap (λ (b : Bool). b || has qs path) e) ∙ h))

files-none : (known rs : List Revision) (path : Bytes) (paths : List Bytes) → has paths path ≡ false → entries_at path (map (written_file known rs) paths) ≡ []
files-none known rs path [] h = refl
files-none known rs path (q ∷ qs) h = by (bytes_eq path q) refl (files-none known rs path qs)
  where
    by : (t : Bool) → bytes_eq path q ≡ t → (has qs path ≡ false → entries_at path (map (written_file known rs) qs) ≡ []) → entries_at path (map (written_file known rs) (q ∷ qs)) ≡ []
    by true e later = absurd (true≢false (sym (ap (λ (b : Bool). b || has qs path) e) ∙ h))
    by false e later = rw e (later (sym (ap (λ (b : Bool). b || has qs path) e) ∙ h))

-- the revisions of a group, from the bundle
abbrev pub group_in : Bundle → Group → List Revision
group_in b Changesets = map (revision_back Changesets) b.changesets
group_in b Manifests = map (revision_back Manifests) b.manifests
group_in b (FilesAt path) = map (revision_back (FilesAt path)) (entries_at path b.files)

pub has-paths : (rs : List Revision) (path : Bytes) → has (paths_in rs) path ≡ has (filter_map (λ r. path_of_group r.group) rs) path
unfolding paths_in
has-paths rs path = has-in_order path (first_of_each bytes_eq (filter_map (λ r. path_of_group r.group) rs)) ∙ has-first path (filter_map (λ r. path_of_group r.group) rs)

pub bundle-back : (known rs : List Revision) (group : Group) → group_in (written_bundle known rs) group ≡ of_group group rs
unfolding written_bundle
bundle-back known rs Changesets = group-back known Changesets (of_group Changesets rs) (all_of_group Changesets rs)
bundle-back known rs Manifests = group-back known Manifests (of_group Manifests rs) (all_of_group Manifests rs)
bundle-back known rs (FilesAt path) = by (has (filter_map (λ r. path_of_group r.group) rs) path) refl
  where
    by : (t : Bool) → has (filter_map (λ r. path_of_group r.group) rs) path ≡ t → map (revision_back (FilesAt path)) (entries_at path (map (written_file known rs) (paths_in rs))) ≡ of_group (FilesAt path) rs
    by true e = files-back known rs path (paths_in rs) (has-paths rs path ∙ e)
    by false e = ap (map (revision_back (FilesAt path))) (files-none known rs path (paths_in rs) (has-paths rs path ∙ e)) ∙ sym (path-there rs path e)

-- ---- the bundle of changesets is of ids and paths

abbrev pub HasIds : Revision → Type 0
HasIds r = IsId r.node × IsId r.p × IsId r.q × IsId r.link

abbrev pub HasPath : Revision → Type 0
HasPath r = (path : Bytes) → path_of_group r.group ≡ Some path → path ≢ []

some_path : {a b : Bytes} → Some a ≡ Some b → a ≡ b
some_path h = cc

no_path : {a : Bytes} → None ≡ Some a → ⊥
no_path h = cc

no_fit : is_fit_path [] ≡ true → ⊥
unfolding is_fit_path
no_fit h = true≢false (sym h)

abbrev pub IsSound : Revision → Type 0
IsSound r = HasIds r × HasPath r

pub node_is_id : (h : ChangesetView) → IsId (changeset_node h)
unfolding changeset_node
node_is_id h = IsId-node_id h.p h.q _

rows-sound : (link : Id) → IsId link → (rows : List Row) → Each (λ row. IsTrue (is_fit_path row.path) × IsBytes row.path × IsRevision row.revision) rows → Each IsSound (map (file_revision link) rows)
rows-sound link is [] fit = tt
rows-sound link is (row ∷ rows) fit =
    (((IsId-node_id (row.revision).p (row.revision).q _, fit.0.2.0, fit.0.2.1, is), λ path e f. no_fit (subst (λ (x : Bytes). is_fit_path x ≡ true) (some_path e ∙ f) fit.0.0)), rows-sound link is rows fit.1)

manifest-sound : (h : ChangesetView) → IsChangesetView h → (m : ManifestParents) → h.manifest ≡ m → Each IsSound (manifest_revision h m)
manifest-sound h v NoManifest e = tt
manifest-sound h v (Over p q) e =
    let are = subst (λ (m : ManifestParents). AreManifestParents m h.rows) e v.manifest in
    ((((v.fields).manifest, are.0, are.1, node_is_id h), λ path f. absurd (no_path f)), tt)

pub revisions-sound : (h : ChangesetView) → IsChangesetView h → Each IsSound (revisions_of h)
unfolding revisions_of
revisions-sound h v = (
  ((node_is_id h, v.parents.0, v.parents.1, node_is_id h), λ path f. absurd (no_path f)),
  Each-append IsSound (manifest_revision h h.manifest) (map (file_revision (changeset_node h)) h.rows) (manifest-sound h v h.manifest refl) (rows-sound (changeset_node h) (node_is_id h) h.rows v.rows),
)

pub each_flat : {X Y : Type 0} (P : Y → Type 0) (f : X → List Y) (Q : X → Type 0) → ((x : X) → Q x → Each P (f x)) → (xs : List X) → Each Q xs → Each P (flat_map f xs)
each_flat P f Q g [] h = tt
each_flat P f Q g (x ∷ xs) h = Each-append P (f x) (flat_map f xs) (g x h.0) (each_flat P f Q g xs h.1)

pub all-sound : (hs : List ChangesetView) → Each IsChangesetView hs → Each IsSound (revisions_in hs)
all-sound hs views = each_flat IsSound revisions_of IsChangesetView revisions-sound hs views

from-entries : (base : Bytes) (rs : List Revision) → Each IsSound rs → Each IsBundleEntry (written_from base rs)
unfolding written_from
from-entries base [] h = tt
from-entries base (r ∷ rs) h = (record { node = h.0.0.0.0; p = h.0.0.1.0; q = h.0.0.2.0; link = h.0.0.3.0 }, from-entries r.text rs h.1)

group-entries : (known : List Revision) (group : Group) (rs : List Revision) → Each IsSound rs → Each IsBundleEntry (written_group known group rs)
unfolding written_group written_from
group-entries known group [] h = tt
group-entries known group (r ∷ rs) h = from-entries _ (r ∷ rs) h

paths-some : (rs : List Revision) → Each IsSound rs → Each (λ path. path ≢ []) (filter_map (λ r. path_of_group r.group) rs)
paths-some [] h = tt
paths-some (r ∷ rs) h = by (path_of_group r.group) refl (paths-some rs h.1)
  where
    by : (o : Option Bytes) → path_of_group r.group ≡ o → Each (λ path. path ≢ []) (filter_map (λ r. path_of_group r.group) rs) → Each (λ path. path ≢ []) (filter_map (λ r. path_of_group r.group) (r ∷ rs))
    by None e go = rw e go
    by (Some path) e go = rw e (h.0.1 path e, go)

pub paths-named : (rs : List Revision) → Each IsSound rs → Each (λ path. path ≢ []) (paths_in rs)
unfolding paths_in
paths-named rs h =
    let paths = filter_map (λ r. path_of_group r.group) rs in
    each_ordered (λ path. path ≢ []) is_below (first_of_each bytes_eq paths)
    (each_from (λ path. path ≢ []) (first_of_each bytes_eq paths) (λ path i. each_in (λ path. path ≢ []) paths path (paths-some rs h) (of-first bytes_eq path paths i)))

pub written-groups : (known rs : List Revision) → Each IsSound rs → AreGroups (written_bundle known rs)
unfolding written_bundle
written-groups known rs h = record {
  changesets = group-entries known Changesets (of_group Changesets rs) (Each-filter IsSound (λ r. same_group Changesets r.group) rs h);
  manifests = group-entries known Manifests (of_group Manifests rs) (Each-filter IsSound (λ r. same_group Manifests r.group) rs h);
  files = files (paths_in rs) (paths-named rs h);
}
  where
    files : (paths : List Bytes) → Each (λ path. path ≢ []) paths → Each IsFileGroup (map (written_file known rs) paths)
    files [] some = tt
    files (path ∷ paths) some = ((some.0, group-entries known (FilesAt path) (of_group (FilesAt path) rs) (Each-filter IsSound (λ r. same_group (FilesAt path) r.group) rs h)), files paths some.1)

-- ---- what one dump says of revisions, whichever changesets it is of

pub brought-sound : (l : List ChangesetView) → Each IsChangesetView l → Each IsSound (brought_by [] l)
unfolding brought_by
brought-sound l v = Each-new IsSound same_revision [] (revisions_in l) (all-sound l v)

pub dump_groups : (hs ks : List ChangesetView) → Each IsChangesetView hs → Each IsChangesetView ks → length (hg_dump hs) < 2 ^ 32 → hg_dump hs ≡ hg_dump ks
    → (group : Group) → of_group group (brought_by [] hs) ≡ of_group group (brought_by [] ks)
dump_groups hs ks vh vk short e group =
    let one = one_bundle (written_bundle (revisions_in hs) (brought_by [] hs)) (written_bundle (revisions_in ks) (brought_by [] ks))
    (written-groups (revisions_in hs) (brought_by [] hs) (brought-sound hs vh)) (written-groups (revisions_in ks) (brought_by [] ks) (brought-sound ks vk)) short e in
    sym (bundle-back (revisions_in hs) (brought_by [] hs) group) ∙ ap (λ (b : Bundle). group_in b group) one ∙ bundle-back (revisions_in ks) (brought_by [] ks) group

pub same_known : (hs ks : List ChangesetView) → ((group : Group) → of_group group (brought_by [] hs) ≡ of_group group (brought_by [] ks))
    → (group : Group) (node : Id) → revision_of (revisions_in hs) group node ≡ revision_of (revisions_in ks) group node
unfolding brought_by
same_known hs ks same group node =
    back hs ∙ ap (λ (rs : List Revision). revision_of rs group node) (same group) ∙ sym (back ks)
  where
    back : (l : List ChangesetView) → revision_of (revisions_in l) group node ≡ revision_of (of_group group (only_new same_revision [] (revisions_in l))) group node
    back l = sym (found_in_group (only_new same_revision [] (revisions_in l)) group node
        ∙ ap (λ (rs : List Revision). revision_of rs group node) (only_new-nothing same_revision same_revision_turned (revisions_in l))
        ∙ found_first (revisions_in l) group node)
