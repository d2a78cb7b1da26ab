-- A node has one view among the revisions of a store, and it is what the store lends.
use Rattle.std.proofs.Common.{◌≡◌, ◌≤◌, ◌+◌, ℕ, zero, suc, ◌||◌, Bool, true, false, true≢false, not, List, [], ◌∷◌, ◌++◌, length, map, take, Option, Some, None, refl, sym, ap, subst, ◌∙◌, arith}
use Rattle.std.specs.Prelude.{is_some, option_map, bytes_eq, slice_get, IsTrue}
use Rattle.std.specs.List.{find, list_any}
use Rattle.std.proofs.lemmas.Bool.{or_parts}
use Rattle.std.proofs.lemmas.Slice.Eq.{bytes_eq-Decides}
use Rattle.text_model.specs.Lists.{Each}
use Rattle.text_model.specs.Text.{Bytes}
use Rattle.text_model.specs.Id.{Id, null, is_null, node_id, blob_id}
use Rattle.text_model.specs.Fault.{FaultName}
use Rattle.text_model.proofs.TestLemmas.{both}
use Rattle.text_model.proofs.Options.{none_some, some_is, not_false}
use Rattle.hg_model.proofs.RevisionLemmas.{same_group-is, named_if-None}
use Rattle.hg_model.specs.Changeset.{Changeset, IsChangesetText}
use Rattle.hg_model.specs.Manifest.{ManifestEntry, IsManifestText, manifest_text}
use Rattle.hg_model.specs.FileText.{file_text, file_order, manifest_order}
use Rattle.hg_model.specs.Revision.{Group, Manifests, FilesAt, Revision, is_of, revision_of, knows, same_group, is_otherwise, first_name, named_if, ancestry_fault, shape_fault, text_fault}
use Rattle.hg_model.proofs.ChangesetLemmas.{one_changeset}
use Rattle.hg_model.proofs.ManifestLemmas.{one_manifest}
use Rattle.hg_filelog.proofs.MarkLemmas.{one_pair}
use Rattle.hg_changeset.specs.Values.{changeset_value}
use Rattle.hg_store.specs.Known.{IsAddedTo, AreAddedTo, AreAdded, text_limit, manifest_text_of, IsFileBlob}
use Rattle.hg_store.specs.Views.{IsChangesetOf, IsManifestOf, IsView, is_unknown}
use Rattle.hg_store.specs.declared.view.View.{View}
use Rattle.view_model.specs.View.{Row, file_node, entry_of_row, ManifestParents, NoManifest, Over, ChangesetView}
use Rattle.view_model.specs.Held.{IsFileHeld, IsManifestHeld, IsChangesetHeld}
use Rattle.pair_known.specs.Rows.{RowValue, row_value}

-- ---- what a held revision shows

-- it was added once: its node is not null, and its text is short
pub record IsHeldAs (group : Group) (node : Id) (r : Revision) : Type 0 where
  pub group_is : r.group ≡ group
  pub node_is : r.node ≡ node
  pub some : is_null node ≡ false
  pub short : length r.text ≤ text_limit
  pub hash : node ≡ node_id r.p r.q r.text

record IsSound (r : Revision) : Type 0 where
  some : is_null r.node ≡ false
  short : length r.text ≤ text_limit
  hash : r.node ≡ node_id r.p r.q r.text

three : (a b c d : Option FaultName) → first_name (a ∷ first_name (b ∷ c ∷ d ∷ []) ∷ []) ≡ None → (b ≡ None) × (d ≡ None)
three None None None None h = (refl, refl)
three None None None (Some n) h = absurd cc
three None None (Some n) d h = absurd cc
three None (Some n) c d h = absurd cc
three (Some n) b c d h = absurd cc

sound-one : (known : List Revision) (r : Revision) → IsAddedTo known r → IsSound r
unfolding text_fault
sound-one known r h =
    let last = three (ancestry_fault known r) (named_if (not (bytes_eq r.node (node_id r.p r.q r.text))) _) (shape_fault r.group r.text) (named_if (is_null r.node || list_any (is_otherwise r) known) _) h.faultless in
    record {
      some = (or_parts (is_null r.node) (list_any (is_otherwise r) known) (named_if-None (is_null r.node || list_any (is_otherwise r) known) _ last.1)).0;
      short = h.short;
      hash = (bytes_eq-Decides r.node (node_id r.p r.q r.text)).0 (not_false (bytes_eq r.node (node_id r.p r.q r.text)) (named_if-None (not (bytes_eq r.node (node_id r.p r.q r.text))) _ last.0));
    }

sound : (known rs : List Revision) → AreAddedTo known rs → Each IsSound rs
sound known [] h = tt
sound known (r ∷ rs) h = (sound-one known r h.0, sound (known ++ r ∷ []) rs h.1)

found : {X : Type 0} (P : X → Type 0) (test : X → Bool) (xs : List X) (x : X) → find test xs ≡ Some x → Each P xs → P x × (test x ≡ true)
found P test [] x at each = absurd cc
found {X} P test (y ∷ xs) x at each = by (test y) refl (λ e. found P test xs x e each.1)
  where
    by : (t : Bool) → test y ≡ t → (find test xs ≡ Some x → P x × (test x ≡ true)) → P x × (test x ≡ true)
    by true t later = let is : y ≡ x = some_is (sym (rw t refl) ∙ at) in (subst P is each.0, ap test (sym is) ∙ t)
    by false t later = later (sym (rw t refl) ∙ at)

module _ (known : List Revision) (added : AreAdded known) where
  pub held-as : (group : Group) (node : Id) (r : Revision) → revision_of known group node ≡ Some r → IsHeldAs group node r
  held-as group node r at =
      let f = found IsSound (is_of group node) known r at (sound [] known added) in
      let parts = both (same_group group r.group) (bytes_eq node r.node) f.1 in
      let same : node ≡ r.node = (bytes_eq-Decides node r.node).0 parts.1 in
      record {
        group_is = sym (same_group-is group r.group parts.0);
        node_is = sym same;
        some = ap is_null same ∙ f.0.some;
        short = f.0.short;
        hash = same ∙ f.0.hash;
      }

  null_unknown : (group : Group) (node : Id) (r : Revision) → node ≡ null → revision_of known group node ≡ Some r → ⊥
  null_unknown group node r is at = true≢false (sym (ap is_null is) ∙ (held-as group node r at).some)

-- ---- rows

module _ (known : List Revision) where
  pub one_row : (a b : Row) → IsFileHeld known a → IsFileHeld known b → entry_of_row a ≡ entry_of_row b → a ≡ b
  one_row a b h k e =
      let path : a.path ≡ b.path = ap (λ (x : ManifestEntry). x.path) e in
      let node : file_node a.revision ≡ file_node b.revision = ap (λ (x : ManifestEntry). x.node) e in
      let same : h.revision ≡ k.revision = some_is (sym h.is_held ∙ (λ i. revision_of known (FilesAt (path i)) (node i)) ∙ k.is_held) in
      let text : file_text (a.revision).meta (a.revision).body ≡ file_text (b.revision).meta (b.revision).body = sym (h.text).1 ∙ ap (λ (r : Revision). r.text) same ∙ (k.text).1 in
      let parts = one_pair (a.revision).meta (b.revision).meta (a.revision).body (b.revision).body (h.text).0 (k.text).0 text in
      let parents : ((a.revision).p, (a.revision).q) ≡ ((b.revision).p, (b.revision).q) = h.parents ∙ (λ i. file_order (parts.0 i) (same i).p (same i).q) ∙ sym k.parents in
      λ i. record {
        path = path i;
        flag = (e i).flag;
        revision = record { p = (parents i).0; q = (parents i).1; meta = parts.0 i; body = parts.1 i };
      }

  pub one_rows : (xs ys : List Row) → Each (IsFileHeld known) xs → Each (IsFileHeld known) ys → map entry_of_row xs ≡ map entry_of_row ys → xs ≡ ys
  one_rows [] [] h k e = refl
  one_rows [] (y ∷ ys) h k e = absurd cc
  one_rows (x ∷ xs) [] h k e = absurd cc
  one_rows (x ∷ xs) (y ∷ ys) h k e =
      let head : entry_of_row x ≡ entry_of_row y = heads e in
      let tail : map entry_of_row xs ≡ map entry_of_row ys = tails e in
      λ i. one_row x y h.0 k.0 head i ∷ one_rows xs ys h.1 k.1 tail i
    where
      heads : {a b : ManifestEntry} {xs ys : List ManifestEntry} → a ∷ xs ≡ b ∷ ys → a ≡ b
      heads e = cc

      tails : {a b : ManifestEntry} {xs ys : List ManifestEntry} → a ∷ xs ≡ b ∷ ys → xs ≡ ys
      tails e = cc

-- ---- manifests and changesets

module _ (known : List Revision) (added : AreAdded known) where
  pub one_manifest-held : (node : Id) (m n : ManifestParents) (xs ys : List Row) → IsManifestHeld known node m xs → IsManifestHeld known node n ys → (m ≡ n) × (map entry_of_row xs ≡ map entry_of_row ys)
  one_manifest-held node NoManifest NoManifest xs ys h k = (refl, ap (map entry_of_row) (h.1 ∙ sym k.1))
  one_manifest-held node NoManifest (Over p q) xs ys h k = absurd (null_unknown known added Manifests node k.revision h.0 k.is_held)
  one_manifest-held node (Over p q) NoManifest xs ys h k = absurd (null_unknown known added Manifests node h.revision k.0 h.is_held)
  one_manifest-held node (Over p q) (Over p' q') xs ys h k =
      let same : h.revision ≡ k.revision = some_is (sym h.is_held ∙ k.is_held) in
      let order : (p, q) ≡ (p', q') = h.parents ∙ (λ i. manifest_order (same i).p (same i).q) ∙ sym k.parents in (
        (λ i. Over (order i).0 (order i).1),
        one_manifest (k.revision).text (map entry_of_row xs) (map entry_of_row ys) (subst (λ (r : Revision). IsManifestText r.text (map entry_of_row xs)) same h.text) k.text,
      )

  -- the rows of a view are those of its manifest
  pub manifest_of-held : (node : Id) (m : ManifestParents) (xs : List Row) → IsManifestHeld known node m xs → IsManifestOf known node (map entry_of_row xs)
  unfolding manifest_text
  manifest_of-held node NoManifest xs h =
      let null_is : is_null node ≡ true = ap is_null h.0 in
      let empty : IsManifestOf known node [] = record { text = []; is_held = rw null_is refl; spells = ((tt, refl), refl) } in
      subst (λ (l : List Row). IsManifestOf known node (map entry_of_row l)) (sym h.1) empty
  manifest_of-held node (Over p q) xs h =
      let some = (held-as known added Manifests node h.revision h.is_held).some in
      record { text = (h.revision).text; is_held = rw (some, h.is_held) refl; spells = h.text }

  -- a node has one view
  pub one_view : (node : Id) (h k : ChangesetView) → IsChangesetHeld known node h → IsChangesetHeld known node k → h ≡ k
  one_view node h k a b =
      let same : a.revision ≡ b.revision = some_is (sym a.is_held ∙ b.is_held) in
      let fields : h.fields ≡ k.fields = one_changeset (b.revision).text h.fields k.fields (subst (λ (r : Revision). IsChangesetText r.text h.fields) same a.fields) b.fields in
      let manifest : IsManifestHeld known (k.fields).manifest h.manifest h.rows = subst (λ (x : Changeset). IsManifestHeld known x.manifest h.manifest h.rows) fields a.manifest in
      let parts = one_manifest-held (k.fields).manifest h.manifest k.manifest h.rows k.rows manifest b.manifest in
      let rows = one_rows known h.rows k.rows a.files b.files parts.1 in
      let p : h.p ≡ k.p = a.parents.0 ∙ ap (λ (r : Revision). r.p) same ∙ sym b.parents.0 in
      let q : h.q ≡ k.q = a.parents.1 ∙ ap (λ (r : Revision). r.q) same ∙ sym b.parents.1 in
      λ i. record { p = p i; q = q i; fields = fields i; manifest = parts.0 i; rows = rows i }

-- ---- what the store lends

pub record Agrees (h : ChangesetView) (v : View) : Type 0 where
  pub p : h.p ≡ v.p1
  pub q : h.q ≡ v.p2
  pub fields : h.fields ≡ changeset_value (v.changeset).now
  pub node : (h.fields).manifest ≡ v.manifest_node
  pub entries : map entry_of_row h.rows ≡ (v.manifest).now

module _ (known : List Revision) (added : AreAdded known) (node : Id) (h : ChangesetView) (held : IsChangesetHeld known node h) where
  of_changeset : IsChangesetOf known node h.p h.q h.fields
  of_changeset = record { revision = held.revision; is_held = held.is_held; first = held.parents.0; second = held.parents.1; fields = held.fields }

  same_fields : {p q : Id} {x : Changeset} → IsChangesetOf known node p q x → x ≡ h.fields
  same_fields {x = x} c = one_changeset (held.revision).text x h.fields (subst (λ (r : Revision). IsChangesetText r.text x) (some_is (sym c.is_held ∙ held.is_held)) c.fields) held.fields

  of_manifest : IsManifestOf known (h.fields).manifest (map entry_of_row h.rows)
  of_manifest = manifest_of-held known added (h.fields).manifest h.manifest h.rows held.manifest

  same_entries : (n : Id) (es : List ManifestEntry) → n ≡ (h.fields).manifest → IsManifestOf known n es → es ≡ map entry_of_row h.rows
  same_entries n es is m =
      let text : m.text ≡ of_manifest.text = some_is (sym m.is_held ∙ ap (manifest_text_of known) is ∙ of_manifest.is_held) in
      one_manifest of_manifest.text es (map entry_of_row h.rows) (subst (λ (t : Bytes). IsManifestText t es) text m.spells) of_manifest.spells

  pub view-agrees : (v : View) → IsView known node v → Agrees h v
  view-agrees v is =
      let revision : (is.changeset).revision ≡ held.revision = some_is (sym (is.changeset).is_held ∙ held.is_held) in
      let fields = same_fields is.changeset in
      let node : v.manifest_node ≡ (h.fields).manifest = is.manifest_node ∙ ap (λ (x : Changeset). x.manifest) fields in
      record {
        p = held.parents.0 ∙ sym (ap (λ (r : Revision). r.p) revision) ∙ sym (is.changeset).first;
        q = held.parents.1 ∙ sym (ap (λ (r : Revision). r.q) revision) ∙ sym (is.changeset).second;
        fields = sym fields;
        node = sym node;
        entries = sym (same_entries v.manifest_node (v.manifest).now node is.manifest);
      }

-- ---- a row by its entry

-- the blob of a row's revision is that of its body
pub blob-of_row : (known : List Revision) (row : Row) (blob : Id) → IsFileHeld known row → IsFileBlob known row.path (file_node row.revision) blob → blob ≡ blob_id (row.revision).body
blob-of_row known row blob h b =
    let same : b.revision ≡ h.revision = some_is (sym b.is_held ∙ h.is_held) in
    let text : file_text (b.has_blob).meta (b.has_blob).body ≡ file_text (row.revision).meta (row.revision).body = sym ((b.has_blob).spells).1 ∙ ap (λ (r : Revision). r.text) same ∙ (h.text).1 in
    (b.has_blob).id ∙ ap blob_id (one_pair (b.has_blob).meta (row.revision).meta (b.has_blob).body (row.revision).body ((b.has_blob).spells).0 (h.text).0 text).1

pub row-made : (known : List Revision) (row : Row) (e : ManifestEntry) (path : Bytes) (blob : Id) → entry_of_row row ≡ e → IsFileHeld known row → path ≡ e.path → IsFileBlob known path e.node blob
    → (record { path = e.path; flag = e.flag; node = e.node; blob = blob }) ≡ row_value row
row-made known row e path blob same h path_is b =
    let known_as : IsFileBlob known row.path (file_node row.revision) blob =
    subst (λ (x : ManifestEntry). IsFileBlob known x.path x.node blob) (sym same) (subst (λ (p : Bytes). IsFileBlob known p e.node blob) path_is b) in
    let is = blob-of_row known row blob h known_as in
    λ i. record { path = (sym same i).path; flag = (sym same i).flag; node = (sym same i).node; blob = is i }

module _ (known : List Revision) (added : AreAdded known) (node : Id) where
  pub manifest-some : (pq : Id × Id) → Some pq ≡ option_map (λ r. manifest_order r.p r.q) (revision_of known Manifests node) → (m : ManifestParents) (rows : List Row) → IsManifestHeld known node m rows → m ≡ Over pq.0 pq.1
  manifest-some pq at NoManifest rows h = by (revision_of known Manifests node) refl at
    where
      by : (o : Option Revision) → revision_of known Manifests node ≡ o → Some pq ≡ option_map (λ r. manifest_order r.p r.q) o → NoManifest ≡ Over pq.0 pq.1
      by None is e = absurd (none_some (sym e))
      by (Some r) is e = absurd (null_unknown known added Manifests node r h.0 is)
  manifest-some pq at (Over p q) rows h =
      let order : (p, q) ≡ pq = h.parents ∙ some_is (sym (at ∙ ap (option_map (λ (r : Revision). manifest_order r.p r.q)) h.is_held)) in
      λ i. Over (order i).0 (order i).1

  pub manifest-none : None ≡ option_map {U = Id × Id} (λ r. manifest_order r.p r.q) (revision_of known Manifests node) → (m : ManifestParents) (rows : List Row) → IsManifestHeld known node m rows → m ≡ NoManifest
  manifest-none at NoManifest rows h = refl
  manifest-none at (Over p q) rows h = absurd (none_some (at ∙ ap (option_map (λ (r : Revision). manifest_order r.p r.q)) h.is_held))

-- each entry of a held view is of a known revision
pub entries_known : (known : List Revision) (xs : List Row) → Each (IsFileHeld known) xs → Each (λ e. IsTrue (knows known (FilesAt e.path) e.node)) (map entry_of_row xs)
entries_known known [] h = tt
entries_known known (x ∷ xs) h = (ap is_some h.0.is_held, entries_known known xs h.1)

-- one row more
pub rows-more : (known : List Revision) (made : RowValue) (rows : List Row) (i : ℕ) (e : ManifestEntry) → slice_get (map entry_of_row rows) i ≡ Some e → Each (IsFileHeld known) rows
    → ((row : Row) → entry_of_row row ≡ e → IsFileHeld known row → made ≡ row_value row) → map row_value (take (i + 1) rows) ≡ map row_value (take i rows) ++ made ∷ []
rows-more known made [] i e at h is = absurd (none_some at)
rows-more known made (x ∷ rows) zero e at h is = ap (λ (r : RowValue). r ∷ []) (sym (is x (some_is at) h.0))
rows-more known made (x ∷ rows) (suc i) e at h is =
    let plus : suc i + 1 ≡ suc (i + 1) = omega arith in
    ap (λ (n : ℕ). map row_value (take n (x ∷ rows))) plus ∙ ap (λ (l : List RowValue). row_value x ∷ l) (rows-more known made rows i e at h.1 is)

-- a revision that has a blob is known
pub blob-known : (known : List Revision) (path : Bytes) (e : ManifestEntry) (blob : Id) → path ≡ e.path → IsFileBlob known path e.node blob → is_unknown known e ≡ false
blob-known known path e blob is b = ap (λ (o : Option Revision). not (is_some o)) ((λ i. revision_of known (FilesAt (sym is i)) e.node) ∙ b.is_held)
