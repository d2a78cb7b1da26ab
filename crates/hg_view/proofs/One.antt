-- A node has one held changeset.
use Rattle.std.proofs.Common.{◌≡◌, true≢false, List, [], ◌∷◌, map, Option, Some, None, refl, sym, ap, subst, ◌∙◌}
use Rattle.std.proofs.lemmas.Slice.Eq.{bytes_eq-Decides}
use Rattle.text_model.specs.Lists.{Each}
use Rattle.text_model.specs.Id.{Id, null}
use Rattle.text_model.proofs.Options.{some_is, none_some}
use Rattle.hg_model.specs.Changeset.{IsChangesetText}
use Rattle.hg_model.specs.Manifest.{ManifestEntry, IsManifestText}
use Rattle.hg_model.specs.FileText.{file_order, manifest_order}
use Rattle.hg_model.specs.Revision.{Revision, Manifests, FilesAt, revision_of}
use Rattle.hg_model.proofs.ChangesetLemmas.{one_changeset}
use Rattle.hg_model.proofs.ManifestLemmas.{one_manifest}
use Rattle.hg_filelog.proofs.MarkLemmas.{one_pair}
use Rattle.view_model.specs.View.{Row, file_node, entry_of_row, ManifestParents, NoManifest, Over, ChangesetView}
use Rattle.view_model.specs.Held.{IsFileHeld, IsManifestHeld, IsChangesetHeld}
use Rattle.hg_store.specs.Known.{AreAdded}
use Rattle.hg_store.proofs.Found.{found, not_null}

-- no manifest that was added to those before it has the null id
pub no_null : (known : List Revision) → AreAdded known → revision_of known Manifests null ≡ None
no_null known added = by (revision_of known Manifests null) refl
  where
    by : (o : Option Revision) → revision_of known Manifests null ≡ o → revision_of known Manifests null ≡ None
    by None e = e
    by (Some r) e =
        let of = found known Manifests null r added e in
        absurd (true≢false (sym ((bytes_eq-Decides r.node null).1 of.node_is) ∙ not_null of.before r of.added))

-- the null id is that of no manifest
module _ (known : List Revision) (none : revision_of known Manifests null ≡ None) where
  -- ---- rows of one entry

  pub one_row : (a b : Row) → entry_of_row a ≡ entry_of_row b → IsFileHeld known a → IsFileHeld known b → a ≡ b
  one_row a b same x y =
      let path : a.path ≡ b.path = ap (λ (e : ManifestEntry). e.path) same in
      let node : file_node a.revision ≡ file_node b.revision = ap (λ (e : ManifestEntry). e.node) same in
      let flag : a.flag ≡ b.flag = ap (λ (e : ManifestEntry). e.flag) same in
      let revision : x.revision ≡ y.revision = some_is (sym x.is_held ∙ (λ i. revision_of known (FilesAt (path i)) (node i)) ∙ y.is_held) in
      let parts = one_pair (a.revision).meta (b.revision).meta (a.revision).body (b.revision).body (x.text).0 (y.text).0 (sym (x.text).1 ∙ ap (λ (r : Revision). r.text) revision ∙ (y.text).1) in
      let order : ((a.revision).p, (a.revision).q) ≡ ((b.revision).p, (b.revision).q) =
      x.parents ∙ (λ i. file_order (parts.0 i) (revision i).p (revision i).q) ∙ sym y.parents in
      (λ i. record { path = path i; flag = flag i; revision = record { p = (order i).0; q = (order i).1; meta = parts.0 i; body = parts.1 i } })

  one_rows : (as' bs : List Row) → map entry_of_row as' ≡ map entry_of_row bs → Each (IsFileHeld known) as' → Each (IsFileHeld known) bs → as' ≡ bs
  one_rows [] [] e x y = refl
  one_rows [] (b ∷ bs) e x y = absurd cc
  one_rows (a ∷ as') [] e x y = absurd cc
  one_rows (a ∷ as') (b ∷ bs) e x y =
      let first : entry_of_row a ≡ entry_of_row b = heads e in
      let more : map entry_of_row as' ≡ map entry_of_row bs = tails e in
      (λ i. one_row a b first x.0 y.0 i ∷ one_rows as' bs more x.1 y.1 i)
    where
      heads : {X : Type 0} {u v : X} {us vs : List X} → u ∷ us ≡ v ∷ vs → u ≡ v
      heads h = cc

      tails : {X : Type 0} {u v : X} {us vs : List X} → u ∷ us ≡ v ∷ vs → us ≡ vs
      tails h = cc

  -- ---- manifests of one node

  none_null : (node : Id) (r : Revision) → revision_of known Manifests node ≡ Some r → node ≡ null → ⊥
  none_null node r at e = none_some (sym none ∙ ap (λ (n : Id). revision_of known Manifests n) (sym e) ∙ at)

  record IsOneManifest (m n : ManifestParents) (as' bs : List Row) : Type 0 where
    pub parents : m ≡ n
    pub entries : map entry_of_row as' ≡ map entry_of_row bs

  one_manifest_of : (node : Id) (m n : ManifestParents) (as' bs : List Row) → IsManifestHeld known node m as' → IsManifestHeld known node n bs → IsOneManifest m n as' bs
  one_manifest_of node NoManifest NoManifest as' bs x y = record { parents = refl; entries = ap (map entry_of_row) (x.1 ∙ sym y.1) }
  one_manifest_of node NoManifest (Over p q) as' bs x y = absurd (none_null node y.revision y.is_held x.0)
  one_manifest_of node (Over p q) NoManifest as' bs x y = absurd (none_null node x.revision x.is_held y.0)
  one_manifest_of node (Over p q) (Over p' q') as' bs x y =
      let revision : x.revision ≡ y.revision = some_is (sym x.is_held ∙ y.is_held) in
      let order : (p, q) ≡ (p', q') = x.parents ∙ (λ i. manifest_order (revision i).p (revision i).q) ∙ sym y.parents in
      record {
        parents = (λ i. Over (order i).0 (order i).1);
        entries = one_manifest (x.revision).text (map entry_of_row as') (map entry_of_row bs) x.text (subst (λ (r : Revision). IsManifestText r.text (map entry_of_row bs)) (sym revision) y.text);
      }

  -- ---- the whole

  pub one_held : (node : Id) (h k : ChangesetView) → IsChangesetHeld known node h → IsChangesetHeld known node k → h ≡ k
  one_held node h k x y =
      let revision : x.revision ≡ y.revision = some_is (sym x.is_held ∙ y.is_held) in
      let fields : h.fields ≡ k.fields = one_changeset (x.revision).text h.fields k.fields x.fields (subst (λ (r : Revision). IsChangesetText r.text k.fields) (sym revision) y.fields) in
      let manifest = one_manifest_of (h.fields).manifest h.manifest k.manifest h.rows k.rows x.manifest
      (subst (λ (n : Id). IsManifestHeld known n k.manifest k.rows) (sym (λ i. (fields i).manifest)) y.manifest) in
      let rows = one_rows h.rows k.rows manifest.entries x.files y.files in
      let first : h.p ≡ k.p = x.parents.0 ∙ ap (λ (r : Revision). r.p) revision ∙ sym y.parents.0 in
      let second : h.q ≡ k.q = x.parents.1 ∙ ap (λ (r : Revision). r.q) revision ∙ sym y.parents.1 in
      (λ i. record { p = first i; q = second i; fields = fields i; manifest = manifest.parents i; rows = rows i })
