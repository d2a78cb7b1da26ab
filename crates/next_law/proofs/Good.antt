-- What a revision shows by itself to which a changeset refers that is a view within its limits.
use Rattle.std.proofs.Common.{◌≡◌, ◌≤◌, ◌^◌, Bool, true, false, true≢false, not, ◌&&◌, ◌||◌, List, [], ◌∷◌, length, map, Option, Some, None, refl, sym, ap, subst, ◌∙◌, arith, if◌then◌else◌}
use Rattle.std.specs.Prelude.{IsTrue, bytes_eq, is_some}
use Rattle.text_model.specs.Lists.{Each, rises}
use Rattle.text_model.specs.Text.{Bytes, IsBytes, is_below}
use Rattle.text_model.specs.Id.{Id, IsId, null, is_null, node_id}
use Rattle.text_model.specs.Path.{is_fit_path}
use Rattle.text_model.specs.Fault as fault
use Rattle.text_model.proofs.Digests.{IsId-node_id}
use Rattle.text_model.proofs.EachLemmas.{Each-append}
use Rattle.text_model.proofs.TestLemmas.{bytes_eq-is}
use Rattle.hg_model.specs.Manifest.{ManifestEntry, IsManifestText}
use Rattle.hg_model.specs.Revision.{Revision, order_fault, shape_fault, named_if, manifest_name}
use Rattle.hg_model.proofs.ChangesetLemmas.{changeset_fault-text}
use Rattle.hg_model.proofs.ManifestLemmas.{manifest_fault-text}
use Rattle.hg_filelog.proofs.MarkLemmas.{lacks-never}
use Rattle.hg_store.specs.Known.{HasFitPath, HasPathOfBytes}
use Rattle.view_model.specs.View.{ChangesetView, IsChangesetView, ChangesetFits, Row, IsRevision, ManifestParents, NoManifest, Over, AreManifestParents, changeset_node, manifest_node, entry_of_row, rows_text, paths_of}
use Rattle.view_model.specs.Dump.{own_revision, manifest_revision, file_revision, revisions_of}
use Rattle.next_law.proofs.Texts.{changeset-bytes, rows-bytes, file-bytes}

-- all that can be added of a revision whose parents and link are known, but that it isn't null nor known otherwise
pub record IsGood (r : Revision) : Type 0 where
  pub order : order_fault r.group r ≡ None
  pub hash : r.node ≡ node_id r.p r.q r.text
  pub shape : shape_fault r.group r.text ≡ None
  pub node : IsId r.node
  pub parents : IsId r.p × IsId r.q
  pub link : IsId r.link
  pub bytes : IsBytes r.text
  pub short : length r.text ≤ 2 ^ 26
  pub path : HasFitPath r.group
  pub path_bytes : HasPathOfBytes r.group

-- ---- a changeset

good-order : (p q : Id) → (p ≡ null → q ≡ null) → (p ≡ q → p ≡ null) → ((is_null p && not (is_null q)) || (not (is_null p) && bytes_eq p q)) ≡ false
good-order p q first distinct = by (is_null p) refl (is_null q) refl (bytes_eq p q) refl
  where
    by : (a : Bool) → is_null p ≡ a → (b : Bool) → is_null q ≡ b → (c : Bool) → bytes_eq p q ≡ c → ((is_null p && not (is_null q)) || (not (is_null p) && bytes_eq p q)) ≡ false
    by true a true b c e = rw (a, b) refl
    by true a false b c e = absurd (true≢false (sym (ap is_null (first (bytes_eq-is p null a))) ∙ b))
    by false a b f true e = absurd (true≢false (sym (ap is_null (distinct (bytes_eq-is p q e))) ∙ a))
    by false a b f false e = rw (a, e) refl

node-id : (h : ChangesetView) → IsId (changeset_node h)
unfolding changeset_node
node-id h = IsId-node_id h.p h.q _

own-hash : (h : ChangesetView) → changeset_node h ≡ node_id h.p h.q (own_revision h).text
unfolding changeset_node
own-hash h = refl

own-good : (h : ChangesetView) → IsChangesetView h → ChangesetFits h → IsGood (own_revision h)
own-good h v fits = record {
  order = ap (λ (b : Bool). if b then Some fault.ParentOrder else None) (good-order h.p h.q v.first v.distinct);
  hash = own-hash h;
  shape = ap (λ (o : Option _). named_if (is_some o) fault.ChangesetShape) (changeset_fault-text (own_revision h).text h.fields (v.fields, refl));
  node = node-id h;
  parents = v.parents;
  link = node-id h;
  bytes = changeset-bytes h.fields v.fields;
  short = omega (arith, fits.text);
  path = tt;
  path_bytes = tt;
}

-- ---- its manifest

entries-are : (rows : List Row) → Each (λ row. IsTrue (is_fit_path row.path) × IsBytes row.path × IsRevision row.revision) rows → Each (λ (e : ManifestEntry). IsTrue (is_fit_path e.path) × IsBytes e.path × IsId e.node) (map entry_of_row rows)
entries-are [] fit = tt
entries-are (row ∷ rows) fit = ((fit.0.0, fit.0.1, IsId-node_id (row.revision).p (row.revision).q _), entries-are rows fit.1)

paths-are : (rows : List Row) → map (λ (e : ManifestEntry). e.path) (map entry_of_row rows) ≡ paths_of rows
paths-are [] = refl
paths-are (row ∷ rows) = ap (λ l. row.path ∷ l) (paths-are rows)

over-node : (p q : Id) (rows : List Row) → manifest_node (Over p q) rows ≡ node_id p q (rows_text rows)
unfolding manifest_node
over-node p q rows = refl

manifest-good : (h : ChangesetView) → IsChangesetView h → ChangesetFits h → (m : ManifestParents) → h.manifest ≡ m → Each IsGood (manifest_revision h m)
manifest-good h v fits NoManifest e = tt
manifest-good h v fits (Over p q) e =
    let are = subst (λ (m : ManifestParents). AreManifestParents m h.rows) e v.manifest in
    let hash = v.agrees ∙ ap (λ (m : ManifestParents). manifest_node m h.rows) e ∙ over-node p q h.rows in
    let text : IsManifestText (rows_text h.rows) (map entry_of_row h.rows) =
    ((entries-are h.rows v.rows, subst (λ (l : List Bytes). IsTrue (rises is_below l)) (sym (paths-are h.rows)) v.in_order), refl) in (
      record {
        order = refl;
        hash = hash;
        shape = ap manifest_name (manifest_fault-text (rows_text h.rows) (map entry_of_row h.rows) text);
        node = subst IsId (sym hash) (IsId-node_id p q (rows_text h.rows));
        parents = (are.0, are.1);
        link = node-id h;
        bytes = rows-bytes h.rows v.rows;
        short = fits.manifest;
        path = tt;
        path_bytes = tt;
      },
      tt,
    )

-- ---- its files

files-good : (link : Id) → IsId link → (rows : List Row) → Each (λ row. IsTrue (is_fit_path row.path) × IsBytes row.path × IsRevision row.revision) rows
    → Each (λ row. length (file_revision link row).text ≤ 2 ^ 26) rows → Each IsGood (map (file_revision link) rows)
files-good link is [] fit short = tt
files-good link is (row ∷ rows) fit short = (one row fit.0 short.0, files-good link is rows fit.1 short.1)
  where
    one : (row : Row) → IsTrue (is_fit_path row.path) × IsBytes row.path × IsRevision row.revision → length (file_revision link row).text ≤ 2 ^ 26 → IsGood (file_revision link row)
    one row f s = record {
      order = refl;
      hash = refl;
      shape = ap (λ (b : Bool). named_if b fault.FileShape) (lacks-never (row.revision).meta (row.revision).body f.2.2);
      node = IsId-node_id (row.revision).p (row.revision).q _;
      parents = (f.2.0, f.2.1);
      link = is;
      bytes = file-bytes (row.revision).meta (row.revision).body f.2.2;
      short = s;
      path = f.0;
      path_bytes = f.1;
    }

pub all-good : (h : ChangesetView) → IsChangesetView h → ChangesetFits h → Each IsGood (revisions_of h)
unfolding revisions_of
all-good h v fits = (
  own-good h v fits,
  Each-append IsGood (manifest_revision h h.manifest) (map (file_revision (changeset_node h)) h.rows) (manifest-good h v fits h.manifest refl) (files-good (changeset_node h) (node-id h) h.rows v.rows fits.files),
)
