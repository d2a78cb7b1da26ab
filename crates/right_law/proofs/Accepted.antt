-- Nothing of a bundle is left over: each entry belongs to a changeset, each link stands in a block, and no limit is passed.
use Rattle.std.proofs.Common.{◌≡◌, ◌≢◌, true, false, List, [], ◌∷◌, ◌++◌, map, Some, None, refl, sym, ap, subst, ◌∙◌, inl, inr, ◌⊎◌, append_assoc}
use Rattle.std.specs.Prelude.{is_some, IsTrue, bytes_eq}
use Rattle.std.proofs.lemmas.Bool.{true≢false}
use Rattle.text_model.specs.Lists.{Each, In, SomeOf}
use Rattle.text_model.specs.Id.{null}
use Rattle.text_model.proofs.Elements.{each_from, each_in, in_map}
use Rattle.text_model.proofs.Options.{none_some}
use Rattle.text_model.proofs.TestLemmas.{both}
use Rattle.hg_model.specs.Revision.{Group, Changesets, Manifests, Revision, same_group, is_of, revision_of}
use Rattle.hg_model.specs.Manifest.{ManifestEntry}
use Rattle.hg_model.specs.Reading.{Arrival}
use Rattle.hg_model.proofs.RevisionLemmas.{same_group-is}
use Rattle.git_model.specs.Object.{Object}
use Rattle.view_model.specs.View.{Row, ManifestParents, NoManifest, Over, ChangesetView, changeset_node, entry_of_row}
use Rattle.view_model.specs.Held.{IsManifestHeld}
use Rattle.view_model.specs.Dump.{own_revision, manifest_revision, file_revision, revisions_of, revisions_in}
use Rattle.pair_model.specs.Block.{Block, view_at, changesets_in}
use Rattle.partner_model.specs.Partner.{IsHeldView}
use Rattle.history_model.specs.Pull.{RefersTo, IsOrphan, Dangles, is_changesets}
use Rattle.state_model.specs.Saved.{passes_limit}
use Rattle.saved_model.specs.Step.{first_large_block}
use Rattle.unmark_law.proofs.Tables.{found_there}
use Rattle.dump_law.proofs.Elements.{of-map}
use Rattle.dump_law.proofs.Streams.{of_append, of_flat}
use Rattle.pull_law.proofs.Searches.{found}

some_of : {X : Type 0} (P : X → Type 0) (xs : List X) (x : X) → In x xs → P x → SomeOf xs P
some_of P [] x i p = absurd i
some_of P (y ∷ ys) x (inl e) p = inl (subst P e p)
some_of P (y ∷ ys) x (inr i) p = inr (some_of P ys x i p)

-- ---- a revision of a changeset

-- that of a row of the changeset
abbrev OfRow : ChangesetView → Revision → Type 0
OfRow h r = (row : Row) × In row h.rows × (r ≡ file_revision (changeset_node h) row)

-- the changeset's own, the manifest's, or that of a row
abbrev Parts : ChangesetView → Revision → Type 0
Parts h r = (r ≡ own_revision h) ⊎ In r (manifest_revision h h.manifest) ⊎ OfRow h r

parts : (h : ChangesetView) (r : Revision) → In r (revisions_of h) → Parts h r
unfolding revisions_of
parts h r (inl e) = inl e
parts h r (inr i) = by (of_append r (manifest_revision h h.manifest) (map (file_revision (changeset_node h)) h.rows) i)
  where
    by : In r (manifest_revision h h.manifest) ⊎ In r (map (file_revision (changeset_node h)) h.rows) → Parts h r
    by (inl j) = inr (inl j)
    by (inr j) = inr (inr (of-map (file_revision (changeset_node h)) r h.rows j))

of_manifest : (h : ChangesetView) (m : ManifestParents) (r : Revision) → In r (manifest_revision h m) → (r.group ≡ Manifests) × (r.node ≡ (h.fields).manifest)
of_manifest h NoManifest r i = absurd i
of_manifest h (Over p q) r (inl e) = (ap (λ (x : Revision). x.group) e, ap (λ (x : Revision). x.node) e)
of_manifest h (Over p q) r (inr z) = absurd z

-- ---- a known changeset refers to its manifest and its files

module _ (known : List Revision) (h : ChangesetView) (held : IsHeldView known h) (none : revision_of known Manifests null ≡ None) where
  there : In held.revision known × (is_of Changesets (changeset_node h) held.revision ≡ true)
  there = found (λ x. In x known) (is_of Changesets (changeset_node h)) known held.revision (each_from (λ x. In x known) known (λ x i. i)) held.is_held

  is_changeset : (held.revision).group ≡ Changesets
  is_changeset = sym (same_group-is Changesets (held.revision).group (both (same_group Changesets (held.revision).group) (bytes_eq (changeset_node h) (held.revision).node) there.1).0)

  some_manifest : (x : Revision) → revision_of known Manifests (h.fields).manifest ≡ Some x → (h.fields).manifest ≢ null
  some_manifest x e n = none_some (sym none ∙ ap (revision_of known Manifests) (sym n) ∙ e)

  refers_by : (r : Revision) → Parts h r → is_changesets r.group ≡ false → (m : ManifestParents) → h.manifest ≡ m → IsManifestHeld known (h.fields).manifest m h.rows → RefersTo known held.revision r
  refers_by r (inl e) other m f k = absurd (true≢false (sym (ap (λ (x : Revision). is_changesets x.group) e) ∙ other))
  refers_by r (inr (inl j)) other NoManifest f k = absurd (subst (λ x. In r (manifest_revision h x)) f j)
  refers_by r (inr (inl j)) other (Over p q) f k =
      record { changeset = is_changeset; fields = h.fields; text = held.fields; some = some_manifest k.revision k.is_held; refers = inl (of_manifest h h.manifest r j) }
  refers_by r (inr (inr j)) other NoManifest f k = absurd (subst (λ (rows : List Row). In j.0 rows) k.1 j.1)
  refers_by r (inr (inr j)) other (Over p q) f k = record {
    changeset = is_changeset;
    fields = h.fields;
    text = held.fields;
    some = some_manifest k.revision k.is_held;
    refers = inr (
      (j.0).path,
      ap (λ (x : Revision). x.group) j.2,
      k.revision,
      k.is_held,
      map entry_of_row h.rows,
      k.text,
      some_of (λ (e : ManifestEntry). (e.path ≡ (j.0).path) × (e.node ≡ r.node)) (map entry_of_row h.rows) (entry_of_row j.0) (in_map entry_of_row j.0 h.rows j.1) (refl, sym (ap (λ (x : Revision). x.node) j.2)),
    );
  }

  refers : (r : Revision) → is_changesets r.group ≡ false → In r (revisions_of h) → SomeOf known (λ c. RefersTo known c r)
  refers r other i = some_of (λ c. RefersTo known c r) known held.revision there.0 (refers_by r (parts h r i) other h.manifest refl held.manifest)

pub no_orphan : (known : List Revision) (hs : List ChangesetView) → Each (IsHeldView known) hs → revision_of known Manifests null ≡ None → (a : Arrival) → In a.revision (revisions_in hs) → ¬ (IsOrphan known a)
no_orphan known hs held none a i o =
    let t = of_flat revisions_of a.revision hs i in
    o.referred (refers known t.0 (each_in (IsHeldView known) hs t.0 held t.1) none a.revision o.no_changeset t.2)

-- ---- no link dangles

pub no_dangling : (known : List Revision) (blocks : List Block) (a : Arrival) → In a.revision (revisions_in (changesets_in blocks)) → ¬ (Dangles known blocks a)
no_dangling known blocks a i d = by (parts t.0 a.revision t.2)
  where
    t : (h : ChangesetView) × In h (changesets_in blocks) × In a.revision (revisions_of h)
    t = of_flat revisions_of a.revision (changesets_in blocks) i

    other : {group : Group} → (a.revision).group ≡ group → is_changesets group ≡ false → ⊥
    other e f = true≢false (sym d.0 ∙ ap is_changesets e ∙ f)

    by : Parts t.0 a.revision → ⊥
    by (inl e) =
        let there : IsTrue (is_some (view_at (changesets_in blocks) (changeset_node t.0))) = found_there changeset_node (changesets_in blocks) t.0 t.1 in
        let none : view_at (changesets_in blocks) (changeset_node t.0) ≡ None = ap (λ (x : Revision). view_at (changesets_in blocks) x.node) (sym e) ∙ d.2 in
        true≢false (sym there ∙ ap is_some none)
    by (inr (inl j)) = other (of_manifest t.0 (t.0).manifest a.revision j).0 refl
    by (inr (inr j)) = other (ap (λ (x : Revision). x.group) j.2) refl

-- ---- no limit is passed

pub none_large : (tags : List Object) (before rest : List Block) → ((first after : List Block) → before ++ rest ≡ first ++ after → passes_limit (record { blocks = first; tags = tags }) ≡ false)
    → first_large_block (record { blocks = before; tags = tags }) rest ≡ None
unfolding first_large_block
none_large tags before [] f = refl
none_large tags before (b ∷ rest) f =
    let here : passes_limit (record { blocks = before ++ b ∷ []; tags = tags }) ≡ false = f (before ++ b ∷ []) rest (sym (append_assoc before (b ∷ []) rest)) in
    let more = none_large tags (before ++ b ∷ []) rest (λ first after e. f first after (sym (append_assoc before (b ∷ []) rest) ∙ e)) in
    rw here more
