-- The manifest of a changeset, as it comes to a store.
use Rattle.std.proofs.Common.{◌≡◌, List, [], ◌∷◌, map, refl, sym, ap, subst, ◌∙◌}
use Rattle.std.specs.Prelude.{IsTrue}
use Rattle.text_model.specs.Lists.{Each, rises}
use Rattle.text_model.specs.Text.{Bytes, IsBytes, is_below}
use Rattle.text_model.specs.Id.{Id, IsId, node_id}
use Rattle.text_model.specs.Path.{is_fit_path}
use Rattle.hg_model.specs.Manifest.{ManifestEntry, IsManifest, manifest_fault}
use Rattle.hg_model.specs.Revision.{Revision, Manifests, ancestry_fault, manifest_name}
use Rattle.hg_model.proofs.ManifestLemmas.{manifest_fault-text}
use Rattle.view_model.specs.View.{Row, ChangesetView, IsRevision, Over, entry_of_row, rows_text, paths_of, manifest_node}
use Rattle.view_model.specs.Dump.{manifest_revision}
use Rattle.hg_manifest.specs.Values.{manifest_value}
use Rattle.hg_manifest.specs.declared.rev.ManifestRev.TheVariants as rev
use Rattle.pair_known.specs.Ruled.{IsLooseView, HasManifestParents}
use Rattle.pair_known.specs.declared.hg_draft.HgDraft.{HgDraft}
use Rattle.pair_state.specs.Came.{IsReady, IsAskedOver}
use Rattle.pair_state.proofs.FileLemmas.{parent-within}
use Rattle.std.specs.List.{flat_map}
use Rattle.pair_state.specs.Step.{line_of}
use Rattle.pair_state.proofs.CameLemmas.{lines-are}
use Rattle.text_model.proofs.Digests.{IsId-node_id}

-- the lines of a changeset's files are those of a manifest
pub rows-manifest : (k : ChangesetView) → IsLooseView k → IsManifest (map entry_of_row k.rows)
rows-manifest k view = (each k.rows view.rows, ap (rises is_below) (paths k.rows) ∙ view.in_order)
  where
    each : (rows : List Row) → Each (λ row. IsTrue (is_fit_path row.path) × IsBytes row.path × IsRevision row.revision) rows → Each (λ e. IsTrue (is_fit_path e.path) × IsBytes e.path × IsId e.node) (map entry_of_row rows)
    each [] h = tt
    each (row ∷ rows) h = ((h.0.0, h.0.1, IsId-node_id (row.revision).p (row.revision).q _), each rows h.1)

    paths : (rows : List Row) → map (λ (e : ManifestEntry). e.path) (map entry_of_row rows) ≡ paths_of rows
    paths [] = refl
    paths (row ∷ rows) = ap (λ l. row.path ∷ l) (paths rows)

module _ (base now : List Revision) (d : HgDraft) (link : Id) (k : ChangesetView) (a : IsAskedOver base now d link k) where
  -- its lines
  pub made-lines : flat_map line_of d.rows ≡ rows_text k.rows
  made-lines = ap (flat_map line_of) a.part.made.draft.rows ∙ lines-are k.rows

  -- no manifest
  pub no-manifest : d.manifest ≡ rev.Null → manifest_revision k k.manifest ≡ []
  no-manifest e = ap (manifest_revision k) (a.part.made.draft.manifest ∙ ap manifest_value e)

  module _ (p q : Id) (e : d.manifest ≡ rev.Over p q) where
    over : k.manifest ≡ Over p q
    over = a.part.made.draft.manifest ∙ ap manifest_value e

    -- the revision of the manifest
    pub manifest-is : (text : Bytes) → text ≡ rows_text k.rows → manifest_revision k k.manifest ≡ record { group = Manifests; node = (d.changeset).manifest; p = p; q = q; link = link; text = text } ∷ []
    manifest-is text text_is =
        ap (manifest_revision k) over
        ∙ (λ i. record { group = Manifests; node = ap (λ x. x.manifest) a.part.made.draft.fields i; p = p; q = q; link = sym a.node_is i; text = sym text_is i } ∷ [])

    pub manifest-ready : (text : Bytes) → text ≡ rows_text k.rows → IsReady now (record { group = Manifests; node = (d.changeset).manifest; p = p; q = q; link = link; text = text })
    unfolding ancestry_fault manifest_node
    manifest-ready text text_is =
        let parents = subst (HasManifestParents base) over a.part.manifest_parents in
        record {
          ancestry = rw (parent-within base now a.within Manifests p parents.0, parent-within base now a.within Manifests q parents.1, a.link) refl;
          node = ap (node_id p q) text_is ∙ sym (ap (λ m. manifest_node m k.rows) over) ∙ sym a.part.made.view.agrees ∙ ap (λ x. x.manifest) a.part.made.draft.fields;
          shape = ap manifest_name (ap manifest_fault text_is ∙ manifest_fault-text (rows_text k.rows) (map entry_of_row k.rows) (rows-manifest k a.part.made.view, refl));
        }
