-- What a known changeset lacks, as the store says it, and what one that is held doesn't lack.
use Rattle.std.proofs.Common.{◌≡◌, ◌≢◌, ◌<◌, ℕ, zero, suc, inl, inr, Bool, true, false, true≢false, not, List, [], ◌∷◌, length, map, get_or, Option, Some, None, refl, sym, ap, subst, ◌∙◌, arith}
use Rattle.std.specs.Prelude.{is_some}
use Rattle.std.proofs.lemmas.List.Quantifiers.{position-Some}
use Rattle.std.proofs.lemmas.Slice.Eq.{bytes_eq-Decides}
use Rattle.text_model.specs.Lists.{Each, SomeOf}
use Rattle.text_model.specs.Text.{Bytes}
use Rattle.text_model.specs.Id.{Id, null, is_null}
use Rattle.text_model.specs.Fault as fault
use Rattle.text_model.proofs.Options.{none_some, some_is}
use Rattle.hg_model.specs.Changeset.{Changeset, IsChangesetText}
use Rattle.hg_model.specs.Manifest.{ManifestEntry, IsManifestText}
use Rattle.hg_model.specs.Revision.{Revision, Changesets, Manifests, FilesAt, revision_of, knows}
use Rattle.hg_model.proofs.ChangesetLemmas.{one_changeset}
use Rattle.hg_model.proofs.ManifestLemmas.{one_manifest, manifest_text-none}
use Rattle.hg_store.specs.Known.{manifest_text_of}
use Rattle.hg_store.specs.Views as store
use Rattle.hg_store.specs.Views.{is_unknown, first_unknown}
use Rattle.view_model.specs.View.{Row, ChangesetView, ManifestParents, NoManifest, Over, entry_of_row}
use Rattle.view_model.specs.Held.{IsFileHeld, IsManifestHeld, IsChangesetHeld}
use Rattle.history_model.specs.Pull.{LacksManifest, LacksFile}
use Rattle.pull_bundle.specs.Faults.{ViewLacks}

not_null : (node : Id) → node ≢ null → is_null node ≡ false
not_null node some = by (is_null node) refl
  where
    by : (t : Bool) → is_null node ≡ t → is_null node ≡ false
    by true e = absurd (some ((bytes_eq-Decides node null).0 e))
    by false e = e

null_is : (node : Id) → node ≡ null → is_null node ≡ true
null_is node e = (bytes_eq-Decides node null).1 e

-- an entry at a place that passes a test
some_at : (known : List Revision) (es : List ManifestEntry) (i : ℕ) (d : ManifestEntry) → i < length es → is_unknown known (get_or es i d) ≡ true → SomeOf es (λ e. knows known (FilesAt e.path) e.node ≡ false)
some_at known [] i d lt h = absurd (omega (arith, lt))
some_at known (e ∷ es) zero d lt h = inl (not_true (knows known (FilesAt e.path) e.node) h)
  where
    not_true : (b : Bool) → not b ≡ true → b ≡ false
    not_true true h = absurd (true≢false (sym h))
    not_true false h = refl
some_at known (e ∷ es) (suc i) d lt h = inr (some_at known es i d (omega (arith, lt)) h)

some-unknown : (known : List Revision) (es : List ManifestEntry) (line : ℕ) → first_unknown known es ≡ Some line → SomeOf es (λ e. knows known (FilesAt e.path) e.node ≡ false)
some-unknown known [] line h = absurd (none_some h)
some-unknown known (e ∷ es) line h = let p = position-Some (is_unknown known) (e ∷ es) line e h in some_at known (e ∷ es) line e p.0 p.1

-- a manifest with some unknown entry isn't the null one
has-node : (known : List Revision) (node : Id) (es : List ManifestEntry) (line : ℕ) → store.IsManifestOf known node es → first_unknown known es ≡ Some line → node ≢ null
has-node known node es line of first e =
    let text : of.text ≡ [] = some_is (sym of.is_held ∙ rw (null_is node e) refl) in
    let empty : es ≡ [] = one_manifest [] es [] (subst (λ (t : Bytes). IsManifestText t es) text of.spells) ((tt, refl), sym manifest_text-none) in
    none_some (ap (first_unknown known) (sym empty) ∙ first)

record IsThere (known : List Revision) (node : Id) (text : Bytes) : Type 0 where
  manifest : Revision
  is_held : revision_of known Manifests node ≡ Some manifest
  text_is : manifest.text ≡ text

there : (known : List Revision) (node : Id) (text : Bytes) → is_null node ≡ false → manifest_text_of known node ≡ Some text → IsThere known node text
there known node text some at = by (revision_of known Manifests node) refl
  where
    by : (o : Option Revision) → revision_of known Manifests node ≡ o → IsThere known node text
    by None e = absurd (none_some (sym (rw (some, e) refl) ∙ at))
    by (Some r) e = record { manifest = r; is_held = e; text_is = some_is (sym (rw (some, e) refl) ∙ at) }

module _ (known : List Revision) (node : Id) (r : Revision) (at : revision_of known Changesets node ≡ Some r) where
  text-of : {p q : Id} {x : Changeset} → store.IsChangesetOf known node p q x → IsChangesetText r.text x
  text-of {x = x} c = subst (λ (s : Revision). IsChangesetText s.text x) (some_is (sym c.is_held ∙ at)) c.fields

  pub file-lacks : (line : ℕ) → store.LacksFile known node line → ViewLacks known r fault.FileUnknown
  file-lacks line f =
      let text = text-of f.changeset in
      let some = has-node known (f.fields).manifest f.entries line f.manifest f.first in
      let is = there known (f.fields).manifest (f.manifest).text (not_null (f.fields).manifest some) (f.manifest).is_held in
      inr (
        (λ l. true≢false (sym (ap (λ (x : Changeset). knows known Manifests x.manifest) (one_changeset r.text l.fields f.fields l.text text) ∙ ap is_some is.is_held) ∙ l.unknown)),
        inl (
          record {
            fields = f.fields;
            text = text;
            some = some;
            manifest = is.manifest;
            is_held = is.is_held;
            entries = f.entries;
            lines = subst (λ (t : Bytes). IsManifestText t f.entries) (sym is.text_is) (f.manifest).spells;
            unknown = some-unknown known f.entries line f.first;
          },
          refl,
        ),
      )

-- ---- a changeset that is held lacks nothing

all-there : (known : List Revision) (rows : List Row) → Each (IsFileHeld known) rows → SomeOf (map entry_of_row rows) (λ e. knows known (FilesAt e.path) e.node ≡ false) → ⊥
all-there known [] h s = s
all-there known (row ∷ rows) h s = elim s [
  | inl e ↦ true≢false (sym (ap is_some h.0.is_held) ∙ e)
  | inr later ↦ all-there known rows h.1 later
]

module _ (known : List Revision) (node : Id) (r : Revision) (h : ChangesetView) (held : IsChangesetHeld known node h) (at : revision_of known Changesets node ≡ Some r) where
  same_fields : (x : Changeset) → IsChangesetText r.text x → x ≡ h.fields
  same_fields x text = one_changeset r.text x h.fields text (subst (λ (s : Revision). IsChangesetText s.text h.fields) (some_is (sym held.is_held ∙ at)) held.fields)

  pub no-manifest_lacks : LacksManifest known r → ⊥
  no-manifest_lacks l = by h.manifest h.rows (subst (λ (x : Changeset). IsManifestHeld known x.manifest h.manifest h.rows) (sym same) held.manifest)
    where
      same : l.fields ≡ h.fields
      same = same_fields l.fields l.text

      by : (m : ManifestParents) (rows : List Row) → IsManifestHeld known (l.fields).manifest m rows → ⊥
      by NoManifest rows k = l.some k.0
      by (Over p q) rows k = true≢false (sym (ap is_some k.is_held) ∙ l.unknown)

  pub no-file_lacks : LacksFile known r → ⊥
  no-file_lacks l = by h.manifest h.rows (subst (λ (x : Changeset). IsManifestHeld known x.manifest h.manifest h.rows) (sym same) held.manifest) held.files
    where
      same : l.fields ≡ h.fields
      same = same_fields l.fields l.text

      by : (m : ManifestParents) (rows : List Row) → IsManifestHeld known (l.fields).manifest m rows → Each (IsFileHeld known) rows → ⊥
      by NoManifest rows k files = l.some k.0
      by (Over p q) rows k files =
          let manifest : k.revision ≡ l.manifest = some_is (sym k.is_held ∙ l.is_held) in
          let entries : l.entries ≡ map entry_of_row rows = one_manifest (l.manifest).text l.entries (map entry_of_row rows) l.lines (subst (λ (s : Revision). IsManifestText s.text (map entry_of_row rows)) manifest k.text) in
          all-there known rows files (subst (λ (es : List ManifestEntry). SomeOf es (λ e. knows known (FilesAt e.path) e.node ≡ false)) entries l.unknown)
