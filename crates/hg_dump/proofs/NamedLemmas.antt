-- What a changeset names, as marks.
use Rattle.std.proofs.Common.{◌≡◌, ◌&&◌, ◌||◌, ◌⊎◌, inl, inr, Bool, true, false, true≢false, None, Some, List, [], ◌∷◌, ◌++◌, map, refl, sym, ap, subst, ◌∙◌}
use Rattle.std.specs.Prelude.{◌↔◌, bytes_eq, is_some}
use Rattle.std.specs.List.{list_any}
use Rattle.std.proofs.lemmas.Slice.Eq.{bytes_eq-Decides}
use Rattle.std.proofs.lemmas.Bool.{or_left, or_right}
use Rattle.text_model.specs.Lists.{SomeOf}
use Rattle.text_model.specs.Text.{Bytes}
use Rattle.text_model.specs.Id.{Id, null, is_null}
use Rattle.text_model.proofs.TestLemmas.{both, bytes_eq-self}
use Rattle.text_model.proofs.Options.{none_some, some_none, some_is, or_false}
use Rattle.hg_model.specs.Changeset.{Changeset, IsChangesetText}
use Rattle.hg_model.specs.Manifest.{ManifestEntry, IsManifestText}
use Rattle.hg_model.specs.Revision.{Group, Changesets, Manifests, FilesAt, Revision, same_group, knows}
use Rattle.hg_model.proofs.ChangesetLemmas.{one_changeset}
use Rattle.hg_model.proofs.ManifestLemmas.{one_manifest, manifest_text-none}
use Rattle.hg_store.specs.Known.{AreAdded, manifest_text_of}
use Rattle.hg_store.specs.Views.{IsChangesetOf, IsManifestOf}
use Rattle.view_model.specs.View.{ChangesetView, entry_of_row}
use Rattle.view_model.specs.Held.{IsChangesetHeld}
use Rattle.view_model.specs.Dump.{revisions_of}
use Rattle.hg_dump.specs.Marks.{Mark, mark_of, same_mark, manifest_marks, file_mark}
use Rattle.hg_dump.specs.Refers.{IsNamedBy, AreNamedBy}
use Rattle.hg_dump.proofs.HeldLemmas.{held-changeset, held-manifest, held-marks}
use Rattle.hg_dump.proofs.RefersLemmas.{any-knows}

-- a revision with this mark
abbrev pub of-mark : Mark → Revision
of-mark m = record { group = m.group; node = m.node; p = null; q = null; link = m.link; text = [] }

pub marks-of : (ms : List Mark) → map mark_of (map of-mark ms) ≡ ms
marks-of [] = refl
marks-of (m ∷ ms) = ap (λ (l : List Mark). m ∷ l) (marks-of ms)

-- ---- the lines

line-any : (path : Bytes) (n link : Id) (es : List ManifestEntry) → list_any (same_mark (record { group = FilesAt path; node = n; link = null })) (map (file_mark link) es) ≡ true → SomeOf es (λ e. (e.path ≡ path) × (e.node ≡ n))
line-any path n link [] h = absurd (true≢false (sym h))
line-any path n link (e ∷ es) h = by (bytes_eq path e.path && bytes_eq n e.node) refl (line-any path n link es)
  where
    by : (b : Bool) → (bytes_eq path e.path && bytes_eq n e.node) ≡ b
        → (list_any (same_mark (record { group = FilesAt path; node = n; link = null })) (map (file_mark link) es) ≡ true → SomeOf es (λ e. (e.path ≡ path) × (e.node ≡ n)))
        → SomeOf (e ∷ es) (λ e. (e.path ≡ path) × (e.node ≡ n))
    by true t later = let is = both (bytes_eq path e.path) (bytes_eq n e.node) t in inl (sym ((bytes_eq-Decides path e.path).0 is.0), sym ((bytes_eq-Decides n e.node).0 is.1))
    by false t later = inr (later (sym (rw t refl) ∙ h))

any-line : (path : Bytes) (n link : Id) (es : List ManifestEntry) → SomeOf es (λ e. (e.path ≡ path) × (e.node ≡ n)) → list_any (same_mark (record { group = FilesAt path; node = n; link = null })) (map (file_mark link) es) ≡ true
any-line path n link [] h = absurd h
any-line path n link (e ∷ es) (inl is) = or_left (bytes_eq path e.path && bytes_eq n e.node) _ (rw (is.0, is.1, bytes_eq-self path, bytes_eq-self n) refl)
any-line path n link (e ∷ es) (inr later) = or_right (bytes_eq path e.path && bytes_eq n e.node) _ (any-line path n link es later)

-- files have the group of no manifest
no-files : (group : Group) (n link : Id) (es : List ManifestEntry) → ((path : Bytes) → group ≡ FilesAt path → ⊥) → list_any (same_mark (record { group = group; node = n; link = null })) (map (file_mark link) es) ≡ false
no-files Changesets n link [] h = refl
no-files Changesets n link (e ∷ es) h = no-files Changesets n link es h
no-files Manifests n link [] h = refl
no-files Manifests n link (e ∷ es) h = no-files Manifests n link es h
no-files (FilesAt path) n link es h = absurd (h path refl)

-- ---- groups are apart

changesets-manifests : Changesets ≡ Manifests → ⊥
changesets-manifests e = cc

changesets-files : (path : Bytes) → Changesets ≡ FilesAt path → ⊥
changesets-files path e = cc

manifests-files : (path : Bytes) → Manifests ≡ FilesAt path → ⊥
manifests-files path e = cc

files-manifests : {path : Bytes} → FilesAt path ≡ Manifests → ⊥
files-manifests e = cc

same-path : (path other : Bytes) → FilesAt path ≡ FilesAt other → other ≡ path
same-path path other e = cc

-- ---- what is named

abbrev at : Group → Id → Mark
at group n = record { group = group; node = n; link = null }

by-marks : (known : List Revision) (node : Id) (ms : List Mark) → ((group : Group) (n : Id) → (list_any (same_mark (at group n)) ms ≡ true → IsNamedBy known node group n) × (IsNamedBy known node group n → list_any (same_mark (at group n)) ms ≡ true))
    → AreNamedBy known node (map of-mark ms)
by-marks known node ms are group n =
    let same = sym (any-knows group n null (map of-mark ms)) ∙ ap (list_any (same_mark (at group n))) (marks-of ms) in
    (λ h. (are group n).0 (sym same ∙ h), λ h. same ∙ (are group n).1 h)

pub none-named : (known : List Revision) (node : Id) → knows known Changesets node ≡ false → AreNamedBy known node []
none-named known node unknown group n = (λ h. absurd (true≢false (sym h)), λ h. absurd (true≢false (sym (ap is_some (h.changeset).is_held) ∙ unknown)))

module _ (known : List Revision) (node p q : Id) (x : Changeset) (of : IsChangesetOf known node p q x) where
  one-fields : (p' q' : Id) (y : Changeset) → IsChangesetOf known node p' q' y → y ≡ x
  one-fields p' q' y c = one_changeset (c.revision).text y x c.fields (subst (λ (r : Revision). IsChangesetText r.text x) (some_is (sym of.is_held ∙ c.is_held)) of.fields)

  one-entries : (es fs : List ManifestEntry) → IsManifestOf known x.manifest es → IsManifestOf known x.manifest fs → fs ≡ es
  one-entries es fs a b = one_manifest b.text fs es b.spells (subst (λ (t : Bytes). IsManifestText t es) (some_is (sym a.is_held ∙ b.is_held)) a.spells)

  abbrev Names : Group → Id → Changeset → Type 0
  Names group n y = ((group ≡ Manifests) × (n ≡ y.manifest))
      ⊎ ((path : Bytes) × (group ≡ FilesAt path) × (entries : List ManifestEntry) × IsManifestOf known y.manifest entries × SomeOf entries (λ e. (e.path ≡ path) × (e.node ≡ n)))

  names-of : (group : Group) (n : Id) → IsNamedBy known node group n → Names group n x
  names-of group n h = subst (Names group n) (one-fields h.p h.q h.fields h.changeset) h.names

  -- these are the lines of its manifest, or there are none since it isn't known
  module _ (es : List ManifestEntry) (held : (P : ManifestEntry → Type 0) → SomeOf es P → IsManifestOf known x.manifest es) (only : (fs : List ManifestEntry) → IsManifestOf known x.manifest fs → fs ≡ es) where
    abbrev lines : List Mark
    lines = map (file_mark node) es

    abbrev own : Mark
    own = record { group = Manifests; node = x.manifest; link = node }

    pub with-manifest : is_null x.manifest ≡ false → AreNamedBy known node (map of-mark (own ∷ lines))
    with-manifest some = by-marks known node (own ∷ lines) both-ways
      where
        not-null : x.manifest ≡ null → ⊥
        not-null e = true≢false (sym (ap is_null e ∙ bytes_eq-self null) ∙ some)

        both-ways : (group : Group) (n : Id) → (list_any (same_mark (at group n)) (own ∷ lines) ≡ true → IsNamedBy known node group n) × (IsNamedBy known node group n → list_any (same_mark (at group n)) (own ∷ lines) ≡ true)
        both-ways Changesets n =
            (λ h. absurd (true≢false (sym h ∙ no-files Changesets n node es (λ path e. changesets-files path e))), λ h. by (names-of Changesets n h))
          where
            by : Names Changesets n x → list_any (same_mark (at Changesets n)) (own ∷ lines) ≡ true
            by (inl m) = absurd (changesets-manifests m.0)
            by (inr f) = absurd (changesets-files f.0 f.1)
        both-ways Manifests n = (λ h. record { p = p; q = q; fields = x; changeset = of; some = not-null; names = inl (refl, there h) }, λ h. by (names-of Manifests n h))
          where
            there : (bytes_eq n x.manifest || list_any (same_mark (at Manifests n)) lines) ≡ true → n ≡ x.manifest
            there h =
                let none = no-files Manifests n node es (λ path e. manifests-files path e) in
                (bytes_eq-Decides n x.manifest).0 (sym (ap (λ (b : Bool). bytes_eq n x.manifest || b) none ∙ or_false (bytes_eq n x.manifest)) ∙ h)

            by : Names Manifests n x → list_any (same_mark (at Manifests n)) (own ∷ lines) ≡ true
            by (inl m) = or_left (bytes_eq n x.manifest) _ ((bytes_eq-Decides n x.manifest).1 m.1)
            by (inr f) = absurd (manifests-files f.0 f.1)
        both-ways (FilesAt path) n = (
          λ h. let some = line-any path n node es h in record { p = p; q = q; fields = x; changeset = of; some = not-null; names = inr (path, refl, es, held _ some, some) },
          λ h. by (names-of (FilesAt path) n h),
        )
          where
            by : Names (FilesAt path) n x → list_any (same_mark (at (FilesAt path) n)) (own ∷ lines) ≡ true
            by (inl m) = absurd (files-manifests m.0)
            by (inr (other, same, fs, is, some)) =
                any-line path n node es (subst (λ (gs : List ManifestEntry). SomeOf gs (λ e. (e.path ≡ path) × (e.node ≡ n))) (only fs is) (subst (λ (t : Bytes). SomeOf fs (λ e. (e.path ≡ t) × (e.node ≡ n))) (same-path path other same) some))

    -- the null id is that of no manifest
    pub without-manifest : is_null x.manifest ≡ true → es ≡ [] → AreNamedBy known node (map of-mark lines)
    without-manifest none empty = by-marks known node lines (λ group n. (
      λ h. absurd (true≢false (sym h ∙ ap (λ (l : List ManifestEntry). list_any (same_mark (at group n)) (map (file_mark node) l)) empty)),
      λ h. absurd (h.some (ap (λ (y : Changeset). y.manifest) (one-fields h.p h.q h.fields h.changeset) ∙ (bytes_eq-Decides x.manifest null).0 none)),
    ))

  -- its manifest isn't known
  pub names-unknown : manifest_text_of known x.manifest ≡ None → AreNamedBy known node (map of-mark (manifest_marks node x.manifest))
  names-unknown unknown = by (is_null x.manifest) refl
    where
      by : (b : Bool) → is_null x.manifest ≡ b → AreNamedBy known node (map of-mark (manifest_marks node x.manifest))
      by true e = let empty : manifest_text_of known x.manifest ≡ Some [] = rw e refl in absurd (some_none (sym empty ∙ unknown))
      by false e = rw e (with-manifest [] (λ P some. absurd some) (λ fs is. absurd (none_some (sym unknown ∙ is.is_held))) e)

  -- it is known
  pub names-known : (es : List ManifestEntry) → IsManifestOf known x.manifest es → AreNamedBy known node (map of-mark (manifest_marks node x.manifest ++ map (file_mark node) es))
  names-known es is = by (is_null x.manifest) refl
    where
      only : (fs : List ManifestEntry) → IsManifestOf known x.manifest fs → fs ≡ es
      only fs other = one-entries es fs is other

      by : (b : Bool) → is_null x.manifest ≡ b → AreNamedBy known node (map of-mark (manifest_marks node x.manifest ++ map (file_mark node) es))
      by true e =
          let text : is.text ≡ [] = some_is (sym is.is_held ∙ rw e refl) in
          rw e (without-manifest es (λ P some. is) only e (one_manifest [] es [] (subst (λ (t : Bytes). IsManifestText t es) text is.spells) ((tt, refl), sym manifest_text-none)))
      by false e = rw e (with-manifest es (λ P some. is) only e)

-- a changeset that is held names just its revisions but itself
pub held-named : (known : List Revision) → AreAdded known → (node : Id) (h : ChangesetView) → IsChangesetHeld known node h → (group : Group) (n : Id) → same_group group Changesets ≡ false
    → (knows (revisions_of h) group n ≡ true) ↔ IsNamedBy known node group n
held-named known added node h held group n other = (λ e. names.0 (sym same ∙ e), λ is. same ∙ names.1 is)
  where
    changeset : IsChangesetOf known node h.p h.q h.fields
    changeset = held-changeset known added node h held

    manifest : IsManifestOf known (h.fields).manifest (map entry_of_row h.rows)
    manifest = held-manifest known added node h held

    marks : List Mark
    marks = manifest_marks node (h.fields).manifest ++ map (file_mark node) (map entry_of_row h.rows)

    names : (knows (map of-mark marks) group n ≡ true) ↔ IsNamedBy known node group n
    names = names-known known node h.p h.q h.fields changeset (map entry_of_row h.rows) manifest group n

    same : knows (revisions_of h) group n ≡ knows (map of-mark marks) group n
    same =
        sym (any-knows group n null (revisions_of h))
        ∙ ap (list_any (same_mark (at group n))) (held-marks known added node h held h.p h.q h.fields (map entry_of_row h.rows) changeset manifest)
        ∙ ap (λ (b : Bool). (b && bytes_eq n node) || list_any (same_mark (at group n)) marks) other
        ∙ sym (sym (any-knows group n null (map of-mark marks)) ∙ ap (list_any (same_mark (at group n))) (marks-of marks))
