-- To which revisions a known changeset refers: just to those that it names.
use Rattle.std.proofs.Common.{◌≡◌, ◌||◌, ◌⊎◌, Bool, true, false, true≢false, List, [], ◌∷◌, ◌++◌, map, Option, Some, None, inl, inr, refl, sym, ap, subst, ◌∙◌, append_assoc}
use Rattle.std.specs.Prelude.{bytes_eq, is_some, option_map}
use Rattle.std.proofs.lemmas.Bool.{or_left, or_right}
use Rattle.std.proofs.lemmas.Slice.Eq.{bytes_eq-Decides}
use Rattle.text_model.specs.Lists.{In, SomeOf}
use Rattle.text_model.specs.Text.{Bytes}
use Rattle.text_model.specs.Id.{Id, null, is_null}
use Rattle.text_model.proofs.Options.{none_some, some_is}
use Rattle.text_model.proofs.TestLemmas.{both}
use Rattle.hg_model.specs.Manifest.{ManifestEntry, IsManifestText}
use Rattle.hg_model.specs.Revision.{Group, Changesets, Manifests, FilesAt, Revision, is_of, same_group, revision_of, knows}
use Rattle.hg_model.proofs.RevisionLemmas.{is_of-self, same_group-is}
use Rattle.hg_store.specs.Known.{AreAddedTo, AreAdded}
use Rattle.hg_store.specs.Views.{IsManifestOf}
use Rattle.view_model.specs.View.{ChangesetView, changeset_node}
use Rattle.view_model.specs.Held.{IsChangesetHeld, AreChangesetsHeld}
use Rattle.view_model.specs.Dump.{revisions_of, revisions_in}
use Rattle.pair_model.specs.Block.{view_at}
use Rattle.history_model.specs.Pull.{RefersTo, is_changesets}
use Rattle.hg_dump.specs.Refers.{IsNamedBy}
use Rattle.pair_state.proofs.CameLemmas.{find-front}
use Rattle.pair_state.proofs.ChangesetHeld.{found-of}
use Rattle.pair_state.proofs.Refers.{knows-append}
use Rattle.pull_bundle.proofs.FirstThat.{some-in}
use Rattle.pull_bundle.proofs.Known.{revision-last}

-- ---- a known revision is found

found_there : (known rs : List Revision) (c : Revision) → AreAddedTo known rs → In c rs → revision_of (known ++ rs) c.group c.node ≡ Some c
found_there known [] c added i = absurd i
found_there known (r ∷ rs) c added (inl e) =
    subst (λ (l : List Revision). revision_of l c.group c.node ≡ Some c) (append_assoc known (r ∷ []) rs)
    (find-front (known ++ r ∷ []) rs c.group c.node c
    (subst (λ (x : Revision). revision_of (known ++ x ∷ []) c.group c.node ≡ Some c) e
    (revision-last known c.group c.node c (subst (λ (x : Revision). knows known x.group x.node ≡ false) (sym e) (added.0).fresh) (is_of-self c))))
found_there known (r ∷ rs) c added (inr i) =
    subst (λ (l : List Revision). revision_of l c.group c.node ≡ Some c) (append_assoc known (r ∷ []) rs) (found_there (known ++ r ∷ []) rs c added.1 i)

pub known-found : (known : List Revision) (c : Revision) → AreAdded known → In c known → revision_of known c.group c.node ≡ Some c
known-found known c added i = found_there [] known c added i

-- ---- names

pub group-other : (group : Group) → is_changesets group ≡ false → same_group group Changesets ≡ false
group-other Changesets h = absurd (true≢false h)
group-other Manifests h = refl
group-other (FilesAt path) h = refl

-- the revision that a manifest is, where its node isn't null
manifest-at : (known : List Revision) (node : Id) (entries : List ManifestEntry) → (node ≡ null → ⊥) → IsManifestOf known node entries
    → (m : Revision) × (revision_of known Manifests node ≡ Some m) × IsManifestText m.text entries
manifest-at known node entries some is = by (is_null node) refl
  where
    at : (o : Option Revision) → revision_of known Manifests node ≡ o → option_map (λ (r : Revision). r.text) o ≡ Some is.text → (m : Revision) × (revision_of known Manifests node ≡ Some m) × IsManifestText m.text entries
    at None e t = absurd (none_some t)
    at (Some m) e t = (m, e, subst (λ (x : Bytes). IsManifestText x entries) (sym (some_is t)) is.spells)

    by : (b : Bool) → is_null node ≡ b → (m : Revision) × (revision_of known Manifests node ≡ Some m) × IsManifestText m.text entries
    by true e = absurd (some ((bytes_eq-Decides node null).0 e))
    by false e =
        let text : option_map (λ (r : Revision). r.text) (revision_of known Manifests node) ≡ Some is.text = sym (rw e refl) ∙ is.is_held in
        at (revision_of known Manifests node) refl text

at-manifest : (known : List Revision) (node : Id) (entries : List ManifestEntry) → (node ≡ null → ⊥) → (m : Revision) → revision_of known Manifests node ≡ Some m → IsManifestText m.text entries → IsManifestOf known node entries
at-manifest known node entries some m at text = by (is_null node) refl
  where
    by : (b : Bool) → is_null node ≡ b → IsManifestOf known node entries
    by true e = absurd (some ((bytes_eq-Decides node null).0 e))
    by false e = record { text = m.text; is_held = rw e (ap (option_map (λ (r : Revision). r.text)) at); spells = text }

-- a revision that a known changeset names, and one to which it refers
pub named-refers : (known : List Revision) (node : Id) (r : Revision) → IsNamedBy known node r.group r.node → SomeOf known (λ c. RefersTo known c r)
named-refers known node r h =
    let c = (h.changeset).revision in
    let there = found-of (is_of Changesets node) known c (h.changeset).is_held in
    let parts = both (same_group Changesets c.group) (bytes_eq node c.node) there.1 in
    some-in (λ c. RefersTo known c r) known c there.0 (record { changeset = sym (same_group-is Changesets c.group parts.0); fields = h.fields; text = (h.changeset).fields; some = h.some; refers = by h.names })
  where
    by : ((r.group ≡ Manifests) × (r.node ≡ (h.fields).manifest)) ⊎ ((path : Bytes) × (r.group ≡ FilesAt path) × (entries : List ManifestEntry) × IsManifestOf known (h.fields).manifest entries × SomeOf entries (λ e. (e.path ≡ path) × (e.node ≡ r.node)))
        → ((r.group ≡ Manifests) × (r.node ≡ (h.fields).manifest)) ⊎ ((path : Bytes) × (r.group ≡ FilesAt path) × (m : Revision) × (revision_of known Manifests (h.fields).manifest ≡ Some m) × (entries : List ManifestEntry) × IsManifestText m.text entries
        × SomeOf entries (λ e. (e.path ≡ path) × (e.node ≡ r.node)))
    by (inl m) = inl m
    by (inr (path, group, entries, is, some)) = let at = manifest-at known (h.fields).manifest entries h.some is in inr (path, group, at.0, at.1, entries, at.2, some)

pub refers-named : (known : List Revision) → AreAdded known → (c r : Revision) → In c known → RefersTo known c r → IsNamedBy known c.node r.group r.node
refers-named known added c r i h = record {
  p = c.p;
  q = c.q;
  fields = h.fields;
  changeset = record { revision = c; is_held = subst (λ (g : Group). revision_of known g c.node ≡ Some c) h.changeset (known-found known c added i); first = refl; second = refl; fields = h.text };
  some = h.some;
  names = by h.refers;
}
  where
    by : ((r.group ≡ Manifests) × (r.node ≡ (h.fields).manifest)) ⊎ ((path : Bytes) × (r.group ≡ FilesAt path) × (m : Revision) × (revision_of known Manifests (h.fields).manifest ≡ Some m) × (entries : List ManifestEntry) × IsManifestText m.text entries
        × SomeOf entries (λ e. (e.path ≡ path) × (e.node ≡ r.node)))
        → ((r.group ≡ Manifests) × (r.node ≡ (h.fields).manifest)) ⊎ ((path : Bytes) × (r.group ≡ FilesAt path) × (entries : List ManifestEntry) × IsManifestOf known (h.fields).manifest entries × SomeOf entries (λ e. (e.path ≡ path) × (e.node ≡ r.node)))
    by (inl m) = inl m
    by (inr (path, group, m, at, entries, text, some)) = inr (path, group, entries, at-manifest known (h.fields).manifest entries h.some m at text, some)

-- ---- changesets that are held

-- one of the changesets has the revision that they know
pub view-of : (known : List Revision) (nodes : List Id) (vs : List ChangesetView) → AreChangesetsHeld known nodes vs → (group : Group) (n : Id) → knows (revisions_in vs) group n ≡ true
    → (node : Id) × (v : ChangesetView) × IsChangesetHeld known node v × (knows (revisions_of v) group n ≡ true)
view-of known nodes [] held group n h = absurd (true≢false (sym h))
view-of known [] (v ∷ vs) held group n h = absurd held
view-of known (node ∷ nodes) (v ∷ vs) held group n h = by (knows (revisions_of v) group n) refl (view-of known nodes vs held.1 group n)
  where
    by : (b : Bool) → knows (revisions_of v) group n ≡ b → (knows (revisions_in vs) group n ≡ true → (node : Id) × (v : ChangesetView) × IsChangesetHeld known node v × (knows (revisions_of v) group n ≡ true))
        → (node : Id) × (v : ChangesetView) × IsChangesetHeld known node v × (knows (revisions_of v) group n ≡ true)
    by true e later = (node, v, held.0, e)
    by false e later = later (sym (knows-append (revisions_of v) (revisions_in vs) group n ∙ ap (λ (b : Bool). b || knows (revisions_in vs) group n) e) ∙ h)

-- a changeset that stands among those that are held, to whose revisions they refer
pub record StandsThere (known : List Revision) (vs : List ChangesetView) (node : Id) : Type 0 where
  pub view : ChangesetView
  pub held : IsChangesetHeld known node view
  pub within : (group : Group) (n : Id) → knows (revisions_of view) group n ≡ true → knows (revisions_in vs) group n ≡ true

pub stands-there : (known : List Revision) (vs : List ChangesetView) (node : Id) → AreChangesetsHeld known (map changeset_node vs) vs → is_some (view_at vs node) ≡ true → StandsThere known vs node
stands-there known [] node held h = absurd (true≢false (sym h))
stands-there known (v ∷ vs) node held h = by (bytes_eq (changeset_node v) node) refl (stands-there known vs node held.1)
  where
    by : (b : Bool) → bytes_eq (changeset_node v) node ≡ b → (is_some (view_at vs node) ≡ true → StandsThere known vs node) → StandsThere known (v ∷ vs) node
    by true e later = record {
      view = v;
      held = subst (λ (n : Id). IsChangesetHeld known n v) ((bytes_eq-Decides (changeset_node v) node).0 e) held.0;
      within = λ group n k. knows-append (revisions_of v) (revisions_in vs) group n ∙ or_left (knows (revisions_of v) group n) _ k;
    }
    by false e later =
        let rest = later (sym (rw e refl) ∙ h) in record {
          view = rest.view;
          held = rest.held;
          within = λ group n k. knows-append (revisions_of v) (revisions_in vs) group n ∙ or_right (knows (revisions_of v) group n) _ (rest.within group n k);
        }
