-- What is known after a bundle that was written is read: all to which its changesets refer, and they say the same.
use Rattle.std.proofs.Common.{◌≡◌, ◌⊎◌, ◌&&◌, ◌||◌, inl, inr, Bool, true, false, true≢false, List, [], ◌∷◌, ◌++◌, map, Option, Some, None, refl, sym, ap, subst, ◌∙◌}
use Rattle.std.specs.Prelude.{bytes_eq, is_some, if◌then◌else◌}
use Rattle.std.specs.List.{flat_map, filter_map}
use Rattle.std.proofs.lemmas.Slice.Eq.{bytes_eq-Decides}
use Rattle.std.proofs.lemmas.Bool.{or_cases, or_left, or_right}
use Rattle.text_model.specs.Lists.{Each, first_of_each}
use Rattle.text_model.specs.Text.{Bytes}
use Rattle.text_model.specs.Id.{Id}
use Rattle.text_model.proofs.TestLemmas.{both, bytes_eq-self}
use Rattle.text_model.proofs.Options.{none_some, some_is}
use Rattle.hg_model.proofs.ParentOrder.{file_order-turned, manifest_order-turned}
use Rattle.hg_model.specs.Changeset.{IsChangesetText}
use Rattle.hg_model.specs.Manifest.{IsManifestText}
use Rattle.hg_model.specs.FileText.{IsFileText, manifest_order, file_order}
use Rattle.hg_model.specs.Revision.{Group, Changesets, Manifests, FilesAt, Revision, is_of, revision_of, knows, known_after, same_group, same_parents, known_after_all}
use Rattle.hg_store.specs.Known.{AreAdded}
use Rattle.view_model.specs.View.{Row, ManifestParents, NoManifest, Over, ChangesetView, changeset_node, entry_of_row, file_node}
use Rattle.view_model.specs.Held.{IsFileHeld, IsManifestHeld, IsChangesetHeld, AreChangesetsHeld}
use Rattle.view_model.specs.Dump.{manifest_revision, file_revision, revisions_of, revisions_in, of_group, path_of_group, paths_in}
use Rattle.hg_dump.proofs.HeldLemmas.{node-is}
use Rattle.path_law.proofs.Order.{has, has-in_order, has-first}
use Rattle.hg_dump_law.specs.Taken.{IsOneOf, in_bundle_order}
use Rattle.hg_dump_law.proofs.Known.{IsKnown, HoldsIn, Holds, is_of-is, knows-cons, holds-left, holds-right, holds-each, each-known, holds-after_all, knows-after}
use Rattle.hg_dump_law.proofs.Written.{IsSamePair, pair-is}

-- ---- all that was written is known

pub all-after : (known rs : List Revision) → Holds rs (known_after_all known rs)
all-after known [] = λ group node h. absurd (true≢false (sym h))
all-after known (r ∷ rs) = holds-each (r ∷ rs) (known_after_all (known_after known r) rs)
    (holds-after_all (known_after known r) rs r.group r.node (knows-after known r), each-known rs (known_after_all (known_after known r) rs) (all-after (known_after known r) rs))

group-has : (group : Group) (rs : List Revision) → HoldsIn group rs (of_group group rs)
group-has group [] node h = h
group-has group (r ∷ rs) node h = by (same_group group r.group) refl (or_cases (is_of group node r) (knows rs group node) (sym (knows-cons r rs group node) ∙ h)) (group-has group rs node)
  where
    by : (b : Bool) → same_group group r.group ≡ b → ((is_of group node r ≡ true) ⊎ (knows rs group node ≡ true)) → (knows rs group node ≡ true → IsKnown (of_group group rs) group node)
        → IsKnown (of_group group (r ∷ rs)) group node
    by true e (inl a) later = rw e (knows-cons r (of_group group rs) group node ∙ or_left (is_of group node r) (knows (of_group group rs) group node) a)
    by true e (inr b) later = rw e (knows-cons r (of_group group rs) group node ∙ or_right (is_of group node r) (knows (of_group group rs) group node) (later b))
    by false e (inl a) later = absurd (true≢false (sym (both (same_group group r.group) (bytes_eq node r.node) a).0 ∙ e))
    by false e (inr b) later = rw e (later b)

-- the path of one that is written is among the paths
path-among : (rs : List Revision) (p : Bytes) (node : Id) → IsKnown rs (FilesAt p) node → has (filter_map (λ r. path_of_group r.group) rs) p ≡ true
path-among [] p node h = absurd (true≢false (sym h))
path-among (r ∷ rs) p node h = by (or_cases (is_of (FilesAt p) node r) (knows rs (FilesAt p) node) (sym (knows-cons r rs (FilesAt p) node) ∙ h)) (path-among rs p node)
  where
    later-path : (g : Group) → r.group ≡ g → has (filter_map (λ r. path_of_group r.group) rs) p ≡ true → has (filter_map (λ r. path_of_group r.group) (r ∷ rs)) p ≡ true
    later-path Changesets e rest = rw e rest
    later-path Manifests e rest = rw e rest
    later-path (FilesAt q) e rest = rw e (or_right (bytes_eq p q) (has (filter_map (λ r. path_of_group r.group) rs) p) rest)

    by : ((is_of (FilesAt p) node r ≡ true) ⊎ (knows rs (FilesAt p) node ≡ true)) → (IsKnown rs (FilesAt p) node → has (filter_map (λ r. path_of_group r.group) rs) p ≡ true)
        → has (filter_map (λ r. path_of_group r.group) (r ∷ rs)) p ≡ true
    by (inl a) later = let is = is_of-is (FilesAt p) node r a in rw (sym is.group_is) (or_left (bytes_eq p p) (has (filter_map (λ r. path_of_group r.group) rs) p) (bytes_eq-self p))
    by (inr b) later = later-path r.group refl (later b)

path-in : (rs : List Revision) (p : Bytes) (node : Id) → IsKnown rs (FilesAt p) node → has (paths_in rs) p ≡ true
unfolding paths_in
path-in rs p node h =
    let paths = filter_map (λ r. path_of_group r.group) rs in
    has-in_order p (first_of_each bytes_eq paths) ∙ has-first p paths ∙ path-among rs p node h

file-has : (rs : List Revision) (paths : List Bytes) (p : Bytes) (node : Id) → has paths p ≡ true → IsKnown rs (FilesAt p) node → IsKnown (flat_map (λ path. of_group (FilesAt path) rs) paths) (FilesAt p) node
file-has rs [] p node at h = absurd (true≢false (sym at))
file-has rs (q ∷ qs) p node at h = by (or_cases (bytes_eq p q) (has qs p) at) (λ e. file-has rs qs p node e h)
  where
    by : ((bytes_eq p q ≡ true) ⊎ (has qs p ≡ true)) → (has qs p ≡ true → IsKnown (flat_map (λ path. of_group (FilesAt path) rs) qs) (FilesAt p) node)
        → IsKnown (of_group (FilesAt q) rs ++ flat_map (λ path. of_group (FilesAt path) rs) qs) (FilesAt p) node
    by (inl a) later =
        holds-left (of_group (FilesAt q) rs) (flat_map (λ path. of_group (FilesAt path) rs) qs) (FilesAt p) node
        (subst (λ (x : Bytes). IsKnown (of_group (FilesAt x) rs) (FilesAt p) node) ((bytes_eq-Decides p q).0 a) (group-has (FilesAt p) rs node h))
    by (inr b) later = holds-right (of_group (FilesAt q) rs) (flat_map (λ path. of_group (FilesAt path) rs) qs) (FilesAt p) node (later b)

pub order-holds : (rs : List Revision) → Holds rs (in_bundle_order rs)
unfolding in_bundle_order
order-holds rs Changesets node h = holds-left (of_group Changesets rs) _ Changesets node (group-has Changesets rs node h)
order-holds rs Manifests node h = holds-right (of_group Changesets rs) _ Manifests node (holds-left (of_group Manifests rs) _ Manifests node (group-has Manifests rs node h))
order-holds rs (FilesAt p) node h =
    holds-right (of_group Changesets rs) _ (FilesAt p) node (holds-right (of_group Manifests rs) _ (FilesAt p) node (file-has rs (paths_in rs) p node (path-in rs p node h) h))

-- ---- changesets of both

-- the same pair in either order has one canonical order
pair-order : (f : Id → Id → Id × Id) → ((p q : Id) → f p q ≡ f q p) → (a b c d : Id) → IsSamePair a b c d → f c d ≡ f a b
pair-order f one a b c d (inl e) = (λ i. f (sym e.0 i) (sym e.1 i))
pair-order f one a b c d (inr e) = one c d ∙ (λ i. f (sym e.0 i) (sym e.1 i))

each-front : (P : Revision → Type 0) (xs ys : List Revision) → Each P (xs ++ ys) → Each P xs
each-front P [] ys h = tt
each-front P (x ∷ xs) ys h = (h.0, each-front P xs ys h.1)

each-rest : (P : Revision → Type 0) (xs ys : List Revision) → Each P (xs ++ ys) → Each P ys
each-rest P [] ys h = h
each-rest P (x ∷ xs) ys h = each-rest P xs ys h.1

module _ (known base : List Revision) (added : AreAdded known) (are : Each (IsOneOf known) base) where
  abbrev IsAlike : Group → Revision → Revision → Type 0
  IsAlike group k r = (r.text ≡ k.text) × (same_parents group r.p r.q k.p k.q ≡ true)

  alike-in : (xs : List Revision) (group : Group) (node : Id) (k r : Revision) → Each (IsOneOf known) xs → revision_of known group node ≡ Some k → revision_of xs group node ≡ Some r → IsAlike group k r
  alike-in [] group node k r each held at = absurd (none_some at)
  alike-in (x ∷ xs) group node k r each held at = by (is_of group node x) refl (λ e. alike-in xs group node k r each.1 held e)
    where
      by : (b : Bool) → is_of group node x ≡ b → (revision_of xs group node ≡ Some r → IsAlike group k r) → IsAlike group k r
      by false t later = later (sym (rw t refl) ∙ at)
      by true t later =
          let same : r ≡ x = sym (some_is (sym (rw t refl) ∙ at)) in
          let is = is_of-is group node x t in
          let one : k ≡ (each.0).revision = some_is (sym held ∙ (λ i. revision_of known (is.group_is i) (is.node_is i)) ∙ (each.0).is_held) in (
            ap (λ (s : Revision). s.text) same ∙ (each.0).text ∙ ap (λ (s : Revision). s.text) (sym one),
            (λ i. same_parents (is.group_is i) (same i).p (same i).q (one i).p (one i).q) ∙ (each.0).parents,
          )

  record Alike (group : Group) (node : Id) (k : Revision) : Type 0 where
    pub revision : Revision
    pub is_held : revision_of base group node ≡ Some revision
    pub is : IsAlike group k revision

  alike : (group : Group) (node : Id) (k : Revision) → revision_of known group node ≡ Some k → IsKnown base group node → Alike group node k
  alike group node k held some = by (revision_of base group node) refl some
    where
      by : (o : Option Revision) → revision_of base group node ≡ o → is_some o ≡ true → Alike group node k
      by None at e = absurd (true≢false (sym e))
      by (Some r) at e = record { revision = r; is_held = at; is = alike-in base group node k r are held at }

  manifest-same : (h : ChangesetView) (m : ManifestParents) → Each (λ r. IsKnown base r.group r.node) (manifest_revision h m) → IsManifestHeld known (h.fields).manifest m h.rows
      → IsManifestHeld base (h.fields).manifest m h.rows
  manifest-same h NoManifest all is = is
  manifest-same h (Over p q) all is =
      let k = is.revision in
      let a = alike Manifests (h.fields).manifest k is.is_held all.0 in
      record {
        revision = a.revision;
        is_held = a.is_held;
        parents = is.parents ∙ pair-order manifest_order manifest_order-turned (a.revision).p (a.revision).q k.p k.q (pair-is (a.revision).p (a.revision).q k.p k.q a.is.1);
        text = subst (λ (t : Bytes). IsManifestText t (map entry_of_row h.rows)) (sym a.is.0) is.text;
      }

  rows-same : (link : Id) (rows : List Row) → Each (λ r. IsKnown base r.group r.node) (map (file_revision link) rows) → Each (IsFileHeld known) rows → Each (IsFileHeld base) rows
  rows-same link [] all is = tt
  rows-same link (row ∷ rows) all is =
      let k = (is.0).revision in
      let a = alike (FilesAt row.path) (file_node row.revision) k (is.0).is_held all.0 in
      let meta = (row.revision).meta in (
        record {
          revision = a.revision;
          is_held = a.is_held;
          parents = (is.0).parents ∙ pair-order (file_order meta) (file_order-turned meta) (a.revision).p (a.revision).q k.p k.q (pair-is (a.revision).p (a.revision).q k.p k.q a.is.1);
          text = subst (λ (t : Bytes). IsFileText t meta (row.revision).body) (sym a.is.0) (is.0).text;
        },
        rows-same link rows all.1 is.1,
      )

  view-same : (node : Id) (h : ChangesetView) → Each (λ r. IsKnown base r.group r.node) (revisions_of h) → IsChangesetHeld known node h → IsChangesetHeld base node h
  unfolding revisions_of
  view-same node h all is =
      let k = is.revision in
      let a = alike Changesets node k is.is_held (subst (λ (n : Id). IsKnown base Changesets n) (node-is known added node h is) all.0) in
      let parents = both (bytes_eq (a.revision).p k.p) (bytes_eq (a.revision).q k.q) a.is.1 in
      let manifest = manifest_revision h h.manifest in
      let files = map (file_revision (changeset_node h)) h.rows in
      record {
        revision = a.revision;
        is_held = a.is_held;
        parents = (is.parents.0 ∙ sym ((bytes_eq-Decides (a.revision).p k.p).0 parents.0), is.parents.1 ∙ sym ((bytes_eq-Decides (a.revision).q k.q).0 parents.1));
        fields = subst (λ (t : Bytes). IsChangesetText t h.fields) (sym a.is.0) is.fields;
        manifest = manifest-same h h.manifest (each-front (λ r. IsKnown base r.group r.node) manifest files all.1) is.manifest;
        files = rows-same (changeset_node h) h.rows (each-rest (λ r. IsKnown base r.group r.node) manifest files all.1) is.files;
      }

  -- what the reader knows says of the changesets what the written store says
  pub views-same : (nodes : List Id) (hs : List ChangesetView) → Each (λ r. IsKnown base r.group r.node) (revisions_in hs) → AreChangesetsHeld known nodes hs → AreChangesetsHeld base nodes hs
  views-same [] [] all held = tt
  views-same [] (h ∷ hs) all held = absurd held
  views-same (n ∷ nodes) [] all held = absurd held
  views-same (n ∷ nodes) (h ∷ hs) all held = (
    view-same n h (each-front (λ r. IsKnown base r.group r.node) (revisions_of h) (revisions_in hs) all) held.0,
    views-same nodes hs (each-rest (λ r. IsKnown base r.group r.node) (revisions_of h) (revisions_in hs) all) held.1,
  )
