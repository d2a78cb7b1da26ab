-- Revisions that are known up to their links and the order of a manifest's or a file's parents: one node has one text and one pair of parents.
use Rattle.std.proofs.Common.{◌≡◌, ◌⊎◌, Bool, true, false, ◌&&◌, ◌||◌, List, [], ◌∷◌, ◌++◌, map, Some, refl, sym, ap, subst, ◌∙◌, inl, inr}
use Rattle.std.specs.Prelude.{bytes_eq}
use Rattle.std.specs.List.{list_any}
use Rattle.text_model.specs.Lists.{Each}
use Rattle.text_model.specs.Id.{Id, node_id}
use Rattle.text_model.proofs.EachLemmas.{Each-append}
use Rattle.text_model.proofs.Elements.{each_in, none_all}
use Rattle.text_model.proofs.Options.{some_is}
use Rattle.text_model.proofs.TestLemmas.{both, bytes_eq-is, bytes_eq-self}
use Rattle.hg_model.specs.Changeset.{changeset_text}
use Rattle.hg_model.specs.Revision.{Group, Changesets, Manifests, FilesAt, Revision, revision_of, same_group, same_revision, same_parents, is_otherwise}
use Rattle.hg_model.proofs.ParentOrder.{file_order-either, manifest_order-either}
use Rattle.hg_model.proofs.RevisionLemmas.{same_group-is}
use Rattle.view_model.specs.View.{Row, ManifestParents, NoManifest, Over, ChangesetView, SameChangeset, changeset_node}
use Rattle.view_model.specs.Held.{IsFileHeld, IsManifestHeld, IsChangesetHeld, AreChangesetsHeld}
use Rattle.view_model.specs.Dump.{own_revision, manifest_revision, file_revision, revisions_of, revisions_in}
use Rattle.state_model.specs.Saved.{has_otherwise}
use Rattle.hg_view.proofs.Grown.{IsMore}

-- the revision is a known one, up to its link and the order of a manifest's or a file's parents
pub record IsLike (known : List Revision) (r : Revision) : Type 0 where
  pub revision : Revision
  pub is_held : revision_of known r.group r.node ≡ Some revision
  pub text : r.text ≡ revision.text
  pub parents : same_parents r.group r.p r.q revision.p revision.q ≡ true

pub like-more : (known other : List Revision) → IsMore known other → (r : Revision) → IsLike known r → IsLike other r
like-more known other more r l = record { revision = l.revision; is_held = more r.group r.node l.revision l.is_held; text = l.text; parents = l.parents }

-- ---- pairs of parents

abbrev IsPair : Id → Id → Id → Id → Type 0
IsPair a b c d = ((a ≡ c) × (b ≡ d)) ⊎ ((a ≡ d) × (b ≡ c))

pair-is : (a b c d : Id) → ((bytes_eq a c && bytes_eq b d) || (bytes_eq a d && bytes_eq b c)) ≡ true → IsPair a b c d
pair-is a b c d h = by (bytes_eq a c && bytes_eq b d) refl
  where
    by : (t : Bool) → (bytes_eq a c && bytes_eq b d) ≡ t → IsPair a b c d
    by true e = let p = both (bytes_eq a c) (bytes_eq b d) e in inl (bytes_eq-is a c p.0, bytes_eq-is b d p.1)
    by false e = let p = both (bytes_eq a d) (bytes_eq b c) (sym (rw e refl) ∙ h) in inr (bytes_eq-is a d p.0, bytes_eq-is b c p.1)

eq : (a b : Id) → a ≡ b → bytes_eq a b ≡ true
eq a b e = ap (bytes_eq a) (sym e) ∙ bytes_eq-self a

or-last : (x y : Bool) → y ≡ true → (x || y) ≡ true
or-last true y e = refl
or-last false y e = e

pair-test : (a b c d : Id) → IsPair a b c d → ((bytes_eq a c && bytes_eq b d) || (bytes_eq a d && bytes_eq b c)) ≡ true
pair-test a b c d (inl e) = rw (eq a c e.0, eq b d e.1) refl
pair-test a b c d (inr e) = or-last (bytes_eq a c && bytes_eq b d) (bytes_eq a d && bytes_eq b c) (rw (eq a d e.0, eq b c e.1) refl)

pair-joins : (a b c d e f : Id) → IsPair a b e f → IsPair c d e f → IsPair a b c d
pair-joins a b c d e f (inl x) (inl y) = inl (x.0 ∙ sym y.0, x.1 ∙ sym y.1)
pair-joins a b c d e f (inl x) (inr y) = inr (x.0 ∙ sym y.1, x.1 ∙ sym y.0)
pair-joins a b c d e f (inr x) (inl y) = inr (x.0 ∙ sym y.1, x.1 ∙ sym y.0)
pair-joins a b c d e f (inr x) (inr y) = inl (x.0 ∙ sym y.0, x.1 ∙ sym y.1)

-- two that have the parents of a third have each other's
pub parents-join : (g : Group) (a b c d e f : Id) → same_parents g a b e f ≡ true → same_parents g c d e f ≡ true → same_parents g a b c d ≡ true
parents-join Changesets a b c d e f x y =
    let p = both (bytes_eq a e) (bytes_eq b f) x in
    let q = both (bytes_eq c e) (bytes_eq d f) y in
    rw (eq a c (bytes_eq-is a e p.0 ∙ sym (bytes_eq-is c e q.0)), eq b d (bytes_eq-is b f p.1 ∙ sym (bytes_eq-is d f q.1))) refl
parents-join Manifests a b c d e f x y = pair-test a b c d (pair-joins a b c d e f (pair-is a b e f x) (pair-is c d e f y))
parents-join (FilesAt path) a b c d e f x y = pair-test a b c d (pair-joins a b c d e f (pair-is a b e f x) (pair-is c d e f y))

pub parents-self : (g : Group) (a b : Id) → same_parents g a b a b ≡ true
parents-self Changesets a b = rw (bytes_eq-self a, bytes_eq-self b) refl
parents-self Manifests a b = pair-test a b a b (inl (refl, refl))
parents-self (FilesAt path) a b = pair-test a b a b (inl (refl, refl))

-- ---- two that are like known ones

like-both : (known : List Revision) (r s : Revision) → IsLike known r → IsLike known s → is_otherwise r s ≡ false
like-both known r s a b = by (same_revision r s) refl
  where
    by : (t : Bool) → same_revision r s ≡ t → is_otherwise r s ≡ false
    by false e = rw e refl
    by true e =
        let parts = both (same_group r.group s.group) (bytes_eq r.node s.node) e in
        let group : r.group ≡ s.group = same_group-is r.group s.group parts.0 in
        let node : r.node ≡ s.node = bytes_eq-is r.node s.node parts.1 in
        let one : a.revision ≡ b.revision = some_is (sym a.is_held ∙ (λ i. revision_of known (group i) (node i)) ∙ b.is_held) in
        let text : bytes_eq r.text s.text ≡ true = eq r.text s.text (a.text ∙ ap (λ (x : Revision). x.text) one ∙ sym b.text) in
        let parents : same_parents r.group r.p r.q s.p s.q ≡ true =
        parents-join r.group r.p r.q s.p s.q (b.revision).p (b.revision).q
        (sym (λ i. same_parents r.group r.p r.q (one i).p (one i).q) ∙ a.parents)
        ((λ i. same_parents (group i) s.p s.q (b.revision).p (b.revision).q) ∙ b.parents) in
        rw (e, text, parents) refl

pub none-otherwise : (known rs : List Revision) → Each (IsLike known) rs → has_otherwise rs ≡ false
none-otherwise known rs each =
    none_all (λ r. list_any (is_otherwise r) rs) rs
    (λ r i. none_all (is_otherwise r) rs (λ s j. like-both known r s (each_in (IsLike known) rs r each i) (each_in (IsLike known) rs s each j)))

-- ---- what a changeset that is held refers to

-- changesets that are the same have one node
pub node-same : (a b : ChangesetView) → SameChangeset a b → changeset_node a ≡ changeset_node b
unfolding changeset_node
node-same a b s = λ i. node_id (s.p i) (s.q i) (changeset_text (s.fields i))

rows-like : (known : List Revision) (link : Id) (rows : List Row) → Each (IsFileHeld known) rows → Each (IsLike known) (map (file_revision link) rows)
rows-like known link [] held = tt
rows-like known link (row ∷ rows) held = (one row held.0, rows-like known link rows held.1)
  where
    one : (row : Row) → IsFileHeld known row → IsLike known (file_revision link row)
    one row h =
        let r = h.revision in
        let g = FilesAt row.path in
        record {
          revision = r;
          is_held = h.is_held;
          text = sym (h.text).1;
          parents = subst (λ (o : Id × Id). same_parents g o.0 o.1 r.p r.q ≡ true) (sym h.parents)
              (file_order-either (λ o. same_parents g o.0 o.1 r.p r.q ≡ true) (row.revision).meta r.p r.q (pair-test r.p r.q r.p r.q (inl (refl, refl))) (pair-test r.q r.p r.p r.q (inr (refl, refl))));
        }

manifest-like : (known : List Revision) (h : ChangesetView) (m : ManifestParents) → IsManifestHeld known (h.fields).manifest m h.rows → Each (IsLike known) (manifest_revision h m)
manifest-like known h NoManifest held = tt
manifest-like known h (Over p q) held =
    let r = held.revision in (
      record {
        revision = r;
        is_held = held.is_held;
        text = sym (held.text).1;
        parents = subst (λ (o : Id × Id). same_parents Manifests o.0 o.1 r.p r.q ≡ true) (sym held.parents)
            (manifest_order-either (λ o. same_parents Manifests o.0 o.1 r.p r.q ≡ true) r.p r.q (pair-test r.p r.q r.p r.q (inl (refl, refl))) (pair-test r.q r.p r.p r.q (inr (refl, refl))));
      },
      tt,
    )

-- its manifest, and its files
pub parts-like : (known : List Revision) (node : Id) (h : ChangesetView) → IsChangesetHeld known node h → Each (IsLike known) (manifest_revision h h.manifest ++ map (file_revision (changeset_node h)) h.rows)
parts-like known node h held =
    Each-append (IsLike known) (manifest_revision h h.manifest) (map (file_revision (changeset_node h)) h.rows) (manifest-like known h h.manifest held.manifest) (rows-like known (changeset_node h) h.rows held.files)

pub own-like : (known : List Revision) (h : ChangesetView) → IsChangesetHeld known (changeset_node h) h → IsLike known (own_revision h)
own-like known h held = record {
  revision = held.revision;
  is_held = held.is_held;
  text = sym (held.fields).1;
  parents = rw (eq h.p (held.revision).p held.parents.0, eq h.q (held.revision).q held.parents.1) refl;
}

pub held-like : (known : List Revision) (h : ChangesetView) → IsChangesetHeld known (changeset_node h) h → Each (IsLike known) (revisions_of h)
unfolding revisions_of
held-like known h held = (own-like known h held, parts-like known (changeset_node h) h held)

pub all-like : (known : List Revision) (hs : List ChangesetView) → AreChangesetsHeld known (map changeset_node hs) hs → Each (IsLike known) (revisions_in hs)
all-like known [] held = tt
all-like known (h ∷ hs) held = Each-append (IsLike known) (revisions_of h) (revisions_in hs) (held-like known h held.0) (all-like known hs held.1)
