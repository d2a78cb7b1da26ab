-- What the changesets of a new block refer to is known behind it.
use Rattle.std.proofs.Common.{◌≡◌, ◌⊎◌, ℕ, ◌+◌, Bool, true, false, true≢false, not, ◌&&◌, ◌||◌, List, [], ◌∷◌, ◌++◌, map, Option, Some, None, refl, sym, ap, subst, ◌∙◌, inl, inr, if◌then◌else◌}
use Rattle.std.specs.Prelude.{bytes_eq, is_some, unwrap_or, length}
use Rattle.std.specs.List.{find, list_any}
use Rattle.text_model.specs.Lists.{Each, In}
use Rattle.text_model.specs.Id.{Id, is_null}
use Rattle.text_model.proofs.EachLemmas.{Each-append, Each-front, Each-rest}
use Rattle.text_model.proofs.Elements.{each_from, in_left, in_right, none_in}
use Rattle.text_model.proofs.Options.{or_parts, some_is, none_some}
use Rattle.text_model.proofs.TestLemmas.{both, bytes_eq-is}
use Rattle.hg_model.specs.Revision.{Changesets, Manifests, Revision, is_of, revision_of, knows, known_after, known_after_all, same_revision, same_parents, is_otherwise}
use Rattle.hg_model.proofs.RevisionLemmas.{is_of-self}
use Rattle.hg_model.specs.Changeset.{changeset_text}
use Rattle.view_model.specs.View.{Row, ManifestParents, NoManifest, Over, ChangesetView, CommitView, changeset_node, commit_id, rows_text}
use Rattle.view_model.specs.Dump.{manifest_revision, file_revision, revisions_of, revisions_in}
use Rattle.pair_model.specs.Block.{Block, changesets_in, view_at, view_or_none, no_changeset}
use Rattle.pair_model.specs.Octopus.{link_view, links_over, links_by, links_of, partners_of_parents}
use Rattle.partner_model.specs.Partner.{IsHeldView, IsKnownAs}
use Rattle.hg_view.proofs.Grown.{more-all}
use Rattle.next_law.proofs.Alike.{IsLike, own-like, node-same}

-- ---- a search

pub find-in : {X : Type 0} (p : X → Bool) (xs : List X) (x : X) → find p xs ≡ Some x → In x xs × (p x ≡ true)
find-in p [] x h = absurd (none_some h)
find-in p (y ∷ xs) x h = by (p y) refl h (find-in p xs x)
  where
    by : (t : Bool) → p y ≡ t → (if t then Some y else find p xs) ≡ Some x → (find p xs ≡ Some x → In x xs × (p x ≡ true)) → In x (y ∷ xs) × (p x ≡ true)
    by true e k go = (inl (sym (some_is k)), ap p (sym (some_is k)) ∙ e)
    by false e k go = let r = go k in (inr r.0, r.1)

-- ---- revisions that are added

pub record IsFound (known : List Revision) (r : Revision) : Type 0 where
  pub it : Revision
  pub is : revision_of known r.group r.node ≡ Some it

find-last : (known : List Revision) (r : Revision) → IsFound (known ++ r ∷ []) r
find-last [] r = record { it = r; is = rw (is_of-self r) refl }
find-last (x ∷ known) r = by (is_of r.group r.node x) refl (find-last known r)
  where
    by : (t : Bool) → is_of r.group r.node x ≡ t → IsFound (known ++ r ∷ []) r → IsFound (x ∷ (known ++ r ∷ [])) r
    by true e go = record { it = x; is = rw e refl }
    by false e go = record { it = go.it; is = rw e go.is }

found-after : (known : List Revision) (r : Revision) → IsFound (known_after known r) r
found-after known r = by (revision_of known r.group r.node) refl
  where
    by : (o : Option Revision) → revision_of known r.group r.node ≡ o → IsFound (known_after known r) r
    by (Some x) e = let t : knows known r.group r.node ≡ true = ap is_some e in record { it = x; is = rw t e }
    by None e = let t : knows known r.group r.node ≡ false = ap is_some e in let l = find-last known r in record { it = l.it; is = rw t l.is }

pub found-all : (known rs : List Revision) (r : Revision) → In r rs → IsFound (known_after_all known rs) r
found-all known [] r i = absurd i
found-all known (x ∷ rs) r (inl e) =
    let f = subst (λ (y : Revision). IsFound (known_after known x) y) (sym e) (found-after known x) in
    record { it = f.it; is = more-all (known_after known x) rs r.group r.node f.it f.is }
found-all known (x ∷ rs) r (inr i) = found-all (known_after known x) rs r i

of-both : {X : Type 0} (x : X) (xs ys : List X) → In x (xs ++ ys) → In x xs ⊎ In x ys
of-both x [] ys i = inr i
of-both x (y ∷ xs) ys (inl e) = inl (inl e)
of-both x (y ∷ xs) ys (inr i) = elim (of-both x xs ys i) [ inl j ↦ inl (inr j) | inr j ↦ inr j ]

in-after : (known : List Revision) (r y : Revision) → In y (known_after known r) → In y known ⊎ (y ≡ r)
in-after known r y i = by (knows known r.group r.node) i
  where
    by : (t : Bool) → In y (if t then known else known ++ r ∷ []) → In y known ⊎ (y ≡ r)
    by true j = inl j
    by false j = elim (of-both y known (r ∷ []) j) [ inl k ↦ inl k | inr (inl e) ↦ inr e | inr (inr k) ↦ absurd k ]

pub in-all : (known rs : List Revision) (y : Revision) → In y (known_after_all known rs) → In y (known ++ rs)
in-all known [] y i = in_left y known [] i
in-all known (r ∷ rs) y i = by (of-both y (known_after known r) rs (in-all (known_after known r) rs y i))
  where
    by : In y (known_after known r) ⊎ In y rs → In y (known ++ r ∷ rs)
    by (inl j) = elim (in-after known r y j) [ inl k ↦ in_left y known (r ∷ rs) k | inr e ↦ in_right y known (r ∷ rs) (inl e) ]
    by (inr j) = in_right y known (r ∷ rs) (inr j)

-- ---- a block of a stream

not-other : (r y : Revision) → same_revision r y ≡ true → is_otherwise r y ≡ false → (bytes_eq r.text y.text && same_parents r.group r.p r.q y.p y.q) ≡ true
not-other r y same h = by (same_revision r y) (bytes_eq r.text y.text && same_parents r.group r.p r.q y.p y.q) same h
  where
    by : (t u : Bool) → t ≡ true → (t && not u) ≡ false → u ≡ true
    by false u e k = absurd (true≢false (sym e))
    by true true e k = refl
    by true false e k = absurd (true≢false k)

-- revisions that aren't known otherwise, nor are each other otherwise, are known behind them
pub added-like : (known own : List Revision) → list_any (λ r. is_null r.node || list_any (is_otherwise r) (known ++ own)) own ≡ false → Each (IsLike (known_after_all known own)) own
added-like known own apart = each_from (IsLike (known_after_all known own)) own one
  where
    one : (r : Revision) → In r own → IsLike (known_after_all known own) r
    one r i =
        let f = found-all known own r i in
        let at = find-in (is_of r.group r.node) (known_after_all known own) f.it f.is in
        let none = (or_parts (is_null r.node) (list_any (is_otherwise r) (known ++ own)) (none_in (λ r. is_null r.node || list_any (is_otherwise r) (known ++ own)) own r apart i)).1 in
        let parts = both (bytes_eq r.text (f.it).text) (same_parents r.group r.p r.q (f.it).p (f.it).q)
        (not-other r f.it at.1 (none_in (is_otherwise r) (known ++ own) f.it none (in-all known own f.it at.0))) in
        record { revision = f.it; is_held = f.is; text = bytes_eq-is r.text (f.it).text parts.0; parents = parts.1 }

-- ---- the links of a block

-- the link of a file revision doesn't count
rows-parts : (known : List Revision) (a b : Id) (rows : List Row) → Each (IsLike known) (map (file_revision a) rows) → Each (IsLike known) (map (file_revision b) rows)
rows-parts known a b [] each = tt
rows-parts known a b (row ∷ rows) each = (record { revision = (each.0).revision; is_held = (each.0).is_held; text = (each.0).text; parents = (each.0).parents }, rows-parts known a b rows each.1)

-- nor does that of a manifest
manifest-parts : (known : List Revision) (h l : ChangesetView) (m : ManifestParents) → (l.fields).manifest ≡ (h.fields).manifest → l.rows ≡ h.rows → Each (IsLike known) (manifest_revision h m) → Each (IsLike known) (manifest_revision l m)
manifest-parts known h l NoManifest node rows each = tt
manifest-parts known h l (Over p q) node rows each =
    let one = each.0 in
    (record { revision = one.revision; is_held = ap (revision_of known Manifests) node ∙ one.is_held; text = ap rows_text rows ∙ one.text; parents = one.parents }, tt)

-- a changeset that is a known one, with the manifest and the rows of another that is known with all it refers to
record HasFilesOf (base l : ChangesetView) : Type 0 where
  pub manifest : l.manifest ≡ base.manifest
  pub node : (l.fields).manifest ≡ (base.fields).manifest
  pub rows : l.rows ≡ base.rows

link-like : (known : List Revision) (base l : ChangesetView) → Each (IsLike known) (manifest_revision base base.manifest ++ map (file_revision (changeset_node base)) base.rows) → HasFilesOf base l → IsKnownAs (IsHeldView known) l
    → Each (IsLike known) (revisions_of l)
unfolding revisions_of
link-like known base l parts files (k, held, same) =
    let own = own-like known k held in
    let nodes : changeset_node l ≡ changeset_node k = sym (node-same k l same) in
    let manifest = subst (λ (m : ManifestParents). Each (IsLike known) (manifest_revision l m)) (sym files.manifest)
    (manifest-parts known base l base.manifest files.node files.rows (Each-front (IsLike known) (manifest_revision base base.manifest) (map (file_revision (changeset_node base)) base.rows) parts)) in
    let rows = subst (λ (rs : List Row). Each (IsLike known) (map (file_revision (changeset_node l)) rs)) (sym files.rows)
    (rows-parts known (changeset_node base) (changeset_node l) base.rows (Each-rest (IsLike known) (manifest_revision base base.manifest) (map (file_revision (changeset_node base)) base.rows) parts)) in (
      record {
        revision = own.revision;
        is_held = ap (revision_of known Changesets) nodes ∙ own.is_held;
        text = (λ i. changeset_text (sym same.fields i)) ∙ own.text;
        parents = (λ i. same_parents Changesets (sym same.p i) (sym same.q i) (own.revision).p (own.revision).q) ∙ own.parents;
      },
      Each-append (IsLike known) (manifest_revision l l.manifest) (map (file_revision (changeset_node l)) l.rows) manifest rows,
    )

module _ (known : List Revision) (id : Id) (base : ChangesetView) (parts : Each (IsLike known) (manifest_revision base base.manifest ++ map (file_revision (changeset_node base)) base.rows)) where
  over-like : (n k : ℕ) (before : Id) (xs : List Id) → Each (IsKnownAs (IsHeldView known)) (links_over id base n k before xs) → Each (IsLike known) (revisions_in (links_over id base n k before xs))
  unfolding links_over link_view
  over-like n k before [] each = tt
  over-like n k before (x ∷ []) each = tt
  over-like n k before (x ∷ y ∷ rest) each =
      let l = link_view id base n k before x in
      Each-append (IsLike known) (revisions_of l) (revisions_in (links_over id base n (k + 1) (changeset_node l) (y ∷ rest)))
      (link-like known base l parts (record { manifest = refl; node = refl; rows = refl }) each.0) (over-like n (k + 1) (changeset_node l) (y ∷ rest) each.1)

in-like : (known : List Revision) (hs : List ChangesetView) (h : ChangesetView) → Each (IsLike known) (revisions_in hs) → In h hs → Each (IsLike known) (revisions_of h)
in-like known [] h each i = absurd i
in-like known (x ∷ hs) h each (inl e) = subst (λ (v : ChangesetView). Each (IsLike known) (revisions_of v)) (sym e) (Each-front (IsLike known) (revisions_of x) (revisions_in hs) each)
in-like known (x ∷ hs) h each (inr i) = in-like known hs h (Each-rest (IsLike known) (revisions_of x) (revisions_in hs) each) i

parts-of : (known : List Revision) (h : ChangesetView) → Each (IsLike known) (revisions_of h) → Each (IsLike known) (manifest_revision h h.manifest ++ map (file_revision (changeset_node h)) h.rows)
unfolding revisions_of
parts-of known h each = each.1

base-parts : (known : List Revision) (hs : List ChangesetView) (node : Id) → Each (IsLike known) (revisions_in hs)
    → Each (IsLike known) (manifest_revision (view_or_none hs node) (view_or_none hs node).manifest ++ map (file_revision (changeset_node (view_or_none hs node))) (view_or_none hs node).rows)
base-parts known hs node each = by (view_at hs node) refl
  where
    by : (o : Option ChangesetView) → view_at hs node ≡ o → Each (IsLike known) (manifest_revision (unwrap_or o no_changeset) (unwrap_or o no_changeset).manifest ++ map (file_revision (changeset_node (unwrap_or o no_changeset))) (unwrap_or o no_changeset).rows)
    by None e = tt
    by (Some v) e = parts-of known v (in-like known hs v each (find-in (λ (v : ChangesetView). bytes_eq (changeset_node v) node) hs v e).0)

pub links-like : (known : List Revision) (blocks : List Block) (c : CommitView) → Each (IsLike known) (revisions_in (changesets_in blocks)) → Each (IsKnownAs (IsHeldView known)) (links_of blocks c)
    → Each (IsLike known) (revisions_in (links_of blocks c))
unfolding links_of
links-like known blocks c each known_as = by (partners_of_parents blocks c) known_as
  where
    by : (xs : List Id) → Each (IsKnownAs (IsHeldView known)) (links_by blocks (commit_id c) (length (c.value).parents) xs) → Each (IsLike known) (revisions_in (links_by blocks (commit_id c) (length (c.value).parents) xs))
    by [] k = tt
    by (x ∷ rest) k = over-like known (commit_id c) (view_or_none (changesets_in blocks) x) (base-parts known (changesets_in blocks) x each) (length (c.value).parents) 1 x rest k
