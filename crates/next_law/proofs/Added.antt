-- What changesets that are views refer to can be added, one revision after the other.
use Rattle.std.proofs.Common.{◌≡◌, Bool, true, false, true≢false, not, List, [], ◌∷◌, ◌++◌, map, None, refl, sym, ap, subst, ◌∙◌, inl, inr, append_assoc, append-nil, if◌then◌else◌}
use Rattle.std.specs.Prelude.{bytes_eq, is_some}
use Rattle.std.specs.List.{list_any}
use Rattle.text_model.specs.Lists.{Each, In}
use Rattle.text_model.specs.Id.{Id, is_null}
use Rattle.text_model.proofs.EachLemmas.{Each-append, Each-weaker, Each-front, Each-rest}
use Rattle.text_model.proofs.Elements.{each_in, each_from, none_in, none_all}
use Rattle.text_model.proofs.TestLemmas.{bytes_eq-self}
use Rattle.hg_model.specs.Revision.{Group, Changesets, Manifests, FilesAt, Revision, knows, known_after_all, is_known_parent, is_bad_link, is_otherwise, ancestry_fault, text_fault, addition_fault, first_name}
use Rattle.hg_model.proofs.RevisionLemmas.{known_after_all-append}
use Rattle.hg_store.specs.Known.{AreAdded}
use Rattle.hg_store.proofs.KnownLemmas.{AreAddedTo-push}
use Rattle.view_model.specs.View.{ChangesetView, IsChangesetView, ChangesetFits, Row, ManifestParents, NoManifest, Over, changeset_node}
use Rattle.view_model.specs.Dump.{own_revision, manifest_revision, file_revision, revisions_of, revisions_in}
use Rattle.state_model.specs.Saved.{has_otherwise}
use Rattle.hg_dump_law.specs.Taken.{HasParents, AreParentsEarlier}
use Rattle.next_law.proofs.Good.{IsGood, all-good}
use Rattle.next_law.proofs.Knows.{Knows, among, knows-left, knows-right, known-parent, null-parent, parent-left, in-knows}
use Rattle.next_law.proofs.LikeNew.{found-all, in-all}
use Rattle.next_law.proofs.Parents.{IsInTime}

-- what was listed is known behind its additions
knows-added : (done : List Revision) (group : Group) (node : Id) → Knows done group node → Knows (known_after_all [] done) group node
knows-added done group node h =
    let a = among done group node h in
    let f = found-all [] done a.it a.among in
    subst (Knows (known_after_all [] done) group) a.node_is (subst (λ (g : Group). Knows (known_after_all [] done) g (a.it).node) a.group_is (ap is_some f.is))

parent-added : (done : List Revision) (group : Group) (node : Id) → is_known_parent done group node ≡ true → is_known_parent (known_after_all [] done) group node ≡ true
parent-added done group node h = by (is_null node) refl
  where
    by : (t : Bool) → is_null node ≡ t → is_known_parent (known_after_all [] done) group node ≡ true
    by true e = null-parent (known_after_all [] done) group node e
    by false e = let k : knows done group node ≡ true = rw e at h in known-parent (known_after_all [] done) group node (knows-added done group node k)

not-known : (b : Bool) → not b ≡ false → b ≡ true
not-known true h = refl
not-known false h = absurd (true≢false h)

link-more : (some more : List Revision) → ((node : Id) → Knows some Changesets node → Knows more Changesets node) → (g : Group) (r : Revision) → is_bad_link some g r ≡ false → is_bad_link more g r ≡ false
link-more some more go Changesets r h = h
link-more some more go Manifests r h = ap not (go r.link (not-known (knows some Changesets r.link) h))
link-more some more go (FilesAt path) r h = ap not (go r.link (not-known (knows some Changesets r.link) h))

-- a revision that shows nothing wrong, isn't null, and is one of all
pub record IsOne (all : List Revision) (r : Revision) : Type 0 where
  pub good : IsGood r
  pub some : is_null r.node ≡ false
  pub among : In r all

module _ (all : List Revision) (one : has_otherwise all ≡ false) where
  none-otherwise : (done : List Revision) → ((y : Revision) → In y done → In y all) → (r : Revision) → In r all → list_any (is_otherwise r) (known_after_all [] done) ≡ false
  none-otherwise done sub r i =
      none_all (is_otherwise r) (known_after_all [] done)
      (λ y j. none_in (is_otherwise r) all y (none_in (λ x. list_any (is_otherwise x) all) all r one i) (sub y (in-all [] done y j)))

  can-add : (done : List Revision) → ((y : Revision) → In y done → In y all) → (r : Revision) → IsOne all r → HasParents done r → is_bad_link done r.group r ≡ false → addition_fault (known_after_all [] done) r ≡ None
  unfolding ancestry_fault text_fault
  can-add done sub r is parents link = (λ i. first_name (ancestry i ∷ texts i ∷ []))
    where
      ancestry : ancestry_fault (known_after_all [] done) r ≡ None
      ancestry = rw ((is.good).order, parent-added done r.group r.p parents.0, parent-added done r.group r.q parents.1, link-more done (known_after_all [] done) (λ n k. knows-added done Changesets n k) r.group r link) refl

      texts : text_fault (known_after_all [] done) r ≡ None
      texts = rw (ap (bytes_eq r.node) (sym (is.good).hash) ∙ bytes_eq-self r.node, (is.good).shape, is.some, none-otherwise done sub r is.among) refl

  add-one : (done : List Revision) → ((y : Revision) → In y done → In y all) → (r : Revision) → IsOne all r → IsInTime done r → is_bad_link done r.group r ≡ false → AreAdded (known_after_all [] done)
      → AreAdded (known_after_all [] (done ++ r ∷ []))
  add-one done sub r is time link added =
      let known = known_after_all [] done in
      subst AreAdded (sym (known_after_all-append [] done (r ∷ []))) (by (knows known r.group r.node) refl)
    where
      by : (t : Bool) → knows (known_after_all [] done) r.group r.node ≡ t → AreAdded (if t then known_after_all [] done else known_after_all [] done ++ r ∷ [])
      by true e = added
      by false e = elim time [
        | inl k ↦ absurd (true≢false (sym (knows-added done r.group r.node k) ∙ e))
        | inr parents ↦ AreAddedTo-push [] (known_after_all [] done) r added (record {
          faultless = can-add done sub r is parents link;
          fresh = e;
          node = (is.good).node;
          parents = (is.good).parents;
          link = (is.good).link;
          bytes = (is.good).bytes;
          short = (is.good).short;
          path = (is.good).path;
          path_bytes = (is.good).path_bytes;
        })
      ]

  time-left : (done more : List Revision) (r : Revision) → IsInTime done r → IsInTime (done ++ more) r
  time-left done more r (inl k) = inl (knows-left done more r.group r.node k)
  time-left done more r (inr p) = inr (parent-left done more r.group r.p p.0, parent-left done more r.group r.q p.1)

  sub-push : (done : List Revision) → ((y : Revision) → In y done → In y all) → (r : Revision) → In r all → (y : Revision) → In y (done ++ r ∷ []) → In y all
  sub-push [] sub r i y (inl e) = subst (λ (x : Revision). In x all) (sym e) i
  sub-push [] sub r i y (inr j) = absurd j
  sub-push (x ∷ done) sub r i y (inl e) = sub y (inl e)
  sub-push (x ∷ done) sub r i y (inr j) = sub-push done (λ z k. sub z (inr k)) r i y j

  -- revisions whose links are known
  add-list : (done rs : List Revision) → ((y : Revision) → In y done → In y all) → Each (IsOne all) rs → Each (IsInTime done) rs → Each (λ r. is_bad_link done r.group r ≡ false) rs → AreAdded (known_after_all [] done)
      → AreAdded (known_after_all [] (done ++ rs))
  add-list done [] sub is time link added = subst (λ (l : List Revision). AreAdded (known_after_all [] l)) (sym (append-nil done)) added
  add-list done (r ∷ rs) sub is time link added =
      subst (λ (l : List Revision). AreAdded (known_after_all [] l)) (append_assoc done (r ∷ []) rs)
      (add-list (done ++ r ∷ []) rs (sub-push done sub r (is.0).among) is.1
      (Each-weaker (IsInTime done) (IsInTime (done ++ r ∷ [])) (λ x t. time-left done (r ∷ []) x t) rs time.1)
      (Each-weaker (λ x. is_bad_link done x.group x ≡ false) (λ x. is_bad_link (done ++ r ∷ []) x.group x ≡ false)
      (λ x l. link-more done (done ++ r ∷ []) (λ n k. knows-left done (r ∷ []) Changesets n k) x.group x l) rs link.1)
      (add-one done sub r is.0 time.0 link.0 added))

  manifest-linked : (known : List Revision) (h : ChangesetView) → Knows known Changesets (changeset_node h) → (m : ManifestParents) → Each (λ r. is_bad_link known r.group r ≡ false) (manifest_revision h m)
  manifest-linked known h k NoManifest = tt
  manifest-linked known h k (Over p q) = (ap not k, tt)

  files-linked : (known : List Revision) (link : Id) → Knows known Changesets link → (rows : List Row) → Each (λ r. is_bad_link known r.group r ≡ false) (map (file_revision link) rows)
  files-linked known link k [] = tt
  files-linked known link k (row ∷ rows) = (ap not k, files-linked known link k rows)

  add-changeset : (done : List Revision) (h : ChangesetView) → ((y : Revision) → In y done → In y all) → Each (IsOne all) (revisions_of h) → Each (IsInTime done) (revisions_of h) → AreAdded (known_after_all [] done)
      → AreAdded (known_after_all [] (done ++ revisions_of h))
  unfolding revisions_of
  add-changeset done h sub is time added =
      let own = own_revision h in
      let rest = manifest_revision h h.manifest ++ map (file_revision (changeset_node h)) h.rows in
      let after = done ++ own ∷ [] in
      let here : Knows after Changesets (changeset_node h) = knows-right done (own ∷ []) Changesets (changeset_node h) (in-knows own (own ∷ []) (inl refl)) in
      subst (λ (l : List Revision). AreAdded (known_after_all [] l)) (append_assoc done (own ∷ []) rest)
      (add-list after rest (sub-push done sub own (is.0).among) is.1
      (Each-weaker (IsInTime done) (IsInTime after) (λ x t. time-left done (own ∷ []) x t) rest time.1)
      (Each-append (λ r. is_bad_link after r.group r ≡ false) (manifest_revision h h.manifest) (map (file_revision (changeset_node h)) h.rows)
      (manifest-linked after h here h.manifest) (files-linked after (changeset_node h) here h.rows))
      (add-one done sub own is.0 time.0 (ap not (bytes_eq-self (changeset_node h))) added))

  in-push : (xs ys : List Revision) → ((y : Revision) → In y xs → In y all) → Each (IsOne all) ys → (y : Revision) → In y (xs ++ ys) → In y all
  in-push [] ys sub is y i = (each_in (IsOne all) ys y is i).among
  in-push (x ∷ xs) ys sub is y (inl e) = sub y (inl e)
  in-push (x ∷ xs) ys sub is y (inr i) = in-push xs ys (λ z k. sub z (inr k)) is y i

  add-all : (done : List Revision) (hs : List ChangesetView) → ((y : Revision) → In y done → In y all) → Each (IsOne all) (revisions_in hs) → AreParentsEarlier done hs → AreAdded (known_after_all [] done)
      → AreAdded (known_after_all [] (done ++ revisions_in hs))
  add-all done [] sub is earlier added = subst (λ (l : List Revision). AreAdded (known_after_all [] l)) (sym (append-nil done)) added
  add-all done (h ∷ hs) sub is earlier added =
      let own = Each-front (IsOne all) (revisions_of h) (revisions_in hs) is in
      subst (λ (l : List Revision). AreAdded (known_after_all [] l)) (append_assoc done (revisions_of h) (revisions_in hs))
      (add-all (done ++ revisions_of h) hs (in-push done (revisions_of h) sub own) (Each-rest (IsOne all) (revisions_of h) (revisions_in hs) is) earlier.1
      (add-changeset done h sub own earlier.0 added))

-- ---- changesets that are views

goods : (hs : List ChangesetView) → Each IsChangesetView hs → Each ChangesetFits hs → Each IsGood (revisions_in hs)
goods [] views fits = tt
goods (h ∷ hs) views fits = Each-append IsGood (revisions_of h) (revisions_in hs) (all-good h views.0 fits.0) (goods hs views.1 fits.1)

pub views-added : (hs : List ChangesetView) → Each IsChangesetView hs → Each ChangesetFits hs → Each (λ r. is_null r.node ≡ false) (revisions_in hs) → has_otherwise (revisions_in hs) ≡ false → AreParentsEarlier [] hs
    → AreAdded (known_after_all [] (revisions_in hs))
views-added hs views fits some one earlier =
    let all = revisions_in hs in
    let good = goods hs views fits in
    add-all all one [] hs (λ y i. absurd i)
    (each_from (IsOne all) all (λ r i. record { good = each_in IsGood all r good i; some = each_in (λ r. is_null r.node ≡ false) all r some i; among = i })) earlier tt
