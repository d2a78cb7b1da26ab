-- Parents and link nodes of what is written: they are known before.
use Rattle.std.proofs.Common.{◌≡◌, ℕ, zero, suc, take, drop, append-nil, append_assoc, ◌||◌, ◌⊎◌, inl, inr, Bool, true, false, true≢false, not, List, [], ◌∷◌, ◌++◌, map, refl, sym, ap, subst, ◌∙◌}
use Rattle.std.specs.Prelude.{bytes_eq, ⊤}
use Rattle.text_model.specs.Lists.{Each, only_new}
use Rattle.text_model.specs.Id.{Id, is_null}
use Rattle.text_model.proofs.TestLemmas.{both, bytes_eq-self}
use Rattle.hg_model.proofs.RevisionLemmas.{same_group-is}
use Rattle.hg_model.specs.Revision.{Group, Changesets, Manifests, FilesAt, Revision, is_of, knows, known_after, is_known_parent, is_bad_link, same_group, same_revision, known_after_all}
use Rattle.view_model.specs.View.{ChangesetView, Row, ManifestParents, NoManifest, Over, changeset_node}
use Rattle.view_model.specs.Dump.{manifest_revision, file_revision, revisions_of, revisions_in, of_group}
use Rattle.hg_dump.proofs.OnceLemmas.{Each-append}
use Rattle.hg_dump_law.specs.Taken.{HasParents, AreParentsEarlier}
use Rattle.hg_dump_law.proofs.Known.{IsKnown, HoldsIn, Holds, knows-cons, holds-left, holds-right, knows-last, holds-both, holds-each, each-known, holds-after, knows-after, new-known, new-first}

-- ---- parents

-- each has its parents among those before it
abbrev pub HaveParents : List Revision → List Revision → Type 0
HaveParents before [] = ⊤
HaveParents before (r ∷ rs) = HasParents before r × HaveParents (before ++ r ∷ []) rs

known-parent : (small large : List Revision) (group : Group) (p : Id) → HoldsIn group small large → is_known_parent small group p ≡ true → is_known_parent large group p ≡ true
known-parent small large group p h e = by (is_null p) refl
  where
    by : (b : Bool) → is_null p ≡ b → is_known_parent large group p ≡ true
    by true n = rw n refl
    by false n = rw n (h p (sym (rw n refl) ∙ e))

pub has-parents : (small large : List Revision) (r : Revision) → HoldsIn r.group small large → HasParents small r → HasParents large r
has-parents small large r h are = (known-parent small large r.group r.p h are.0, known-parent small large r.group r.q h are.1)

-- those to which one changeset refers, before others
one-earlier : (met seen xs tail : List Revision) → Holds met seen → Each (λ r. (knows met r.group r.node ≡ true) ⊎ HasParents met r) xs
    → ((more : List Revision) → Holds seen more → Each (λ r. IsKnown more r.group r.node) xs → HaveParents more (only_new same_revision more tail))
    → HaveParents seen (only_new same_revision seen (xs ++ tail))
one-earlier met seen [] tail holds are go = go seen (λ group node h. h) tt
one-earlier met seen (x ∷ xs) tail holds are go =
    by (knows seen x.group x.node) refl (λ more h. one-earlier met more xs tail h are.1)
  where
    parents : knows seen x.group x.node ≡ false → ((knows met x.group x.node ≡ true) ⊎ HasParents met x) → HasParents seen x
    parents e (inl k) = absurd (not_known (sym (holds x.group x.node k) ∙ e))
      where
        not_known : true ≡ false → ⊥
        not_known h = cc
    parents e (inr p) = has-parents met seen x (holds x.group) p

    by : (b : Bool) → knows seen x.group x.node ≡ b
        → ((more : List Revision) → Holds met more
        → ((further : List Revision) → Holds more further → Each (λ r. IsKnown further r.group r.node) xs → HaveParents further (only_new same_revision further tail))
        → HaveParents more (only_new same_revision more (xs ++ tail)))
        → HaveParents seen (only_new same_revision seen (x ∷ xs ++ tail))
    by true e later = rw (new-known seen x (xs ++ tail) e) (later seen holds (λ further h all. go further h (h x.group x.node e, all)))
    by false e later =
        let more = seen ++ x ∷ [] in
        rw (new-first seen x (xs ++ tail) e) (
          parents e are.0,
          later more (λ g n k. holds-left seen (x ∷ []) g n (holds g n k))
              (λ further h all. go further (λ g n k. h g n (holds-left seen (x ∷ []) g n k)) (h x.group x.node (knows-last seen x), all)),
        )

pub all-earlier : (met seen : List Revision) (hs : List ChangesetView) → Holds met seen → AreParentsEarlier met hs → HaveParents seen (only_new same_revision seen (revisions_in hs))
all-earlier met seen [] holds are = tt
all-earlier met seen (h ∷ hs) holds are =
    one-earlier met seen (revisions_of h) (revisions_in hs) holds are.0
    (λ more further all. all-earlier (met ++ revisions_of h) more hs
    (λ group. holds-both group met (revisions_of h) more (λ n k. further group n (holds group n k)) (holds-each (revisions_of h) more all group)) are.1)

-- what holds of all changesets holds of those behind some of them
pub earlier-drop : (before : List Revision) (hs : List ChangesetView) (n : ℕ) → AreParentsEarlier before hs → AreParentsEarlier (before ++ revisions_in (take n hs)) (drop n hs)
earlier-drop before hs zero are = subst (λ (l : List Revision). AreParentsEarlier l hs) (sym (append-nil before)) are
earlier-drop before [] (suc n) are = tt
earlier-drop before (h ∷ hs) (suc n) are =
    subst (λ (l : List Revision). AreParentsEarlier l (drop n hs)) (append_assoc before (revisions_of h) (revisions_in (take n hs))) (earlier-drop (before ++ revisions_of h) hs n are.1)

-- ---- link nodes

-- the link node is a known changeset, or the changeset itself
abbrev pub HasLink : List Revision → Revision → Type 0
HasLink known r = is_bad_link known r.group r ≡ false

pub has-link : (small large : List Revision) (r : Revision) → HoldsIn Changesets small large → HasLink small r → HasLink large r
has-link small large r h = by r.group
  where
    not_false : (b : Bool) → not b ≡ false → b ≡ true
    not_false true e = refl
    not_false false e = cc

    by : (g : Group) → is_bad_link small g r ≡ false → is_bad_link large g r ≡ false
    by Changesets e = e
    by Manifests e = ap not (h r.link (not_false (knows small Changesets r.link) e))
    by (FilesAt path) e = ap not (h r.link (not_false (knows small Changesets r.link) e))

module _ (all : List Revision) (h : ChangesetView) (is : IsKnown all Changesets (changeset_node h)) where
  manifest-link : (m : ManifestParents) → Each (HasLink all) (manifest_revision h m)
  manifest-link NoManifest = tt
  manifest-link (Over p q) = (ap not is, tt)

  rows-link : (rows : List Row) → Each (HasLink all) (map (file_revision (changeset_node h)) rows)
  rows-link [] = tt
  rows-link (row ∷ rows) = (ap not is, rows-link rows)

  view-link : Each (HasLink all) (revisions_of h)
  unfolding revisions_of
  view-link = (ap not (bytes_eq-self (changeset_node h)), Each-append (HasLink all) (manifest_revision h h.manifest) (map (file_revision (changeset_node h)) h.rows) (manifest-link h.manifest) (rows-link h.rows))

own-known : (all : List Revision) (h : ChangesetView) → Holds (revisions_of h) all → IsKnown all Changesets (changeset_node h)
unfolding revisions_of
own-known all h holds = (each-known (revisions_of h) all holds).0

pub links : (all : List Revision) (hs : List ChangesetView) → Holds (revisions_in hs) all → Each (HasLink all) (revisions_in hs)
links all [] holds = tt
links all (h ∷ hs) holds =
    Each-append (HasLink all) (revisions_of h) (revisions_in hs)
    (view-link all h (own-known all h (λ g n k. holds g n (holds-left (revisions_of h) (revisions_in hs) g n k))))
    (links all hs (λ g n k. holds g n (holds-right (revisions_of h) (revisions_in hs) g n k)))

-- ---- what can be added to the known revisions, one after the other

abbrev pub AreReady : List Revision → List Revision → Type 0
AreReady known [] = ⊤
AreReady known (r ∷ rs) = HasParents known r × HasLink known r × AreReady (known_after known r) rs

pub ready-append : (known rs more : List Revision) → AreReady known rs → AreReady (known_after_all known rs) more → AreReady known (rs ++ more)
ready-append known [] more are later = later
ready-append known (r ∷ rs) more are later = (are.0, are.1, ready-append (known_after known r) rs more are.2 later)

pub ready-front : (known rs more : List Revision) → AreReady known (rs ++ more) → AreReady known rs
ready-front known [] more are = tt
ready-front known (r ∷ rs) more are = (are.0, are.1, ready-front (known_after known r) rs more are.2)

pub ready-rest : (known rs more : List Revision) → AreReady known (rs ++ more) → AreReady (known_after_all known rs) more
ready-rest known [] more are = are
ready-rest known (r ∷ rs) more are = ready-rest (known_after known r) rs more are.2

-- those of a group
pub ready-group : (group : Group) (met known rs : List Revision) → HaveParents met rs → HoldsIn group met known → Each (λ r. r.group ≡ group → HasLink known r) rs → AreReady known (of_group group rs)
ready-group group met known [] parents holds linked = tt
ready-group group met known (r ∷ rs) parents holds linked =
    by (same_group group r.group) refl (λ k. ready-group group (met ++ r ∷ []) k rs parents.1)
  where
    more-links : (rs : List Revision) → Each (λ r. r.group ≡ group → HasLink known r) rs → Each (λ s. s.group ≡ group → HasLink (known_after known r) s) rs
    more-links [] l = tt
    more-links (s ∷ ss) l = ((λ e. has-link known (known_after known r) s (holds-after known r Changesets) (l.0 e)), more-links ss l.1)

    by : (b : Bool) → same_group group r.group ≡ b
        → ((k : List Revision) → HoldsIn group (met ++ r ∷ []) k → Each (λ s. s.group ≡ group → HasLink k s) rs → AreReady k (of_group group rs))
        → AreReady known (of_group group (r ∷ rs))
    by true e later =
        let is : group ≡ r.group = same_group-is group r.group e in
        rw e (
          has-parents met known r (subst (λ (g : Group). HoldsIn g met known) is holds) parents.0,
          linked.0 (sym is),
          later (known_after known r)
              (holds-both group met (r ∷ []) (known_after known r) (λ n k. holds-after known r group n (holds n k))
              (holds-each (r ∷ []) (known_after known r) (knows-after known r, tt) group))
              (more-links rs linked.1),
        )
    by false e later =
        rw e (later known (holds-both group met (r ∷ []) known holds (λ n k. absurd (other n k))) linked.1)
      where
        other : (n : Id) → IsKnown (r ∷ []) group n → ⊥
        other n k = true≢false (sym (both (same_group group r.group) (bytes_eq n r.node) (alone (is_of group n r) (sym (knows-cons r [] group n) ∙ k))).0 ∙ e)
          where
            alone : (b : Bool) → (b || false) ≡ true → b ≡ true
            alone true h = refl
            alone false h = h
