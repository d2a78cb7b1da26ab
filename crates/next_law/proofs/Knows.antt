-- What lists of revisions know.
use Rattle.std.proofs.Common.{◌≡◌, Bool, true, false, true≢false, ◌||◌, List, [], ◌∷◌, ◌++◌, Option, Some, None, refl, sym, ap, subst, ◌∙◌, inl, inr}
use Rattle.std.specs.Prelude.{bytes_eq, is_some}
use Rattle.text_model.specs.Lists.{In}
use Rattle.text_model.specs.Id.{Id, is_null}
use Rattle.text_model.proofs.Elements.{in_left, in_right}
use Rattle.text_model.proofs.TestLemmas.{both, bytes_eq-is}
use Rattle.hg_model.specs.Revision.{Group, Changesets, Revision, is_of, revision_of, knows, same_group, is_known_parent}
use Rattle.hg_model.proofs.RevisionLemmas.{is_of-self, same_group-is}
use Rattle.view_model.specs.View.{ChangesetView, changeset_node}
use Rattle.view_model.specs.Dump.{own_revision, revisions_of, revisions_in}
use Rattle.next_law.proofs.LikeNew.{find-in}

abbrev pub Knows : List Revision → Group → Id → Type 0
Knows rs group node = knows rs group node ≡ true

pub in-knows : (r : Revision) (rs : List Revision) → In r rs → Knows rs r.group r.node
in-knows r [] i = absurd i
in-knows r (x ∷ rs) i = by (is_of r.group r.node x) refl i (in-knows r rs)
  where
    by : (t : Bool) → is_of r.group r.node x ≡ t → In r (x ∷ rs) → (In r rs → Knows rs r.group r.node) → Knows (x ∷ rs) r.group r.node
    by true e j go = rw e refl
    by false e (inl q) go = absurd (true≢false (sym (is_of-self r) ∙ ap (is_of r.group r.node) q ∙ e))
    by false e (inr j) go = rw e (go j)

-- one of them is the revision
pub record IsAmong (rs : List Revision) (group : Group) (node : Id) : Type 0 where
  pub it : Revision
  pub among : In it rs
  pub group_is : it.group ≡ group
  pub node_is : it.node ≡ node

pub among : (rs : List Revision) (group : Group) (node : Id) → Knows rs group node → IsAmong rs group node
among rs group node h = by (revision_of rs group node) refl
  where
    by : (o : Option Revision) → revision_of rs group node ≡ o → IsAmong rs group node
    by None e = absurd (true≢false (sym h ∙ ap is_some e))
    by (Some r) e =
        let at = find-in (is_of group node) rs r e in
        let parts = both (same_group group r.group) (bytes_eq node r.node) at.1 in
        record { it = r; among = at.0; group_is = sym (same_group-is group r.group parts.0); node_is = sym (bytes_eq-is node r.node parts.1) }

pub among-knows : (rs : List Revision) (group : Group) (node : Id) → IsAmong rs group node → Knows rs group node
among-knows rs group node a =
    subst (λ (n : Id). Knows rs group n) a.node_is (subst (λ (g : Group). Knows rs g (a.it).node) a.group_is (in-knows a.it rs a.among))

pub knows-left : (xs ys : List Revision) (group : Group) (node : Id) → Knows xs group node → Knows (xs ++ ys) group node
knows-left xs ys group node h =
    let a = among xs group node h in
    among-knows (xs ++ ys) group node (record { it = a.it; among = in_left a.it xs ys a.among; group_is = a.group_is; node_is = a.node_is })

pub knows-right : (xs ys : List Revision) (group : Group) (node : Id) → Knows ys group node → Knows (xs ++ ys) group node
knows-right xs ys group node h =
    let a = among ys group node h in
    among-knows (xs ++ ys) group node (record { it = a.it; among = in_right a.it xs ys a.among; group_is = a.group_is; node_is = a.node_is })

or-true : (a b : Bool) → b ≡ true → (a || b) ≡ true
or-true true b e = refl
or-true false b e = e

pub known-parent : (rs : List Revision) (group : Group) (node : Id) → Knows rs group node → is_known_parent rs group node ≡ true
known-parent rs group node h = or-true (is_null node) (knows rs group node) h

pub null-parent : (rs : List Revision) (group : Group) (node : Id) → is_null node ≡ true → is_known_parent rs group node ≡ true
null-parent rs group node h = rw h refl

pub parent-left : (xs ys : List Revision) (group : Group) (node : Id) → is_known_parent xs group node ≡ true → is_known_parent (xs ++ ys) group node ≡ true
parent-left xs ys group node h = by (is_null node) refl
  where
    by : (t : Bool) → is_null node ≡ t → is_known_parent (xs ++ ys) group node ≡ true
    by true e = rw e refl
    by false e = let k : knows xs group node ≡ true = rw e at h in known-parent (xs ++ ys) group node (knows-left xs ys group node k)

-- ---- what changesets refer to

pub in-revisions : (r : Revision) (h : ChangesetView) (hs : List ChangesetView) → In h hs → In r (revisions_of h) → In r (revisions_in hs)
in-revisions r h [] i j = absurd i
in-revisions r h (x ∷ hs) (inl e) j = in_left r (revisions_of x) (revisions_in hs) (subst (λ (v : ChangesetView). In r (revisions_of v)) e j)
in-revisions r h (x ∷ hs) (inr i) j = in_right r (revisions_of x) (revisions_in hs) (in-revisions r h hs i j)

own-first : (h : ChangesetView) → In (own_revision h) (revisions_of h)
unfolding revisions_of
own-first h = inl refl

pub knows-own : (h : ChangesetView) (hs : List ChangesetView) → In h hs → Knows (revisions_in hs) Changesets (changeset_node h)
knows-own h hs i = in-knows (own_revision h) (revisions_in hs) (in-revisions (own_revision h) h hs i (own-first h))
