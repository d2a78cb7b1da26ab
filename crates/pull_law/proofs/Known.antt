-- What the known revisions and objects have in common, and those that are known behind others.
use Rattle.std.proofs.Common.{◌≡◌, ℕ, ◌+◌, length, Bool, true, false, not, ◌&&◌, ◌||◌, List, [], ◌∷◌, ◌++◌, None, refl, sym, ap, ◌∙◌, if◌then◌else◌}
use Rattle.std.specs.Prelude.{bytes_eq}
use Rattle.std.specs.List.{list_any}
use Rattle.std.proofs.lemmas.Slice.Eq.{bytes_eq-Decides}
use Rattle.text_model.specs.Lists.{Each}
use Rattle.text_model.specs.Id.{Id, null, is_null, node_id, object_id}
use Rattle.text_model.specs.Fault as fault
use Rattle.text_model.proofs.EachLemmas.{Each-push, Each-weaker}
use Rattle.text_model.proofs.Options.{or_parts, not_false}
use Rattle.text_model.proofs.TestLemmas.{both, bytes_eq-sym}
use Rattle.hg_model.specs.Revision.{Changesets, Manifests, Revision, is_of, same_group, is_otherwise, revision_of, knows, known_after, named_if, shape_fault, ancestry_fault, text_fault, addition_fault, known_after_all}
use Rattle.hg_model.proofs.RevisionLemmas.{first_name-two, first_name-three, named_if-None}
use Rattle.hg_store.specs.Known.{AreAddedTo}
use Rattle.hg_bundle.specs.Brought.{AreAdditions}
use Rattle.git_model.specs.Object.{Object, has_id, knows_object, objects_after, objects_after_all}
use Rattle.git_model.specs.Stream.{IsChecked}
use Rattle.view_model.specs.View.{ChangesetView, CommitView, changeset_node, commit_id}
use Rattle.view_model.specs.Held.{IsChangesetHeld, IsCommitHeld}
use Rattle.pull_law.specs.Sound.{HasOwnNode}
use Rattle.pull_law.proofs.Searches.{found, none-found}

-- ---- behind additions

module _ (P : Revision → Type 0) where
  after : (known : List Revision) (r : Revision) → Each P known → P r → Each P (known_after known r)
  after known r each own = by (knows known r.group r.node)
    where
      by : (b : Bool) → Each P (if b then known else known ++ r ∷ [])
      by true = each
      by false = Each-push P known r each own

  pub after-all : (known rs : List Revision) → Each P known → Each P rs → Each P (known_after_all known rs)
  after-all known [] each own = each
  after-all known (r ∷ rs) each own = after-all (known_after known r) rs (after known r each own.0) own.1

module _ (P : Object → Type 0) where
  object-after : (known : List Object) (o : Object) → Each P known → P o → Each P (objects_after known o)
  object-after known o each own = by (knows_object known o.id)
    where
      by : (b : Bool) → Each P (if b then known else known ++ o ∷ [])
      by true = each
      by false = Each-push P known o each own

  pub objects-after : (known os : List Object) → Each P known → Each P os → Each P (objects_after_all known os)
  objects-after known [] each own = each
  objects-after known (o ∷ os) each own = objects-after (objects_after known o) os (object-after known o each own.0) own.1

-- ---- what an addition shows

own-of : (known : List Revision) (r : Revision) → addition_fault known r ≡ None → HasOwnNode r
unfolding text_fault
own-of known r h =
    let parts = first_name-three (named_if (not (bytes_eq r.node (node_id r.p r.q r.text))) fault.NodeWrong) (shape_fault r.group r.text)
    (named_if (is_null r.node || list_any (is_otherwise r) known) fault.Collision)
    (first_name-two (ancestry_fault known r) (text_fault known r) h).1 in
    record {
      some = (or_parts (is_null r.node) (list_any (is_otherwise r) known) (named_if-None (is_null r.node || list_any (is_otherwise r) known) fault.Collision parts.2)).0;
      hash = (bytes_eq-Decides r.node (node_id r.p r.q r.text)).0
          (not_false (bytes_eq r.node (node_id r.p r.q r.text)) (named_if-None (not (bytes_eq r.node (node_id r.p r.q r.text))) fault.NodeWrong parts.0));
    }

own-additions : (known : List Revision) (sum : ℕ) (rs : List Revision) → AreAdditions known sum rs → Each HasOwnNode rs
own-additions known sum [] are = tt
own-additions known sum (r ∷ rs) are = (own-of known r are.0, own-additions (known_after known r) (sum + length r.text) rs are.2)

-- the revisions that are known when a bundle is read
pub own-after : (known : List Revision) (sum : ℕ) (rs : List Revision) → Each HasOwnNode known → AreAdditions known sum rs → Each HasOwnNode (known_after_all known rs)
own-after known sum rs own are = after-all HasOwnNode known rs own (own-additions known sum rs are)

-- the revisions that a store holds
pub own-added : (known rs : List Revision) → AreAddedTo known rs → Each HasOwnNode rs
own-added known [] added = tt
own-added known (r ∷ rs) added = (own-of known r (added.0).faultless, own-added (known ++ r ∷ []) rs added.1)

-- ---- no null ids

-- none of the revisions has the null id
abbrev pub AreSome : List Revision → Type 0
AreSome rs = Each (λ r. is_null r.node ≡ false) rs

-- the null id is that of no manifest
abbrev pub HasNoNull : List Revision → Type 0
HasNoNull known = revision_of known Manifests null ≡ None

pub own-some : (known : List Revision) → Each HasOwnNode known → AreSome known
own-some known own = Each-weaker HasOwnNode (λ r. is_null r.node ≡ false) (λ r h. h.some) known own

pub no-null : (known : List Revision) → AreSome known → HasNoNull known
no-null known some = none-found (is_of Manifests null) known
    (Each-weaker (λ r. is_null r.node ≡ false) (λ r. is_of Manifests null r ≡ false) other known some)
  where
    and-false : (b : Bool) → (b && false) ≡ false
    and-false true = refl
    and-false false = refl

    other : (r : Revision) → is_null r.node ≡ false → is_of Manifests null r ≡ false
    other r h = ap (λ (b : Bool). same_group Manifests r.group && b) (bytes_eq-sym null r.node ∙ h) ∙ and-false (same_group Manifests r.group)

-- ---- the id of what is held

-- a changeset that is held under a node has that node, which isn't null
pub held-node : (known : List Revision) (node : Id) (h : ChangesetView) → Each HasOwnNode known → IsChangesetHeld known node h
    → (changeset_node h ≡ node) × (is_null node ≡ false)
unfolding changeset_node
held-node known node h own held =
    let r = held.revision in
    let at = found HasOwnNode (is_of Changesets node) known r own held.is_held in
    let same : node ≡ r.node = (bytes_eq-Decides node r.node).0 (both (same_group Changesets r.group) (bytes_eq node r.node) at.1).1 in (
      (λ i. node_id (held.parents.0 i) (held.parents.1 i) (sym (held.fields).1 i)) ∙ sym (at.0).hash ∙ sym same,
      ap is_null same ∙ (at.0).some,
    )

-- a commit that is held under an id has that id
pub held-id : (objects : List Object) (id : Id) (c : CommitView) → IsChecked objects → IsCommitHeld objects id c → commit_id c ≡ id
unfolding commit_id
held-id objects id c checked held =
    let o = held.object in
    let at = found (λ (o : Object). o.id ≡ object_id o.kind o.content) (has_id id) objects o checked held.is_held in
    (λ i. object_id (sym held.kind i) (sym (held.text).1 i)) ∙ sym at.0 ∙ sym ((bytes_eq-Decides id o.id).0 at.1)
