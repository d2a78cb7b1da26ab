-- What a known revision shows: it was added to those before it.
use Rattle.std.proofs.Common.{◌≡◌, Bool, true, false, true≢false, not, ◌||◌, ◌&&◌, List, [], ◌∷◌, ◌++◌, Option, Some, None, refl, sym, ap, subst, ◌∙◌}
use Rattle.std.specs.Prelude.{find, is_some, bytes_eq}
use Rattle.std.specs.List.{list_any}
use Rattle.std.proofs.lemmas.Slice.Eq.{bytes_eq-Decides}
use Rattle.text_model.specs.Id.{Id, IsId, null, is_null, node_id}
use Rattle.text_model.proofs.Digests.{IsId-node_id}
use Rattle.text_model.proofs.HexLemmas.{IsId-null}
use Rattle.text_model.specs.Fault.{FaultName}
use Rattle.text_model.specs.Fault as fault
use Rattle.text_model.proofs.TestLemmas.{both}
use Rattle.text_model.proofs.Options.{not_false, or_parts, some_is}
use Rattle.hg_model.proofs.RevisionLemmas.{first_name-three, first_name-two, named_if-None, same_group-is}
use Rattle.hg_model.specs.Revision.{Group, Changesets, Manifests, FilesAt, Revision, knows, is_known_parent, is_bad_link, addition_fault, is_of, same_group, revision_of, is_otherwise, has_bad_order, order_fault, named_if, ancestry_fault, shape_fault, text_fault}
use Rattle.hg_store.specs.Known.{IsAddedTo, AreAddedTo, AreAdded}

-- node, parents and link are ids
pub record AreIds (r : Revision) : Type 0 where
  pub node : IsId r.node
  pub parents : IsId r.p × IsId r.q
  pub link : IsId r.link

-- one of the list that was added to those before it, and passes the test
pub record Found (group : Group) (node : Id) (r : Revision) : Type 0 where
  pub before : List Revision
  pub added : IsAddedTo before r
  pub group_is : r.group ≡ group
  pub node_is : r.node ≡ node

found_in : (known rs : List Revision) (group : Group) (node : Id) (r : Revision) → AreAddedTo known rs → find (is_of group node) rs ≡ Some r → Found group node r
found_in known [] group node r added at = absurd cc
found_in known (x ∷ xs) group node r added at = by (is_of group node x) refl (found_in (known ++ x ∷ []) xs group node r added.1)
  where
    here : is_of group node x ≡ true → Found group node x
    here t = let parts = both (same_group group x.group) (bytes_eq node x.node) t in
        record { before = known; added = added.0; group_is = sym (same_group-is group x.group parts.0); node_is = sym ((bytes_eq-Decides node x.node).0 parts.1) }

    by : (t : Bool) → is_of group node x ≡ t → (find (is_of group node) xs ≡ Some r → Found group node r) → Found group node r
    by true t later = subst (Found group node) (some_is (sym (rw t refl) ∙ at)) (here t)
    by false t later = later (sym (rw t refl) ∙ at)

pub found : (known : List Revision) (group : Group) (node : Id) (r : Revision) → AreAdded known → revision_of known group node ≡ Some r → Found group node r
found known group node r added at = found_in [] known group node r added at

-- ---- what its tests show

-- what an addition without a fault shows
module _ (known : List Revision) (r : Revision) (faultless : addition_fault known r ≡ None) where
  addition_parts : (ancestry_fault known r ≡ None) × (text_fault known r ≡ None)
  addition_parts = first_name-two (ancestry_fault known r) (text_fault known r) faultless

  ancestry_parts : (order_fault r.group r ≡ None) × (named_if (not (is_known_parent known r.group r.p && is_known_parent known r.group r.q)) fault.ParentUnknown ≡ None)
      × (named_if (is_bad_link known r.group r) fault.LinkUnknown ≡ None)
  unfolding ancestry_fault
  ancestry_parts = first_name-three _ _ _ addition_parts.0

  node_parts : named_if (not (bytes_eq r.node (node_id r.p r.q r.text))) fault.NodeWrong ≡ None
  unfolding text_fault
  node_parts = (first_name-three _ _ _ addition_parts.1).0

  is_id-node : IsId r.node
  is_id-node = subst IsId (sym ((bytes_eq-Decides r.node (node_id r.p r.q r.text)).0 (not_false _ (named_if-None _ fault.NodeWrong node_parts)))) (IsId-node_id r.p r.q r.text)

  -- the ids of the addition are ids
  pub are_ids : AreAdded known → AreIds r
  are_ids added = record {
    node = is_id-node;
    parents = (parent r.p both_known.0, parent r.q both_known.1);
    link = by_group r.group refl (named_if-None _ fault.LinkUnknown ancestry_parts.2);
  }
    where
      both_known : (is_known_parent known r.group r.p ≡ true) × (is_known_parent known r.group r.q ≡ true)
      both_known = both _ _ (not_false _ (named_if-None _ fault.ParentUnknown ancestry_parts.1))

      held : (group : Group) (id : Id) → knows known group id ≡ true → IsId id
      held group id is = by (revision_of known group id) refl is
        where
          by : (o : Option Revision) → revision_of known group id ≡ o → is_some o ≡ true → IsId id
          by None e t = absurd (true≢false (sym t))
          by (Some s) e t = let f = found known group id s added e in subst IsId f.node_is (f.added).node

      parent : (id : Id) → is_known_parent known r.group id ≡ true → IsId id
      parent id is = by (is_null id) refl is
        where
          by : (b : Bool) → is_null id ≡ b → (b || knows known r.group id) ≡ true → IsId id
          by true t e = subst IsId (sym ((bytes_eq-Decides id null).0 t)) IsId-null
          by false t e = held r.group id e

      by_group : (g : Group) → r.group ≡ g → is_bad_link known g r ≡ false → IsId r.link
      by_group Changesets e f = subst IsId (sym ((bytes_eq-Decides r.link r.node).0 (not_false _ f))) is_id-node
      by_group Manifests e f = held Changesets r.link (not_false _ f)
      by_group (FilesAt path) e f = held Changesets r.link (not_false _ f)

module _ (known : List Revision) (r : Revision) (added : IsAddedTo known r) where
  parts : (ancestry_fault known r ≡ None) × (text_fault known r ≡ None)
  parts = first_name-two (ancestry_fault known r) (text_fault known r) added.faultless

  text_parts : (named_if (not (bytes_eq r.node (node_id r.p r.q r.text))) fault.NodeWrong ≡ None) × (shape_fault r.group r.text ≡ None)
      × (named_if (is_null r.node || list_any (is_otherwise r) known) fault.Collision ≡ None)
  unfolding text_fault
  text_parts = first_name-three _ _ _ parts.1

  order_part : order_fault r.group r ≡ None
  unfolding ancestry_fault
  order_part = (first_name-three _ _ _ parts.0).0

  pub node_is : r.node ≡ node_id r.p r.q r.text
  node_is = (bytes_eq-Decides r.node (node_id r.p r.q r.text)).0 (not_false (bytes_eq r.node (node_id r.p r.q r.text)) (named_if-None (not (bytes_eq r.node (node_id r.p r.q r.text))) fault.NodeWrong text_parts.0))

  pub shape_is : shape_fault r.group r.text ≡ None
  shape_is = text_parts.1

  pub not_null : is_null r.node ≡ false
  not_null = (or_parts (is_null r.node) (list_any (is_otherwise r) known) (named_if-None (is_null r.node || list_any (is_otherwise r) known) fault.Collision text_parts.2)).0

  pub good_order : r.group ≡ Changesets → has_bad_order r ≡ false
  good_order e = named_if-None (has_bad_order r) fault.ParentOrder (sym (ap (λ (g : Group). order_fault g r) e) ∙ order_part)

-- a changeset with a null first parent has a null second one, and no parent stands twice
pub first_null : (r : Revision) → has_bad_order r ≡ false → r.p ≡ null → r.q ≡ null
first_null r h e = by (is_null r.q) refl
  where
    by : (b : Bool) → is_null r.q ≡ b → r.q ≡ null
    by true t = (bytes_eq-Decides r.q null).0 t
    by false t = absurd (true≢false (sym (rw ((bytes_eq-Decides r.p null).1 e, t) refl) ∙ h))

pub one_parent_twice : (r : Revision) → has_bad_order r ≡ false → r.p ≡ r.q → r.p ≡ null
one_parent_twice r h e = by (is_null r.p) refl
  where
    by : (b : Bool) → is_null r.p ≡ b → r.p ≡ null
    by true t = (bytes_eq-Decides r.p null).0 t
    by false t = absurd (true≢false (sym (rw (t, (bytes_eq-Decides r.p r.q).1 e) refl) ∙ h))
