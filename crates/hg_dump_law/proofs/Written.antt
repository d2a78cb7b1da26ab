-- What is written is like what is known: it can be added to revisions of the same store.
use Rattle.std.proofs.Common.{◌≡◌, ℕ, ◌+◌, ◌≤◌, ◌^◌, ◌&&◌, ◌||◌, ◌⊎◌, inl, inr, Bool, true, false, List, [], ◌∷◌, ◌++◌, length, Some, None, refl, sym, ap, subst, ◌∙◌, arith}
use Rattle.std.specs.Prelude.{bytes_eq, sum_by, if◌then◌else◌}
use Rattle.std.specs.List.{list_any}
use Rattle.std.proofs.lemmas.List.Sums.{sum_by-cons}
use Rattle.std.proofs.lemmas.Slice.Eq.{bytes_eq-Decides}
use Rattle.text_model.specs.Lists.{Each}
use Rattle.text_model.specs.Text.{Bytes}
use Rattle.text_model.specs.Id.{Id, IsId, is_null, node_id}
use Rattle.text_model.specs.Fault as fault
use Rattle.text_model.proofs.OrderLemmas.{node_id-either_order}
use Rattle.text_model.proofs.TestLemmas.{both, bytes_eq-self}
use Rattle.text_model.proofs.Options.{some_is}
use Rattle.hg_model.proofs.ParentOrder.{file_order-either, manifest_order-either}
use Rattle.hg_model.specs.FileText.{file_order}
use Rattle.hg_model.specs.Revision.{Group, Changesets, Manifests, FilesAt, Revision, revision_of, knows, known_after, same_revision, same_parents, is_otherwise, has_bad_order, order_fault, shape_fault, first_name, ancestry_fault, text_fault, addition_fault, known_after_all}
use Rattle.hg_model.specs.Reading.{sum_limit, text_limit}
use Rattle.hg_bundle.specs.Brought.{AreAdditions}
use Rattle.hg_store.specs.Known.{AreAdded, HasFitPath}
use Rattle.hg_store.proofs.Found.{found, good_order, node_is, not_null, shape_is}
use Rattle.hg_dump.specs.Written.{AreParentsOf, IsHeldIn}
use Rattle.hg_dump_law.specs.Taken.{IsOneOf, HasParents}
use Rattle.hg_dump_law.proofs.Known.{is_of-is}
use Rattle.hg_dump_law.proofs.Earlier.{HasLink, AreReady}

-- ---- parents

-- two pairs without an order are the same
abbrev pub IsSamePair : Id → Id → Id → Id → Type 0
IsSamePair a b c d = ((a ≡ c) × (b ≡ d)) ⊎ ((a ≡ d) × (b ≡ c))

pub pair-is : (a b c d : Id) → ((bytes_eq a c && bytes_eq b d) || (bytes_eq a d && bytes_eq b c)) ≡ true → IsSamePair a b c d
pair-is a b c d h = by (bytes_eq a c && bytes_eq b d) refl
  where
    by : (t : Bool) → (bytes_eq a c && bytes_eq b d) ≡ t → IsSamePair a b c d
    by true e = let p = both (bytes_eq a c) (bytes_eq b d) e in inl ((bytes_eq-Decides a c).0 p.0, (bytes_eq-Decides b d).0 p.1)
    by false e = let p = both (bytes_eq a d) (bytes_eq b c) (sym (rw e refl) ∙ h) in inr ((bytes_eq-Decides a d).0 p.0, (bytes_eq-Decides b c).0 p.1)

pair-test : (a b c d : Id) → IsSamePair a b c d → ((bytes_eq a c && bytes_eq b d) || (bytes_eq a d && bytes_eq b c)) ≡ true
pair-test a b c d (inl e) = rw ((bytes_eq-Decides a c).1 e.0, (bytes_eq-Decides b d).1 e.1) refl
pair-test a b c d (inr e) = by (bytes_eq a c && bytes_eq b d) refl
  where
    by : (t : Bool) → (bytes_eq a c && bytes_eq b d) ≡ t → ((bytes_eq a c && bytes_eq b d) || (bytes_eq a d && bytes_eq b c)) ≡ true
    by true t = rw t refl
    by false t = rw (t, (bytes_eq-Decides a d).1 e.0, (bytes_eq-Decides b c).1 e.1) refl

pair-joins : (a b c d e f : Id) → IsSamePair a b e f → IsSamePair c d e f → IsSamePair a b c d
pair-joins a b c d e f (inl x) (inl y) = inl (x.0 ∙ sym y.0, x.1 ∙ sym y.1)
pair-joins a b c d e f (inl x) (inr y) = inr (x.0 ∙ sym y.1, x.1 ∙ sym y.0)
pair-joins a b c d e f (inr x) (inl y) = inr (x.0 ∙ sym y.1, x.1 ∙ sym y.0)
pair-joins a b c d e f (inr x) (inr y) = inl (x.0 ∙ sym y.0, x.1 ∙ sym y.1)

-- two that have the parents of a third have each other's
parents-join : (g : Group) (a b c d e f : Id) → same_parents g a b e f ≡ true → same_parents g c d e f ≡ true → same_parents g a b c d ≡ true
parents-join Changesets a b c d e f x y =
    let p = both (bytes_eq a e) (bytes_eq b f) x in
    let q = both (bytes_eq c e) (bytes_eq d f) y in
    rw ((bytes_eq-Decides a c).1 ((bytes_eq-Decides a e).0 p.0 ∙ sym ((bytes_eq-Decides c e).0 q.0)), (bytes_eq-Decides b d).1 ((bytes_eq-Decides b f).0 p.1 ∙ sym ((bytes_eq-Decides d f).0 q.1))) refl
parents-join Manifests a b c d e f x y = pair-test a b c d (pair-joins a b c d e f (pair-is a b e f x) (pair-is c d e f y))
parents-join (FilesAt path) a b c d e f x y = pair-test a b c d (pair-joins a b c d e f (pair-is a b e f x) (pair-is c d e f y))

-- what is the same for both orders of the parents, and those of a changeset have one
module _ (known : List Revision) (k : Revision) where
  parents-either : (P : Id × Id → Type 0) (g : Group) (node : Id) (pair : Id × Id) → revision_of known g node ≡ Some k → AreParentsOf known g node k pair → P (k.p, k.q) → P (k.q, k.p) → P pair
  parents-either P Changesets node pair at are a b = subst P (sym are) a
  parents-either P Manifests node pair at are a b = subst P (sym are) (manifest_order-either P k.p k.q a b)
  parents-either P (FilesAt path) node pair at are a b =
      let same : k ≡ are.revision = some_is (sym at ∙ are.is_held) in
      subst P (sym (are.in_order ∙ (λ i. file_order are.meta (sym same i).p (sym same i).q))) (file_order-either P are.meta k.p k.q a b)

  parents-same : (g : Group) (node : Id) (pair : Id × Id) → revision_of known g node ≡ Some k → AreParentsOf known g node k pair → same_parents g pair.0 pair.1 k.p k.q ≡ true
  parents-same Changesets node pair at are = subst (λ (o : Id × Id). same_parents Changesets o.0 o.1 k.p k.q ≡ true) (sym are) (rw (bytes_eq-self k.p, bytes_eq-self k.q) refl)
  parents-same Manifests node pair at are =
      parents-either (λ o. same_parents Manifests o.0 o.1 k.p k.q ≡ true) Manifests node pair at are (pair-test k.p k.q k.p k.q (inl (refl, refl))) (pair-test k.q k.p k.p k.q (inr (refl, refl)))
  parents-same (FilesAt path) node pair at are =
      parents-either (λ o. same_parents (FilesAt path) o.0 o.1 k.p k.q ≡ true) (FilesAt path) node pair at are (pair-test k.p k.q k.p k.q (inl (refl, refl))) (pair-test k.q k.p k.p k.q (inr (refl, refl)))

-- ---- a revision that is written

-- what a revision shows by itself
pub record IsWritten (known : List Revision) (r : Revision) : Type 0 where
  pub one : IsOneOf known r
  pub order : order_fault r.group r ≡ None
  pub node : r.node ≡ node_id r.p r.q r.text
  pub shape : shape_fault r.group r.text ≡ None
  pub some : is_null r.node ≡ false
  pub ids : IsId r.node × IsId r.p × IsId r.q
  pub path : HasFitPath r.group
  pub short : length r.text ≤ 2 ^ 26

module _ (known : List Revision) (added : AreAdded known) (r : Revision) (held : IsHeldIn known r.group r) where
  abbrev k : Revision
  k = held.revision

  order-none : (g : Group) → (g ≡ Changesets → has_bad_order r ≡ false) → order_fault g r ≡ None
  order-none Changesets h = ap (λ (b : Bool). if b then Some fault.ParentOrder else None) (h refl)
  order-none Manifests h = refl
  order-none (FilesAt path) h = refl

  good : (g : Group) → AreParentsOf known g r.node k (r.p, r.q) → (g ≡ Changesets → has_bad_order k ≡ false) → g ≡ Changesets → has_bad_order r ≡ false
  good Changesets are h e = (λ i. has_bad_order (record { group = r.group; node = r.node; p = (are i).0; q = (are i).1; link = r.link; text = r.text })) ∙ h refl
  good Manifests are h e = absurd cc
  good (FilesAt path) are h e = absurd cc

  pub is-written : IsWritten known r
  is-written =
      let of = found known r.group r.node k added held.is_held in
      let same = parents-same known k r.group r.node (r.p, r.q) held.is_held held.parents in
      let node : node_id r.p r.q k.text ≡ node_id k.p k.q k.text =
      parents-either known k (λ o. node_id o.0 o.1 k.text ≡ node_id k.p k.q k.text) r.group r.node (r.p, r.q) held.is_held held.parents refl (node_id-either_order k.q k.p k.text) in
      let ids : IsId r.p × IsId r.q =
      parents-either known k (λ o. IsId o.0 × IsId o.1) r.group r.node (r.p, r.q) held.is_held held.parents (of.added).parents ((of.added).parents.1, (of.added).parents.0) in
      record {
        one = record { revision = k; is_held = held.is_held; text = held.text; parents = same };
        order = order-none r.group (good r.group held.parents (λ e. good_order of.before k of.added (of.group_is ∙ e)));
        node = sym of.node_is ∙ node_is of.before k of.added ∙ sym node ∙ ap (node_id r.p r.q) (sym held.text);
        shape = (λ i. shape_fault (sym of.group_is i) (held.text i)) ∙ shape_is of.before k of.added;
        some = ap is_null (sym of.node_is) ∙ not_null of.before k of.added;
        ids = (subst IsId of.node_is (of.added).node, ids.0, ids.1);
        path = subst HasFitPath of.group_is (of.added).path;
        short = subst (λ (t : Bytes). length t ≤ 2 ^ 26) (sym held.text) (of.added).short;
      }

pub each-written : (known : List Revision) → AreAdded known → (rs : List Revision) → Each (λ r. IsHeldIn known r.group r) rs → Each (IsWritten known) rs
each-written known added [] held = tt
each-written known added (r ∷ rs) held = (is-written known added r held.0, each-written known added rs held.1)

-- ---- additions

-- two of one store with the same node are the same
no-collision : (known : List Revision) (r : Revision) (xs : List Revision) → IsOneOf known r → Each (IsOneOf known) xs → list_any (is_otherwise r) xs ≡ false
no-collision known r [] one are = refl
no-collision known r (x ∷ xs) one are = by (same_revision r x) refl (no-collision known r xs one are.1)
  where
    by : (b : Bool) → same_revision r x ≡ b → list_any (is_otherwise r) xs ≡ false → list_any (is_otherwise r) (x ∷ xs) ≡ false
    by false e rest = rw e rest
    by true e rest =
        let is = is_of-is r.group r.node x e in
        let same : (are.0).revision ≡ one.revision = some_is (sym (are.0).is_held ∙ (λ i. revision_of known (sym is.group_is i) (sym is.node_is i)) ∙ one.is_held) in
        let text : bytes_eq r.text x.text ≡ true = (bytes_eq-Decides r.text x.text).1 (one.text ∙ ap (λ (s : Revision). s.text) (sym same) ∙ sym (are.0).text) in
        let parents : same_parents r.group r.p r.q x.p x.q ≡ true =
        parents-join r.group r.p r.q x.p x.q (one.revision).p (one.revision).q one.parents
        ((λ i. same_parents (is.group_is i) x.p x.q (sym same i).p (sym same i).q) ∙ (are.0).parents) in
        rw (e, text, parents) rest

pub can-add : (known base : List Revision) (r : Revision) → IsWritten known r → Each (IsOneOf known) base → HasParents base r → HasLink base r → addition_fault base r ≡ None
unfolding ancestry_fault text_fault
can-add known base r is are parents link = (λ i. first_name (ancestry i ∷ texts i ∷ []))
  where
    ancestry : ancestry_fault base r ≡ None
    ancestry = rw (is.order, parents.0, parents.1, link) refl

    texts : text_fault base r ≡ None
    texts = rw ((bytes_eq-Decides r.node (node_id r.p r.q r.text)).1 is.node, is.shape, is.some, no-collision known r base is.one are) refl

pub each-one : (known base : List Revision) (r : Revision) → IsOneOf known r → Each (IsOneOf known) base → Each (IsOneOf known) (known_after base r)
each-one known base r one are = by (knows base r.group r.node) refl
  where
    last : (xs : List Revision) → Each (IsOneOf known) xs → Each (IsOneOf known) (xs ++ r ∷ [])
    last [] h = (one, tt)
    last (x ∷ xs) h = (h.0, last xs h.1)

    by : (b : Bool) → knows base r.group r.node ≡ b → Each (IsOneOf known) (known_after base r)
    by true e = rw e are
    by false e = rw e (last base are)

pub each-one-all : (known base rs : List Revision) → Each (IsWritten known) rs → Each (IsOneOf known) base → Each (IsOneOf known) (known_after_all base rs)
each-one-all known base [] written are = are
each-one-all known base (r ∷ rs) written are = each-one-all known (known_after base r) rs written.1 (each-one known base r (written.0).one are)

pub additions : (known base : List Revision) (sum : ℕ) (rs : List Revision) → Each (IsOneOf known) base → Each (IsWritten known) rs → AreReady base rs
    → Each (λ r. length r.text ≤ text_limit r.group) rs → sum + sum_by (λ r. length r.text) rs ≤ sum_limit → AreAdditions base sum rs
additions known base sum [] are written ready short within = omega (arith, within)
additions known base sum (r ∷ rs) are written ready short within = (
  can-add known base r written.0 are ready.0 ready.1,
  short.0,
  additions known (known_after base r) (sum + length r.text) rs (each-one known base r (written.0).one are) written.1 ready.2 short.1 (omega (arith, within, sum_by-cons (λ (s : Revision). length s.text) r rs)),
)
